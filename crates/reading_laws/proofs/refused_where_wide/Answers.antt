use Rattle.model_weight.proofs.Narrowness.{narrow_model}
use Rattle.reading_laws.proofs.Wide.{none_refused}
use Rattle.reading_laws.proofs.refused_where_wide.Goals as goal

pub returns : goal.returns
returns c = λ scopes model. (narrow_model c.finds_first.ensures scopes model, none_refused scopes model)
