use Rattle.reading_laws.proofs.Unrefused.{typed_is_unrefused}
use Rattle.reading_laws.proofs.refused_where_untyped.Goals as goal

pub returns : goal.returns
returns c = λ model named. typed_is_unrefused model named
