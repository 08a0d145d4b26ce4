use Rattle.refusal_order.proofs.Least.{finds_first}
use Rattle.refusal_order.proofs.finds_first.Goals as goal

pub returns : goal.returns
returns c = finds_first
