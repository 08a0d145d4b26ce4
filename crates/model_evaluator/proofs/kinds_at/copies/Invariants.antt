use Rattle.std.proofs.Common.{◌≡◌, take}
use Rattle.model_evaluator.proofs.kinds_at.copies.Given as goal

abbrev pub invariant-loop-list : goal.invariant-loop-list
invariant-loop-list l = l.all ≡ take l.list-index l.lists
