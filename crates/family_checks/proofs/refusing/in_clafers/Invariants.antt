use Rattle.std.proofs.Common.{◌≡◌, None}
use Rattle.std.specs.List.{flat_map}
use Rattle.refusal_order.specs.Order.{with_refusals}
use Rattle.clf_tree.specs.Lists.{numbers_below}
use Rattle.family_checks.specs.Families.{clafer_refusals}
use Rattle.family_checks.proofs.refusing.in_clafers.Given as goal

-- the first so far
abbrev pub invariant-loop-number : goal.invariant-loop-number
invariant-loop-number l = l.first ≡ with_refusals None (flat_map (clafer_refusals l.clafers) (numbers_below l.number))
