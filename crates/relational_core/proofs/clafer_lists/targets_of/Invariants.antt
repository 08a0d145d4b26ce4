use Rattle.std.proofs.Common.{◌≡◌, ◌&&◌}
use Rattle.std.specs.List.{filter, list_any}
use Rattle.clf_tree.specs.Lists.{numbers_below}
use Rattle.relational_core.specs.Lowered.{is_possible, can_reach}
use Rattle.relational_core.proofs.clafer_lists.targets_of.Given as goal

abbrev pub invariant-loop-number : goal.invariant-loop-number
invariant-loop-number l = l.found ≡ filter (λ d. is_possible l.clafers l.scopes d && list_any (λ x. can_reach l.clafers x d) l.from) (numbers_below l.number)
