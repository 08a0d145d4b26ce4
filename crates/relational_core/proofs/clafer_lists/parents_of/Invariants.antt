use Rattle.std.proofs.Common.{◌≡◌, ◌&&◌}
use Rattle.std.specs.List.{filter, list_any}
use Rattle.clf_tree.specs.Lists.{numbers_below}
use Rattle.relational_core.specs.Lowered.{is_possible, can_hold}
use Rattle.relational_core.proofs.clafer_lists.parents_of.Given as goal

abbrev pub invariant-loop-number : goal.invariant-loop-number
invariant-loop-number l = l.found ≡ filter (λ d. is_possible l.clafers l.scopes d && list_any (can_hold l.clafers d) l.children) (numbers_below l.number)
