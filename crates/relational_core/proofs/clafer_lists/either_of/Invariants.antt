use Rattle.std.proofs.Common.{◌≡◌, ◌&&◌, ◌||◌}
use Rattle.std.specs.List.{filter}
use Rattle.clf_tree.specs.Lists.{numbers_below, has}
use Rattle.relational_core.specs.Lowered.{is_possible}
use Rattle.relational_core.proofs.clafer_lists.either_of.Given as goal

abbrev pub invariant-loop-number : goal.invariant-loop-number
invariant-loop-number l = l.found ≡ filter (λ d. is_possible l.clafers l.scopes d && (has l.left d || has l.right d)) (numbers_below l.number)
