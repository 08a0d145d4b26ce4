use Rattle.std.proofs.Common.{◌≡◌, ◌&&◌}
use Rattle.std.specs.List.{filter, list_any}
use Rattle.clf_tree.specs.Lists.{numbers_below}
use Rattle.clf_tree.specs.Hierarchy.{is_one_of}
use Rattle.relational_core.specs.Lowered.{is_possible, can_hold}
use Rattle.relational_core.proofs.clafer_lists.children_of.Given as goal

abbrev pub invariant-loop-number : goal.invariant-loop-number
invariant-loop-number l = l.found ≡ filter (λ d. is_possible l.clafers l.scopes d && (is_one_of l.clafers l.ks d && list_any (λ p. can_hold l.clafers p d) l.parents)) (numbers_below l.number)
