use Rattle.std.proofs.Common.{◌≡◌}
use Rattle.std.specs.List.{filter, list_any}
use Rattle.clf_tree.specs.Lists.{has, numbers_below}
use Rattle.clf_tree.specs.Hierarchy.{owners}
use Rattle.family_checks.proofs.search.owners_of.Given as goal

abbrev pub invariant-loop-number : goal.invariant-loop-number
invariant-loop-number l = l.found ≡ filter (λ o. list_any (λ d. has (owners l.clafers d) o) l.of) (numbers_below l.number)
