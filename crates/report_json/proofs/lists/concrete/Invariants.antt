-- The concrete clafers so far.
use Rattle.std.proofs.Common.{◌≡◌}
use Rattle.std.specs.List.{filter}
use Rattle.clf_tree.specs.Lists.{numbers_below}
use Rattle.clf_tree.specs.Hierarchy.{is_concrete}
use Rattle.report_json.proofs.lists.concrete.Given as goal

abbrev pub invariant-loop-clafer : goal.invariant-loop-clafer
invariant-loop-clafer l = l.list ≡ filter (is_concrete l.clafers) (numbers_below l.clafer)
