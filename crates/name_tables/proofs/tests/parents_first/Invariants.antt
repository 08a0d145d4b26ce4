use Rattle.std.proofs.Common.{◌≡◌, true}
use Rattle.std.specs.List.{list_all}
use Rattle.clf_tree.specs.Lists.{numbers_below}
use Rattle.clf_tree.specs.Named.{follows_parent}
use Rattle.name_tables.proofs.tests.parents_first.Given as goal

-- each so far stands behind its parent
abbrev pub invariant-loop-clafer : goal.invariant-loop-clafer
invariant-loop-clafer l = list_all (follows_parent l.clafers) (numbers_below l.clafer) ≡ true
