use Rattle.std.proofs.Common.{◌≡◌, ◌&&◌, false}
use Rattle.std.specs.List.{list_any}
use Rattle.clf_tree.specs.Lists.{numbers_below}
use Rattle.clf_tree.specs.Hierarchy.{is_one_of}
use Rattle.clf_tree.proofs.references.share.Given as goal

abbrev pub invariant-loop-c : goal.invariant-loop-c
invariant-loop-c l = list_any (λ d. is_one_of l.clafers l.ks d && is_one_of l.clafers l.ls d) (numbers_below l.c) ≡ false
