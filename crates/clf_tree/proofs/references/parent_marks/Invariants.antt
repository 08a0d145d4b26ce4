use Rattle.std.proofs.Common.{◌≡◌, length, vec_len}
use Rattle.clf_tree.specs.Lists.{numbers_below}
use Rattle.clf_tree.specs.Marks.{MarksParents}
use Rattle.clf_tree.proofs.references.parent_marks.Given as goal

abbrev pub invariant-loop-c : goal.invariant-loop-c
invariant-loop-c l = record {
  sized : vec_len l.marks ≡ length l.clafers;
  marked : MarksParents l.clafers l.ks (numbers_below l.c) l.marks.items;
}
