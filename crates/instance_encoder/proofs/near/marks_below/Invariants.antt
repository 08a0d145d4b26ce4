use Rattle.std.proofs.Common.{◌≡◌, map, vec_len}
use Rattle.std.specs.Prelude.{◌&&◌}
use Rattle.clf_tree.specs.Lists.{numbers_below}
use Rattle.clf_tree.specs.Hierarchy.{is_a, is_concrete}
use Rattle.instance_encoder.proofs.near.marks_below.Given as goal

abbrev pub invariant-loop-low : goal.invariant-loop-low
invariant-loop-low l = record {
  len : vec_len l.marks ≡ l.low;
  marks : l.marks.items ≡ map (λ d. is_concrete l.clafers d && is_a l.clafers d l.high) (numbers_below l.low);
}
