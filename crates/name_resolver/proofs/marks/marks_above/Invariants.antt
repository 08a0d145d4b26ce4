use Rattle.std.proofs.Common.{◌≡◌, length, vec_len, take}
use Rattle.name_resolver.specs.Marks.{MarksAbove}
use Rattle.name_resolver.proofs.marks.marks_above.Given as goal

abbrev pub invariant-loop-clafer : goal.invariant-loop-clafer
invariant-loop-clafer l = record {
  sized : vec_len l.marks ≡ length l.clafers;
  marked : MarksAbove l.clafers (take l.clafer-index l.clafer-items) l.marks.items;
}
