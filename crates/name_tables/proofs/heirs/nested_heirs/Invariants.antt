use Rattle.std.proofs.Common.{◌≡◌, length, vec_len}
use Rattle.name_tables.specs.Tables.{AreHeirs}
use Rattle.name_tables.proofs.heirs.nested_heirs.Given as goal

abbrev pub invariant-loop-clafer : goal.invariant-loop-clafer
invariant-loop-clafer l = record {
  sized : vec_len l.heirs ≡ length l.clafers;
  are : AreHeirs l.clafers l.clafer l.heirs.items;
}
