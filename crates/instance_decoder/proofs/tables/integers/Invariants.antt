use Rattle.std.proofs.Common.{◌≡◌, take, vec_len}
use Rattle.instance_decoder.specs.Tables.{HoldsIntegers}
use Rattle.instance_decoder.proofs.tables.integers.Given as goal

abbrev pub invariant-loop-at : goal.invariant-loop-at
invariant-loop-at l = record {
  len : vec_len l.table ≡ l.count;
  holds : HoldsIntegers l.bits (take l.at l.values) l.table.items;
}
