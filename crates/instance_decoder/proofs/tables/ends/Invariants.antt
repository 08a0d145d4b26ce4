use Rattle.std.proofs.Common.{◌≡◌, take, vec_len}
use Rattle.instance_decoder.specs.Tables.{HoldsEnds}
use Rattle.instance_decoder.proofs.tables.ends.Given as goal

abbrev pub invariant-loop-edge : goal.invariant-loop-edge
invariant-loop-edge l = record {
  len : vec_len l.table ≡ l.count;
  holds : HoldsEnds l.bits (take l.edge-index l.edges) l.table.items;
}
