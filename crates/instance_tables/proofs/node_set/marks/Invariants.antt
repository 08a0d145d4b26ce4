use Rattle.std.proofs.Common.{◌≡◌, take, vec_len}
use Rattle.instance_tables.specs.Tables.{HoldsMembers}
use Rattle.instance_tables.proofs.node_set.marks.Given as goal

abbrev pub invariant-loop-node : goal.invariant-loop-node
invariant-loop-node l = record {
  len : vec_len l.marks ≡ l.slots.count;
  holds : HoldsMembers l.slots.scopes (take l.node-index l.nodes) l.marks.items;
}
