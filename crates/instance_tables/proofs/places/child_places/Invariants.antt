use Rattle.std.proofs.Common.{◌≡◌, take, vec_len}
use Rattle.instance_tables.specs.Tables.{HoldsChildren}
use Rattle.instance_tables.proofs.places.child_places.Given as goal

abbrev pub invariant-loop-entry : goal.invariant-loop-entry
invariant-loop-entry l = record {
  len : vec_len l.below ≡ l.slots.count;
  holds : HoldsChildren l.slots.scopes (take l.entry-index l.entries) l.below.items;
}
