use Rattle.std.proofs.Common.{◌≡◌, take, vec_len}
use Rattle.instance_tables.specs.Tables.{HoldsEntries}
use Rattle.instance_tables.proofs.places.entry_places.Given as goal

abbrev pub invariant-loop-entry : goal.invariant-loop-entry
invariant-loop-entry l = record {
  len : vec_len l.places ≡ l.slots.count;
  holds : HoldsEntries l.slots.scopes (take l.entry-index l.entries) l.places.items;
}
