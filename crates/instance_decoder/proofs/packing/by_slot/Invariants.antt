use Rattle.std.proofs.Common.{◌≡◌, ◌≤◌, ◌++◌, drop}
use Rattle.shown_instance.specs.Packed.{aligned}
use Rattle.instance_decoder.proofs.packing.by_slot.Given as goal

abbrev pub invariant-loop-at : goal.invariant-loop-at
invariant-loop-at l = record {
  few : l.next ≤ l.at;
  whole : l.table ++ aligned (drop l.at l.slots) (drop l.next l.entries) ≡ aligned l.slots l.entries;
}
