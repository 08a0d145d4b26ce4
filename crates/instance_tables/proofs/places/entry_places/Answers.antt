use Rattle.std.proofs.Common.{None, take}
use Rattle.clf_tree.specs.declared.instance.Entry.{Entry}
use Rattle.instance_tables.proofs.Placing.{entries_more, entries_all}
use Rattle.instance_tables.proofs.places.entry_places.Goals as goal

default_entry : Entry
default_entry = record { node = record { clafer = 0; number = 0 }; parent = None; target = None }

pub loop-entry-preserved : goal.loop-entry-preserved
unfolding default_entry
loop-entry-preserved c = record {
  len = c.place.ensures.len;
  holds = entries_more c.args.slots.now.scopes c.args.entries.now c.as_slice-entry-items.result.now c.loop-entry.entry-index default_entry c.place.new.places.items c.as_slice-entry-items.ensures c.loop-entry-test.true
      (c.place.ensures.placed (take c.loop-entry.entry-index c.args.entries.now) c.loop-entry.invariant.holds);
}

pub returns : goal.returns
returns c = (
  c.loop-entry.invariant.len,
  entries_all c.args.slots.now.scopes c.args.entries.now c.as_slice-entry-items.result.now c.loop-entry.entry-index c.loop-entry.places.items c.as_slice-entry-items.ensures c.loop-entry-test.false c.loop-entry.invariant.holds,
)
