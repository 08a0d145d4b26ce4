use Rattle.std.proofs.Common.{arith, ap, ◌++◌, List, Option}
use Rattle.clf_tree.specs.declared.instance.Entry.{Entry}
use Rattle.shown_instance.specs.Packed.{aligned}
use Rattle.instance_decoder.proofs.Filling.{aligned_more, aligned_all, taken_few}
use Rattle.instance_decoder.proofs.packing.by_slot.Goals as goal

pub loop-at-init : goal.loop-at-init
loop-at-init c = record {
  few = omega arith;
  whole = ap (λ (t : List (Option Entry)). t ++ aligned c.args.slots.now c.args.entries.now) c.new-table.ensures;
}

pub after-next-requires : goal.after-next-requires
after-next-requires c = omega (arith, c.loop-at.invariant.few, c.loop-at-test.true, c.len-at-end.type_inv)

pub loop-at-preserved : goal.loop-at-preserved
loop-at-preserved c = record {
  few = omega (arith, c.loop-at.invariant.few, c.after-next.ensures, taken_few c.next_of-entry.result);
  whole = aligned_more c.args.slots.now c.args.entries.now c.loop-at.at c.loop-at.next c.after-next.result c.get.result.now c.next_of-entry.result c.loop-at.table c.push.new.self
      c.get.ensures c.next_of-entry.ensures c.after-next.ensures c.in_ok-push.ensures.ok c.loop-at.invariant.whole;
}

pub returns : goal.returns
returns c = aligned_all c.args.slots.now c.args.entries.now c.loop-at.at c.loop-at.next c.loop-at.table (omega (arith, c.len-at-end.ensures)) c.loop-at.invariant.whole
