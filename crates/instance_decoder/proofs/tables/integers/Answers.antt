use Rattle.std.proofs.Common.{take, ◌∙◌, arith}
use Rattle.instance_decoder.proofs.Noting.{integers_more, integers_all}
use Rattle.instance_decoder.proofs.tables.integers.Goals as goal

pub loop-at-preserved : goal.loop-at-preserved
loop-at-preserved c = record {
  len = c.note_integer.ensures.len ∙ c.loop-at.invariant.len;
  holds = integers_more c.args.bits.now c.args.values.now c.loop-at.at c.get.result.now c.note_integer.new.table.items c.get.ensures (c.note_integer.ensures.noted (take c.loop-at.at c.args.values.now) c.loop-at.invariant.holds);
}

pub returns : goal.returns
returns c = (c.loop-at.invariant.len, integers_all c.args.bits.now c.args.values.now c.loop-at.at c.loop-at.table.items (omega (arith, c.len-at-end.ensures)) c.loop-at.invariant.holds)
