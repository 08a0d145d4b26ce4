use Rattle.std.proofs.Common.{take, ◌∙◌}
use Rattle.set_bits.specs.declared.layout.Edge.{Edge}
use Rattle.instance_decoder.proofs.Noting.{ends_more, ends_all}
use Rattle.instance_decoder.proofs.tables.ends.Goals as goal

default_edge : Edge
default_edge = record { from = 0; to = 0; here = record { number = 0 } }

pub loop-edge-preserved : goal.loop-edge-preserved
unfolding default_edge
loop-edge-preserved c = record {
  len = c.note_end.ensures.len ∙ c.loop-edge.invariant.len;
  holds = ends_more c.args.bits.now c.args.edges.now c.as_slice-edge-items.result.now c.loop-edge.edge-index default_edge c.note_end.new.table.items c.as_slice-edge-items.ensures c.loop-edge-test.true
      (c.note_end.ensures.noted (take c.loop-edge.edge-index c.args.edges.now) c.loop-edge.invariant.holds);
}

pub returns : goal.returns
returns c = (
  c.loop-edge.invariant.len,
  ends_all c.args.bits.now c.args.edges.now c.as_slice-edge-items.result.now c.loop-edge.edge-index c.loop-edge.table.items c.as_slice-edge-items.ensures c.loop-edge-test.false c.loop-edge.invariant.holds,
)
