use Rattle.shape_encoder.proofs.Led.{edges_told}
use Rattle.shape_encoder.proofs.consistency.edges_agree.Goals as goal

pub returns-clause-value : goal.returns-clause-value
returns-clause-value c =
    edges_told c.args.circuit.now c.take_edges.new.circuit c.lead_from_live.new.circuit c.and.new.self c.args.layout.now c.args.edges.now c.in_ok-taken.taken.wires.items c.in_ok-taken.taken.single c.in_ok-led.led c.in_ok-agree.agree
    c.requires.slots c.in_ok-taken.ensures.taken c.in_ok-led.ensures.led c.in_ok-agree.ensures.value
