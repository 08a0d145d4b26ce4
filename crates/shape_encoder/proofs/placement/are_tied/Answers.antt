use Rattle.shape_encoder.specs.Placing.{asks}
use Rattle.shape_encoder.proofs.Placed.{tied_told}
use Rattle.shape_encoder.proofs.placement.are_tied.Goals as goal

pub returns-clause-value : goal.returns-clause-value
returns-clause-value c =
    tied_told c.args.circuit.now c.take_edges.new.circuit c.have_taken.new.circuit c.lead_to_live.new.circuit c.and.new.self (asks c.args.tie c.args.clafers.now) c.args.layout.now c.args.edges.now c.in_ok-taken.taken.wires.items c.in_ok-taken.taken.single c.in_ok-some.some c.in_ok-landed.landed c.in_ok-right.right
    c.requires.slots c.in_ok-taken.ensures.taken c.in_ok-some.ensures.taken c.in_ok-landed.ensures.landed c.in_ok-right.ensures.value
