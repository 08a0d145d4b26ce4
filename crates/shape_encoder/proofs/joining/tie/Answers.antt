use Rattle.shape_encoder.proofs.Compared.{tied_by}
use Rattle.shape_encoder.proofs.joining.tie.Goals as goal

pub returns-clause-tied : goal.returns-clause-tied
returns-clause-tied c = λ all slot e. tied_by c.args.circuit.now c.take_edges.new.circuit c.args.edges.now all slot c.in_ok-taken.taken.wires.items c.in_ok-taken.taken.single e c.in_ok-taken.ensures.taken
