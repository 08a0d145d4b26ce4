use Rattle.shape_encoder.specs.Comparing.{nested_cost}
use Rattle.shape_encoder.proofs.Chosen.{whole_nested}
use Rattle.shape_encoder.proofs.nested.nested_differ.Goals as goal

pub returns-clause-differ : goal.returns-clause-differ
returns-clause-differ c = whole_nested c.args.circuit.now c.kin_differ.new.circuit c.args.clafers.now c.args.layout.now (nested_cost c.args.clafers.now c.args.layout.now) c.in_ok-differ.differ c.requires.ordered c.in_ok-differ.ensures.differ
