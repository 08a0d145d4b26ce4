use Rattle.std.proofs.Common.{◌+◌, length}
use Rattle.shape_encoder.specs.Comparing.{nested_cost, singles_cost}
use Rattle.shape_encoder.proofs.Meeting.{whole_targets}
use Rattle.shape_encoder.proofs.targets.targets_differ.Goals as goal

pub returns-clause-value : goal.returns-clause-value
returns-clause-value c =
    whole_targets c.args.circuit.now c.nested_differ.new.circuit c.are_single.new.circuit c.and.new.self c.args.clafers.now c.args.layout.now (nested_cost c.args.clafers.now c.args.layout.now) (singles_cost c.args.clafers.now c.args.layout.now (length c.args.clafers.now) + 1)
    c.in_ok-nested.nested c.in_ok-single.single c.in_ok-differ.differ c.requires.ordered c.in_ok-nested.ensures.differ c.in_ok-single.ensures.single c.in_ok-differ.ensures.value
