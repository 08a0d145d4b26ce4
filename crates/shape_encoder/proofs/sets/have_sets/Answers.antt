use Rattle.std.proofs.Common.{◌+◌, length}
use Rattle.shape_encoder.specs.Comparing.{values_cost}
use Rattle.shape_encoder.proofs.Unequal.{whole_sets}
use Rattle.shape_encoder.proofs.sets.have_sets.Goals as goal

pub returns-clause-value : goal.returns-clause-value
returns-clause-value c =
    whole_sets c.targets_differ.new.circuit c.integers_are_different.new.circuit c.and.new.self c.args.core.now.clafers c.args.layout.now (values_cost c.args.core.now.clafers c.args.layout.now (length c.args.layout.now.values) + 1)
    c.in_ok-nodes.nodes c.in_ok-integers.integers c.in_ok-both.both c.in_ok-nodes.ensures.wire c.in_ok-nodes.ensures.value c.in_ok-integers.ensures.differ c.in_ok-both.ensures.value
