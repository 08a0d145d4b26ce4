use Rattle.std.proofs.Common.{◌+◌, ◌*◌, length}
use Rattle.shape_encoder.proofs.Allowing.{between_told}
use Rattle.shape_encoder.proofs.amounts.are_between.Goals as goal

pub returns-clause-value : goal.returns-clause-value
returns-clause-value c =
    between_told c.args.circuit.now c.at_least.new.circuit c.at_most.new.circuit c.and.new.self c.args.wires.now c.args.low c.args.high (2 * length c.args.wires.now * (c.args.low + 1) + 3) (2 * length c.args.wires.now * (c.args.high + 1) + 3) c.in_ok-enough.enough c.in_ok-few.few c.in_ok-right.right
    c.requires.wires_in c.in_ok-enough.ensures.extends c.in_ok-few.ensures.extends c.in_ok-enough.ensures.wire c.in_ok-enough.ensures.value c.in_ok-few.ensures.value c.in_ok-right.ensures.value
