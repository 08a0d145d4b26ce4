use Rattle.std.proofs.Common.{◌+◌, ◌*◌, max, length}
use Rattle.shape_encoder.proofs.Ranged.{between_wire}
use Rattle.shape_encoder.proofs.ranges.is_between.Goals as goal

pub returns-clause-value : goal.returns-clause-value
returns-clause-value c =
    between_wire c.args.circuit.now c.less.new.circuit c.less-2.new.circuit c.or.new.self c.not.new.self c.args.number.now c.args.low.now c.args.high.now
    (8 * (max (length c.args.number.now) (length c.args.low.now) + 1)) (8 * (max (length c.args.high.now) (length c.args.number.now) + 1)) c.in_ok-below.below c.in_ok-above.above c.in_ok-outside.outside c.in_ok-inside.inside
    c.requires.number_in c.requires.high_in c.in_ok-below.ensures.extends c.in_ok-above.ensures.extends c.in_ok-below.ensures.wire
    c.in_ok-below.ensures.value c.in_ok-above.ensures.value c.in_ok-outside.ensures.value c.in_ok-inside.ensures.value
