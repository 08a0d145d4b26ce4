use Rattle.std.proofs.Common.{◌+◌, ◌&&◌, length}
use Rattle.std.specs.Prelude.{int_le}
use Rattle.integer_bits.specs.Numbers.{integer_at}
use Rattle.shape_encoder.specs.Reading.{range_cost}
use Rattle.shape_encoder.proofs.Ranged.{integer_wire}
use Rattle.shape_encoder.proofs.ranges.integer.Goals as goal

pub returns-clause-value : goal.returns-clause-value
returns-clause-value c =
    integer_wire c.args.circuit.now c.is_between.new.circuit c.are_false.new.circuit c.choose.new.self c.args.value.now.bits
    (λ bits. int_le (integer_at c.args.circuit.now c.args.low.now bits) (integer_at c.args.circuit.now c.args.value.now.bits bits) && int_le (integer_at c.args.circuit.now c.args.value.now.bits bits) (integer_at c.args.circuit.now c.args.high.now bits))
    (range_cost (length c.args.low.now) (length c.args.high.now) (length c.args.value.now.bits)) (length c.args.value.now.bits + 2) c.args.live c.in_ok-inside.inside c.in_ok-none.none c.in_ok-right.right
    c.requires.live_in c.requires.value_in c.in_ok-inside.ensures.extends c.in_ok-none.ensures.extends c.in_ok-inside.ensures.wire
    c.in_ok-inside.ensures.value c.in_ok-none.ensures.value c.in_ok-right.ensures.value
