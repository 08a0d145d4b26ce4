use Rattle.std.proofs.Common.{arith, if◌then◌else◌}
use Rattle.bool_circuit.specs.Circuit.{bool_xor}
use Rattle.integer_bits.specs.Steps.{is_below}
use Rattle.integer_bits.proofs.BitTests.{test_more, is_below-push}
use Rattle.integer_bits.proofs.comparison.is_first_below.Goals as goal

pub loop-at-preserved : goal.loop-at-preserved
loop-at-preserved c =
    test_more is_below (λ x y t. if bool_xor x y then y else t) is_below-push c.args.circuit.now c.loop-at.circuit c.below_bit.new.circuit c.args.a.now c.args.b.now c.loop-at.at c.loop-at.told c.get-x.result.now c.get-y.result.now c.in_ok-next.next
    c.loop-at.invariant (omega arith) (omega arith) c.requires.a_in c.requires.b_in c.get-x.ensures c.get-y.ensures c.in_ok-next.ensures.extends c.in_ok-next.ensures.wire c.in_ok-next.ensures.value
