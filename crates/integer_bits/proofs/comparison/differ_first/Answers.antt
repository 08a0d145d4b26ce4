use Rattle.std.proofs.Common.{arith, ◌||◌}
use Rattle.bool_circuit.specs.Circuit.{bool_xor}
use Rattle.integer_bits.specs.Steps.{differs}
use Rattle.integer_bits.proofs.BitTests.{test_more, differs-push}
use Rattle.integer_bits.proofs.comparison.differ_first.Goals as goal

pub loop-at-preserved : goal.loop-at-preserved
loop-at-preserved c =
    test_more differs (λ x y t. t || bool_xor x y) differs-push c.args.circuit.now c.loop-at.circuit c.other_bit.new.circuit c.args.a.now c.args.b.now c.loop-at.at c.loop-at.told c.get-x.result.now c.get-y.result.now c.in_ok-next.next
    c.loop-at.invariant (omega arith) (omega arith) c.requires.a_in c.requires.b_in c.get-x.ensures c.get-y.ensures c.in_ok-next.ensures.extends c.in_ok-next.ensures.wire c.in_ok-next.ensures.value
