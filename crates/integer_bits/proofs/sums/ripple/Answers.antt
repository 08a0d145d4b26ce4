use Rattle.std.proofs.Common.{arith}
use Rattle.integer_bits.proofs.Ripple.{sum_pushed}
use Rattle.integer_bits.proofs.sums.ripple.Goals as goal

pub loop-at-preserved : goal.loop-at-preserved
loop-at-preserved c =
    sum_pushed c.args.circuit.now c.loop-at.circuit c.add_bits.new.circuit c.args.a.now c.args.b.now c.args.first c.loop-at.at c.loop-at.sum _ c.loop-at.carry c.get-x.result.now c.get-y.result.now _ _
    c.loop-at.invariant (omega (arith, c.len-at-end.ensures)) c.requires.same_len c.requires.a_in c.requires.b_in c.get-x.ensures c.get-y.ensures
    c.in_ok-low.ensures.extends c.in_ok-low.ensures.sum_wire c.in_ok-low.ensures.carry_wire c.in_ok-low.ensures.value c.in_ok-push.ensures.ok
