use Rattle.std.proofs.Common.{arith}
use Rattle.integer_bits.proofs.Widening.{sum_stands}
use Rattle.integer_bits.proofs.sums.add_within.Goals as goal

pub returns-clause-sum : goal.returns-clause-sum
returns-clause-sum c = sum_stands c.args.width _ c.args.circuit.now c.ripple.new.circuit c.args.a.now c.args.b.now c.in_ok-long_a.long_a c.in_ok-long_b.long_b c.in_ok-sum.sum c.in_ok-few.few c.args.carry _
    c.requires.a_in c.requires.b_in (omega (arith, c.min-needs.ensures, c.max.ensures, c.len.ensures, c.len-2.ensures)) c.in_ok-long_a.ensures.items c.in_ok-long_b.ensures.items c.in_ok-sum.ensures.sum c.in_ok-few.ensures
