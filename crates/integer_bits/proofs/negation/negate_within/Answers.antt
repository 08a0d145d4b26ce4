use Rattle.std.proofs.Common.{arith}
use Rattle.integer_bits.proofs.Widening.{negative_stands}
use Rattle.integer_bits.proofs.negation.negate_within.Goals as goal

pub returns-clause-negative : goal.returns-clause-negative
returns-clause-negative c = negative_stands c.args.width _ c.args.circuit.now c.turn_round.new.circuit c.args.a.now c.in_ok-long.long c.in_ok-negative.negative c.in_ok-few.few _
    c.requires.a_in (omega (arith, c.min-needs.ensures, c.len.ensures)) c.in_ok-long.ensures.items c.in_ok-negative.ensures.negative c.in_ok-few.ensures
