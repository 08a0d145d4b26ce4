use Rattle.std.proofs.Common.{arith}
use Rattle.integer_bits.proofs.Turning.{turned_more}
use Rattle.integer_bits.proofs.negation.turn_round.Goals as goal

pub loop-at-preserved : goal.loop-at-preserved
loop-at-preserved c =
    turned_more c.args.circuit.now c.loop-at.circuit c.xor.new.self c.or.new.self c.args.a.now c.loop-at.at c.loop-at.negative _ c.loop-at.seen c.get-wire.result.now c.in_ok-turned.turned c.in_ok-more.more
    c.loop-at.invariant (omega (arith, c.len-at-end.ensures)) c.requires.a_in c.get-wire.ensures c.in_ok-turned.ensures.extends c.in_ok-more.ensures.extends c.in_ok-turned.ensures.wire c.in_ok-more.ensures.wire
    c.in_ok-turned.ensures.value c.in_ok-more.ensures.value c.in_ok-push.ensures.ok
