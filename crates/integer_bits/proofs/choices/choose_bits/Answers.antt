use Rattle.std.proofs.Common.{arith}
use Rattle.integer_bits.proofs.Choosing.{chosen_pushed}
use Rattle.integer_bits.proofs.choices.choose_bits.Goals as goal

pub loop-at-preserved : goal.loop-at-preserved
loop-at-preserved c =
    chosen_pushed c.args.circuit.now c.loop-at.circuit c.choose.new.self c.args.pick c.args.a.now c.args.b.now c.loop-at.at c.get-x.result.now c.get-y.result.now c.in_ok-wire.wire c.loop-at.chosen _
    c.loop-at.invariant c.requires.pick_in c.requires.a_in c.requires.b_in (omega (arith, c.len-at-end.ensures)) c.requires.same_len c.get-x.ensures c.get-y.ensures
    c.in_ok-wire.ensures.extends c.in_ok-wire.ensures.wire c.in_ok-wire.ensures.value c.in_ok-push.ensures.ok
