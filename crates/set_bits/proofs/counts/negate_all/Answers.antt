use Rattle.std.proofs.Common.{arith, ap, length}
use Rattle.std.proofs.lemmas.List.{length_push}
use Rattle.set_bits.proofs.Falsity.{negated_pushed}
use Rattle.set_bits.proofs.counts.negate_all.Goals as goal

pub loop-at-preserved : goal.loop-at-preserved
loop-at-preserved c = record {
  negated = negated_pushed c.args.circuit.now c.loop-at.circuit c.not.new.self c.args.wires.now c.loop-at.at c.get-wire.result.now c.in_ok-other.other c.loop-at.negated _
      c.loop-at.invariant.negated c.requires.wires_in (omega (arith, c.len-at-end.ensures)) c.get-wire.ensures c.in_ok-other.ensures.extends c.in_ok-other.ensures.wire c.in_ok-other.ensures.value c.in_ok-push.ensures.ok;
  len = omega (arith, ap length c.in_ok-push.ensures.ok, length_push c.loop-at.negated c.in_ok-other.other);
}
