use Rattle.std.proofs.Common.{arith, ap, length}
use Rattle.std.proofs.lemmas.List.{length_push}
use Rattle.integer_bits.proofs.Masks.{masked_pushed}
use Rattle.integer_bits.proofs.totals.mask.Goals as goal

pub loop-at-preserved : goal.loop-at-preserved
loop-at-preserved c = record {
  masked = masked_pushed c.args.circuit.now c.loop-at.circuit c.and.new.self c.args.here c.args.a.now c.loop-at.at c.get-wire.result.now c.in_ok-both.both c.loop-at.masked _
      c.loop-at.invariant.masked c.requires.a_in c.requires.here_in (omega (arith, c.len-at-end.ensures)) c.get-wire.ensures c.in_ok-both.ensures.extends c.in_ok-both.ensures.wire c.in_ok-both.ensures.value c.in_ok-push.ensures.ok;
  len = omega (arith, ap length c.in_ok-push.ensures.ok, length_push c.loop-at.masked c.in_ok-both.both);
}
