use Rattle.std.proofs.Common.{arith, ap, length, ◌∙◌}
use Rattle.std.proofs.lemmas.List.{length_push}
use Rattle.set_bits.proofs.Growing.{wire_pushed}
use Rattle.set_bits.proofs.tests.inputs_of.Goals as goal

pub loop-at-preserved : goal.loop-at-preserved
loop-at-preserved c = record {
  grown = omega (arith, c.loop-at.invariant.grown, ap length c.in_ok-input.ensures.gates ∙ length_push c.loop-at.circuit _);
  size = omega (arith, c.loop-at.invariant.size, ap length c.in_ok-push.ensures.ok ∙ length_push c.loop-at.wires _);
  wires = wire_pushed c.loop-at.circuit c.input.new.self _ c.loop-at.wires _ _ c.in_ok-input.ensures.gates c.in_ok-input.ensures.last c.loop-at.invariant.wires c.in_ok-push.ensures.ok;
}
