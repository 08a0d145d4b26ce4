use Rattle.std.proofs.Common.{arith, ap, length, ◌∙◌}
use Rattle.std.proofs.lemmas.List.{length_push}
use Rattle.integer_bits.proofs.Growing.{part_pushed}
use Rattle.integer_bits.proofs.tests.parts_of.Goals as goal

pub loop-at-preserved : goal.loop-at-preserved
loop-at-preserved c = record {
  grown = omega (arith, c.loop-at.invariant.grown, c.in_ok-bits.ensures.grown, ap length c.in_ok-here.ensures.gates ∙ length_push c.inputs_of.new.circuit _);
  size = omega (arith, c.loop-at.invariant.size, ap length c.in_ok-push.ensures.ok ∙ length_push c.loop-at.parts _);
  parts = part_pushed c.loop-at.circuit c.inputs_of.new.circuit c.input.new.self c.loop-at.parts _ _ (omega (arith, c.in_ok-bits.ensures.grown)) (omega (arith, ap length c.in_ok-here.ensures.gates ∙ length_push c.inputs_of.new.circuit _))
      c.loop-at.invariant.parts c.in_ok-bits.ensures.wires (omega (arith, c.in_ok-bits.ensures.len)) (omega (arith, c.in_ok-here.ensures.last, ap length c.in_ok-here.ensures.gates ∙ length_push c.inputs_of.new.circuit _)) c.in_ok-push.ensures.ok;
}
