use Rattle.std.proofs.Common.{arith, ap, length, ◌∙◌}
use Rattle.std.proofs.lemmas.List.{length_push}
use Rattle.bool_circuit.specs.declared.gate.Gate.TheVariants.{Input}
use Rattle.bool_circuit.specs.Circuit.{inputs}
use Rattle.instance_encoder.proofs.Reading.{read_more}
use Rattle.instance_encoder.proofs.Wiring.{wires_more}
use Rattle.instance_encoder.proofs.inputs.inputs.Goals as goal

pub loop-at-preserved : goal.loop-at-preserved
loop-at-preserved c = record {
  read = read_more c.loop-at.circuit c.input.new.self c.loop-at.invariant.read c.in_ok-wire.ensures.gates;
  size = omega (arith, c.loop-at.invariant.size, ap length c.in_ok-wire.ensures.gates, length_push c.loop-at.circuit (Input (inputs c.loop-at.circuit)));
  wires = wires_more (length c.args.circuit.now) c.loop-at._at c.loop-at.wires c.push.new.self c.in_ok-wire.wire c.loop-at.invariant.wires (c.in_ok-wire.ensures.last ∙ c.loop-at.invariant.size) c.in_ok-push.ensures.ok;
}
