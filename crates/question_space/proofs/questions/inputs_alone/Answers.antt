use Rattle.std.proofs.Common.{arith, ap, length}
use Rattle.std.proofs.lemmas.List.{length_push}
use Rattle.bool_circuit.specs.declared.gate.Gate.TheVariants.{Input}
use Rattle.bool_circuit.specs.Circuit.{inputs}
use Rattle.instance_encoder.proofs.Reading.{read_more}
use Rattle.question_space.proofs.questions.inputs_alone.Goals as goal

pub loop-at-preserved : goal.loop-at-preserved
loop-at-preserved c = (
  read_more c.loop-at.circuit c.input.new.self c.loop-at.invariant.0 c.in_ok-input.ensures.gates,
  omega (
    arith,
    c.loop-at.invariant.1,
    ap length c.in_ok-input.ensures.gates,
    length_push c.loop-at.circuit
        (Input (inputs c.loop-at.circuit)),
  ),
)
