use Rattle.std.proofs.Common.{rules, arith}
use Rattle.std.proofs.lemmas.Grind.{common_steps}
use Rattle.bool_circuit.specs.Circuit.{values}
use Rattle.bool_circuit.specs.declared.gate.Gate.TheVariants.{Input}
use Rattle.bool_circuit.proofs.Values.{values-take_more, length-values-take, AreBehind_at}
use Rattle.bool_circuit.proofs.circuit.values_of.Goals as goal

pub loop-gate-init : goal.loop-gate-init
unfolding values
loop-gate-init c = search rules

pub value_at-value-requires : goal.value_at-value-requires
value_at-value-requires c =
    let b = AreBehind_at _ 0 c.args.gates.now c.loop-gate.gate-index (Input 0) c.requires c.loop-gate-test.true in
    let l = length-values-take c.args.bits.now c.args.gates.now c.loop-gate.gate-index in
    grind (arith, common_steps, b, l)

pub loop-gate-preserved : goal.loop-gate-preserved
loop-gate-preserved c =
    let m = values-take_more c.args.bits.now c.args.gates.now c.loop-gate.gate-index (Input 0) c.loop-gate-test.true in
    grind (arith, common_steps, m)
