use Rattle.std.proofs.Common.{◌≡◌, ◌+◌, arith, refl, length, take}
use Rattle.std.proofs.lemmas.List.{length-take-le}
use Rattle.bool_circuit.specs.declared.gate.Gate.TheVariants.{Input}
use Rattle.bool_circuit.specs.Circuit.{inputs}
use Rattle.bool_circuit.proofs.Values.{AreBehind_at}
use Rattle.clause_encoder.proofs.Whole.{EncodesGates-more}
use Rattle.clause_encoder.proofs.encode.gate_clauses.Goals as goal

pub define-requires-clause-room : goal.define-requires-clause-room
define-requires-clause-room c =
    let l : length (take c.loop-number.number c.args.gates.now) ≡ c.loop-number.number = length-take-le c.loop-number.number c.args.gates.now (omega (arith, c.loop-number-test.true)) in
    omega (arith, c.loop-number.invariant.few, c.requires.few, c.loop-number-test.true, l)

pub define-requires-clause-behind : goal.define-requires-clause-behind
define-requires-clause-behind c =
    let z : 0 + c.loop-number.number ≡ c.loop-number.number = omega arith in
    (inputs c.args.gates.now, rw z at (AreBehind_at _ 0 c.args.gates.now c.loop-number.number (Input 0) c.requires.behind c.loop-number-test.true))

pub loop-number-preserved : goal.loop-number-preserved
loop-number-preserved c = EncodesGates-more c.args.gates.now c.loop-number.number _ (Input 0) _ _ c.loop-number-test.true refl c.loop-number.invariant c.in_ok-define.ensures
