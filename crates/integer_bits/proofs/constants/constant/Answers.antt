use Rattle.std.proofs.Common.{arith, rules, sym, ap, ◌∙◌, subst, ◌≡◌}
use Rattle.std.specs.Prelude.{pos, ◌+ℤ◌, ◌*ℤ◌}
use Rattle.std.proofs.lemmas.Int.{to_z-of_z}
use mir.Syntax.{w128}
use mir.Val.{SFits, to_z, of_z}
use Rattle.bool_circuit.specs.Circuit.{IsWireOf}
use Rattle.integer_bits.specs.Numbers.{bit, FitsBits}
use Rattle.integer_bits.specs.Steps.{IsSpelledSoFar}
use Rattle.integer_bits.proofs.Spelling.{spelled_more, constant_exact}
use Rattle.integer_bits.proofs.constants.constant.Goals as goal

pub loop-at-preserved : goal.loop-at-preserved
loop-at-preserved c =
    let f : SFits w128 c.halve-odd.result.1 = search rules in
    let off : IsWireOf c.constant-2.new.self c.in_ok-off.off = (let w = c.in_ok-off.ensures.wire in let l = c.in_ok-on.ensures.extends.at_least in omega arith) in
    spelled_more c.constant-2.new.self (to_z w128 (of_z w128 c.args.value)) c.loop-at.at c.loop-at.wires c.push.new.self (to_z w128 c.loop-at.rest-bits) (to_z w128 (of_z w128 c.halve-odd.result.1)) c.halve-odd.result.0 c.in_ok-on.on c.in_ok-off.off c.pick.result
    c.loop-at.invariant c.in_ok-on.ensures.wire off c.in_ok-on.ensures.value (λ bits. c.in_ok-on.ensures.extends.keeps c.in_ok-off.off c.in_ok-off.ensures.wire bits ∙ c.in_ok-off.ensures.value bits)
    c.pick.ensures (c.halve-odd.ensures ∙ ap (λ t. pos (bit c.halve-odd.result.0) +ℤ pos 2 *ℤ t) (sym (to_z-of_z w128 c.halve-odd.result.1 f))) c.in_ok-push.ensures.ok

pub returns-clause-value : goal.returns-clause-value
returns-clause-value c =
    let z = to_z-of_z w128 c.args.value c.ranges.value in
    let last : c.loop-at.at ≡ c.args.width = omega arith in
    λ bits. constant_exact c.constant-2.new.self (to_z w128 (of_z w128 c.args.value)) (to_z w128 c.loop-at.rest-bits) c.args.width c.loop-at.wires c.requires.some
    (subst (FitsBits c.args.width) (sym z) c.requires.fits)
    (subst (λ k. IsSpelledSoFar c.constant-2.new.self (to_z w128 (of_z w128 c.args.value)) k c.loop-at.wires (to_z w128 c.loop-at.rest-bits)) last c.loop-at.invariant) bits
    ∙ z
