use Rattle.std.proofs.Common.{◌≡◌, ◌∙◌, ◌<◌, Bool, get_or, length, not, sym, ap, rules, arith}
use Rattle.std.proofs.lemmas.Int.{to_z-of_z}
use Rattle.std.proofs.lemmas.List.{get_or_default}
use Rattle.std.specs.Prelude.{if◌then◌else◌, ℤ, pos}
use mir.Syntax.{w128}
use mir.Val.{SFits}
use Rattle.clf_tree.specs.declared.model.Goal.{Goal}
use Rattle.clf_tree.specs.Front.{better}
use Rattle.integer_bits.specs.Numbers.{integer_at}
use Rattle.question_space.proofs.Differing.{compared_all, compared_more}
use Rattle.question_space.proofs.comparing.compared.Goals as goal

pub loop-at-preserved : goal.loop-at-preserved
loop-at-preserved c =
    let inside : c.loop-at.at < length c.args.goals.now = omega (arith, c.loop-at-test.true, c.shared-at-end.ensures) in
    let numbered : c.loop-at.at < length c.args.numbers.now = omega (arith, c.loop-at-test.true, c.shared-at-end.ensures) in
    let valued : c.loop-at.at < length c.args.vector.now = omega (arith, c.loop-at-test.true, c.shared-at-end.ensures) in
    let value : ℤ = get_or c.args.vector.now c.loop-at.at (pos 0) in
    let fits : SFits w128 value = search rules in
    let way : c.index-goals-at.result.least ≡ (get_or c.args.goals.now c.loop-at.at c.index-goals-at.result).least =
    ap (λ (y : Goal). y.least) c.index-goals-at.is in
    compared_more c.args.worse c.args.circuit.now c.args.goals.now c.args.numbers.now c.args.vector.now c.loop-at.at c.loop-at.circuit
    c.loop-at.told
    c.index-goals-at.result c.index-numbers-at.result value c.turned-least.result c.beats.new.circuit c.or.new.self
    c.in_ok-differs.differs c.in_ok-told-2.told
    c.loop-at.invariant c.requires.numbers inside numbered valued c.index-numbers-at.is way
    (get_or_default c.args.vector.now c.loop-at.at (pos 0) value valued)
    (c.turned-least.ensures ∙ ap (λ (b : Bool). if c.args.worse then not b else b) (sym way))
    c.in_ok-differs.ensures.extends c.in_ok-differs.ensures.wire
    (λ bits. c.in_ok-differs.ensures.value bits ∙ ap (better c.turned-least.result
    (integer_at c.loop-at.circuit c.index-numbers-at.result bits)) (to_z-of_z w128 value fits))
    c.in_ok-told-2.ensures.extends c.in_ok-told-2.ensures.wire c.in_ok-told-2.ensures.value

pub returns : goal.returns
returns c =
    compared_all c.args.worse c.args.circuit.now c.args.goals.now c.args.numbers.now c.args.vector.now c.loop-at.at c.loop-at.circuit
    c.loop-at.told c.loop-at.invariant
    (omega (arith, c.loop-at-test.false, c.loop-at.auto.at-end, c.shared-at-end.ensures))
