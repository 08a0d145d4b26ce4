use Rattle.std.proofs.Common.{◌-◌, ◌&&◌, ℕ, suc, Some, length, sym, ◌∙◌, arith}
use Rattle.std.specs.Prelude.{nat_eq, bytes_eq}
use Rattle.std.specs.Option.{option_eq}
use Rattle.std.specs.HashSet.{contains_by}
use Rattle.family_checks.proofs.WaysUp.{up-here, up-end, up-more, up-last}
use Rattle.family_checks.proofs.children.has_child.Goals as goal

pub returns-then-is_declared : goal.returns-then-is_declared
returns-then-is_declared c =
    let n = length c.args.clafers.now - c.loop-step._step in
    let test = λ (q : ℕ). contains_by (λ k. option_eq nat_eq (Some q) k.0 && bytes_eq c.args.name.now k.1.now) c.args.names.now in
    sym (up-here c.args.clafers.now test n c.loop-step.current (sym c.is_declared.ensures ∙ c.if-is_declared.true))
    ∙ c.loop-step.invariant n (omega (arith, c.len-step-end.ensures, c.loop-step-test.true))

pub returns-in-None : goal.returns-in-None
returns-in-None c =
    let n = length c.args.clafers.now - c.loop-step._step in
    let test = λ (q : ℕ). contains_by (λ k. option_eq nat_eq (Some q) k.0 && bytes_eq c.args.name.now k.1.now) c.args.names.now in
    sym (up-end c.args.clafers.now test n c.loop-step.current (sym c.is_declared.ensures ∙ c.if-is_declared.false) (sym c.super_of.ensures ∙ c.in-None.is))
    ∙ c.loop-step.invariant n (omega (arith, c.len-step-end.ensures, c.loop-step-test.true))

pub loop-step-preserved : goal.loop-step-preserved
loop-step-preserved c = λ n e.
    let test = λ (q : ℕ). contains_by (λ k. option_eq nat_eq (Some q) k.0 && bytes_eq c.args.name.now k.1.now) c.args.names.now in
    sym (up-more c.args.clafers.now test n c.loop-step.current c.in-Some.above (sym c.is_declared.ensures ∙ c.if-is_declared.false) (sym c.super_of.ensures ∙ c.in-Some.is))
    ∙ c.loop-step.invariant (suc n) (omega (arith, e))

pub returns : goal.returns
returns c =
    let test = λ (q : ℕ). contains_by (λ k. option_eq nat_eq (Some q) k.0 && bytes_eq c.args.name.now k.1.now) c.args.names.now in
    c.is_declared-2.ensures ∙ sym (up-last c.args.clafers.now test c.loop-step.current)
    ∙ c.loop-step.invariant 0 (omega (arith, c.len-step-end.ensures, c.loop-step-test.false))
