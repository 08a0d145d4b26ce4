use Rattle.std.proofs.Common.{◌≡◌, ◌-◌, ℕ, suc, List, length, ap, sym, ◌∙◌, arith}
use Rattle.clf_tree.specs.Hierarchy.{owners}
use Rattle.clf_tree.specs.Named.{is_outside}
use Rattle.family_checks.proofs.Owners.{outside_here, outside_more}
use Rattle.family_checks.proofs.search.contains_itself.Goals as goal

pub loop-step-init : goal.loop-step-init
loop-step-init c = λ n e.
    let clafers = c.args.clafers.now in
    let same : n ≡ length clafers = omega (arith, e) in
    ap (λ (ds : List ℕ). is_outside clafers n ds c.args.clafer) c.in_ok-reached.ensures ∙ ap (λ (k : ℕ). is_outside clafers k (owners clafers c.args.clafer) c.args.clafer) same

pub returns-then-has : goal.returns-then-has
returns-then-has c =
    let n = length c.args.clafers.now - c.loop-step._step in
    sym (outside_here c.args.clafers.now n c.args.clafer c.loop-step.reached (sym c.has.ensures ∙ c.if-has.true)) ∙ c.loop-step.invariant n (omega (arith, c.len-step-end.ensures, c.loop-step-test.true))

pub loop-step-preserved : goal.loop-step-preserved
loop-step-preserved c = λ n e.
    ap (λ (ds : List ℕ). is_outside c.args.clafers.now n ds c.args.clafer) c.in_ok-reached-2.ensures
    ∙ sym (outside_more c.args.clafers.now n c.args.clafer c.loop-step.reached (sym c.has.ensures ∙ c.if-has.false)) ∙ c.loop-step.invariant (suc n) (omega (arith, e))

pub returns : goal.returns
returns c = c.has-2.ensures ∙ c.loop-step.invariant 0 (omega (arith, c.len-step-end.ensures, c.loop-step-test.false))
