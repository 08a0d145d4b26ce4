use Rattle.std.proofs.Common.{◌-◌, suc, length, sym, ◌∙◌, arith}
use Rattle.clf_tree.proofs.FirstReference.{first-here, first-end, first-more, first-last}
use Rattle.clf_tree.proofs.references.reference_of.Goals as goal

pub returns-in-Some : goal.returns-in-Some
returns-in-Some c =
    let n = length c.args.clafers.now - c.loop-step._step in
    sym (first-here c.args.clafers.now n c.loop-step.current c.in-Some.own (sym c.own_reference.ensures ∙ c.in-Some.is))
    ∙ c.loop-step.invariant n (omega (arith, c.len-step-end.ensures))

pub returns-in-None : goal.returns-in-None
returns-in-None c =
    let n = length c.args.clafers.now - c.loop-step._step in
    sym (first-end c.args.clafers.now n c.loop-step.current (sym c.own_reference.ensures ∙ c.in_default.is) (sym c.super_of.ensures ∙ c.in-None.is))
    ∙ c.loop-step.invariant n (omega (arith, c.len-step-end.ensures))

pub loop-step-preserved : goal.loop-step-preserved
loop-step-preserved c = λ n e.
    sym (first-more c.args.clafers.now n c.loop-step.current c.in-Some-super_of.above (sym c.own_reference.ensures ∙ c.in_default.is) (sym c.super_of.ensures ∙ c.in-Some-super_of.is))
    ∙ c.loop-step.invariant (suc n) (omega arith)

pub returns : goal.returns
returns c =
    c.own_reference-2.ensures ∙ sym (first-last c.args.clafers.now c.loop-step.current)
    ∙ c.loop-step.invariant 0 (omega (arith, c.len-step-end.ensures))
