use Rattle.std.proofs.Common.{suc, ◌-◌, length, Option, ap, sym, ◌∙◌, arith}
use Rattle.name_tables.specs.declared.label.Label.{Label}
use Rattle.name_tables.specs.Labels.{shortest}
use Rattle.name_tables.proofs.Finding.{up_on, up_end}
use Rattle.name_tables.proofs.ways_down.label_below.Goals as goal

pub returns-in-None : goal.returns-in-None
returns-in-None c =
    let clafers = c.args.clafers.now in
    let n = length clafers - c.loop-step._step - 1 in
    up_end clafers c.args.labels.now n c.loop-step.current c.loop-step.known c.shortest-known.result
    (c.shortest-known.ensures ∙ ap (λ (o : Option Label). shortest c.loop-step.known o) c.label_at.ensures) (sym c.super_of.ensures ∙ c.in-None.is)
    ∙ c.loop-step.invariant (suc n) (omega (arith, c.len-step-end.ensures, c.loop-step-test.true))

pub loop-step-preserved : goal.loop-step-preserved
loop-step-preserved c = λ n e.
    up_on c.args.clafers.now c.args.labels.now n c.loop-step.current c.in-Some.above c.loop-step.known c.shortest-known.result
    (c.shortest-known.ensures ∙ ap (λ (o : Option Label). shortest c.loop-step.known o) c.label_at.ensures) (sym c.super_of.ensures ∙ c.in-Some.is)
    ∙ c.loop-step.invariant (suc n) (omega (arith, e))

pub returns : goal.returns
returns c =
    c.shortest.ensures ∙ ap (λ (o : Option Label). shortest c.loop-step.known o) c.label_at-2.ensures
    ∙ c.loop-step.invariant 0 (omega (arith, c.len-step-end.ensures, c.loop-step-test.false))
