use Rattle.std.proofs.Common.{ℕ, suc, ◌-◌, ◌++◌, List, ap, sym, ◌∙◌, arith, append-nil}
use Rattle.name_tables.specs.Labels.{way_down}
use Rattle.name_tables.proofs.Finding.{down_more, down_end}
use Rattle.name_tables.proofs.ways_down.way_down.Goals as goal

pub returns-in-None : goal.returns-in-None
returns-in-None c =
    let n = c.args.steps - c.loop-step._step - 1 in
    down_end c.args.clafers.now c.args.labels.now n c.loop-step.current c.loop-step.way (sym c.label_below.ensures ∙ c.in-None.is)
    ∙ c.loop-step.invariant (suc n) (omega (arith, c.loop-step-test.true))

pub loop-step-preserved : goal.loop-step-preserved
loop-step-preserved c = λ n e.
    let clafers = c.args.clafers.now in
    ap (λ (w : List ℕ). w ++ way_down clafers c.args.labels.now n c.in-Some.label.next) c.in_ok-push.ensures.ok
    ∙ down_more clafers c.args.labels.now n c.loop-step.current c.in-Some.label c.loop-step.way (sym c.label_below.ensures ∙ c.in-Some.is)
    ∙ c.loop-step.invariant (suc n) (omega (arith, e))

pub returns : goal.returns
returns c = sym (append-nil c.loop-step.way) ∙ c.loop-step.invariant 0 (omega (arith, c.loop-step-test.false))
