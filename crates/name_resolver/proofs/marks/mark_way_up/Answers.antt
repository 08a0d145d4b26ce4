use Rattle.std.proofs.Common.{suc, ◌-◌, length, ◌∙◌, arith}
use Rattle.name_resolver.proofs.Marking.{super_is, super_in, marked-on, marked-end, marked-last}
use Rattle.name_resolver.proofs.marks.mark_way_up.Goals as goal

pub returns-in-None-clause-marked : goal.returns-in-None-clause-marked
returns-in-None-clause-marked c = λ p low.
    let clafers = c.args.clafers.now in
    let current = c.loop-step.current in
    let n = length clafers - c.loop-step._step - 1 in
    let none = super_is clafers current c.get.result.now c.get.ensures ∙ c.in-None.is in
    marked-end clafers n current p c.loop-step.marks.items (omega (arith, c.loop-step.invariant.there, c.loop-step.invariant.sized)) none
    ∙ c.loop-step.invariant.decides (suc n) (omega (arith, c.len-step-end.ensures, c.loop-step-test.true)) p low

pub loop-step-preserved : goal.loop-step-preserved
loop-step-preserved c =
    let clafers = c.args.clafers.now in
    let current = c.loop-step.current in
    let next = super_is clafers current c.get.result.now c.get.ensures ∙ c.in-Some.is in
    record {
      there = super_in clafers current c.in-Some.above c.requires.closed next;
      sized = c.loop-step.invariant.sized;
      decides = λ n e p low.
          marked-on clafers n current c.in-Some.above p c.loop-step.marks.items (omega (arith, c.loop-step.invariant.there, c.loop-step.invariant.sized)) next
          ∙ c.loop-step.invariant.decides (suc n) (omega (arith, e)) p low;
    }

pub returns-clause-marked : goal.returns-clause-marked
returns-clause-marked c = λ p low.
    marked-last c.args.clafers.now c.loop-step.current p c.loop-step.marks.items (omega (arith, c.loop-step.invariant.there, c.loop-step.invariant.sized))
    ∙ c.loop-step.invariant.decides 0 (omega (arith, c.len-step-end.ensures, c.loop-step-test.false)) p low
