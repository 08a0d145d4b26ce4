use Rattle.std.proofs.Common.{suc, ◌-◌, [], length, get_or, ◌∙◌, arith}
use Rattle.clf_tree.specs.Lists.{has}
use Rattle.name_resolver.proofs.Marking.{super_is, super_in}
use Rattle.name_tables.proofs.Inheriting.{heir_on, heir_end, heir_last}
use Rattle.name_tables.proofs.heirs.add_heir.Goals as goal

pub returns-in-None-clause-added : goal.returns-in-None-clause-added
returns-in-None-clause-added c = λ p m.
    let clafers = c.args.clafers.now in
    let current = c.loop-step.current in
    let n = length clafers - c.loop-step._step - 1 in
    let none = super_is clafers current c.get.result.now c.get.ensures ∙ c.in-None.is in
    heir_end clafers n current p m c.args.heir (has (get_or c.loop-step.heirs.items p []) m) (has (get_or c.push_heir.new.heirs.items p []) m) (c.in_ok-push_heir.ensures.added p m) none
    ∙ c.loop-step.invariant.decides (suc n) (omega (arith, c.len-step-end.ensures, c.loop-step-test.true)) p m

pub loop-step-preserved : goal.loop-step-preserved
loop-step-preserved c =
    let clafers = c.args.clafers.now in
    let current = c.loop-step.current in
    let next = super_is clafers current c.get.result.now c.get.ensures ∙ c.in-Some.is in
    record {
      there = super_in clafers current c.in-Some.above c.requires.closed next;
      sized = c.push_heir.ensures.sized ∙ c.loop-step.invariant.sized;
      decides = λ n e p m.
          heir_on clafers n current c.in-Some.above p m c.args.heir (has (get_or c.loop-step.heirs.items p []) m) (has (get_or c.push_heir.new.heirs.items p []) m) (c.in_ok-push_heir.ensures.added p m) next
          ∙ c.loop-step.invariant.decides (suc n) (omega (arith, e)) p m;
    }

pub returns-clause-added : goal.returns-clause-added
returns-clause-added c = λ p m.
    heir_last c.args.clafers.now c.loop-step.current p m c.args.heir (has (get_or c.loop-step.heirs.items p []) m) (has (get_or c.push_heir-2.new.heirs.items p []) m) (c.in_ok-push_heir-2.ensures.added p m)
    ∙ c.loop-step.invariant.decides 0 (omega (arith, c.len-step-end.ensures, c.loop-step-test.false)) p m
