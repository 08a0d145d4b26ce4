use Rattle.std.proofs.Common.{◌≡◌, ◌+◌, [], ◌∷◌, length, arith, refl, ◌∙◌, ap, length-append}
use Rattle.cdcl_search.specs.Teachings.{IsTaught}
use Rattle.cdcl_search.specs.States.{AreQuiet}
use Rattle.cdcl_search.proofs.Run_steps.{AreFresh-push, satisfied, longer_none, longer_step}
use Rattle.cdcl_search.proofs.engine.Engine.run.Goals as goal

pub loop-at-init : goal.loop-at-init
loop-at-init g c = record {
  whole = c.requires.whole;
  some = c.requires.some;
  count = refl;
  new = λ i h k. absurd (omega arith);
  longer = longer_none c.args.self.now.arena c.args.self.now.chains.items;
  given = refl;
  size = refl;
}

pub returns-then-left-eq0-clause-longer : goal.returns-then-left-eq0-clause-longer
returns-then-left-eq0-clause-longer g c = longer_step _ _ _ _ _ _ c.loop-at.invariant.longer c.in_ok-conflict-in-Some.ensures.step

pub returns-then-left-eq0-clause-ended : goal.returns-then-left-eq0-clause-ended
returns-then-left-eq0-clause-ended g c =
    let old = c.loop-at.self in
    let new = c.conflict.new.self in
    let d : IsTaught old.arena old.chains.items new.arena new.chains.items = rw c.if-branch.false at c.in_ok-conflict-in-Some.ensures.done in
    let n : length new.arena ≡ length old.arena + 1 = ap length d.adds.clause_added ∙ length-append old.arena (d.codes ∷ []) in
    (omega (arith, n, c.loop-at.invariant.count, c.loop-at.invariant.some, c.if-left-eq0.true), AreFresh-push _ _ _ d.codes c.loop-at.invariant.new d.adds.clause_added d.new d.no_tautology d.some)

pub loop-at-preserved-else-left-eq0 : goal.loop-at-preserved-else-left-eq0
loop-at-preserved-else-left-eq0 g c =
    let old = c.loop-at.self in
    let new = c.conflict.new.self in
    let d : IsTaught old.arena old.chains.items new.arena new.chains.items = rw c.if-branch.false at c.in_ok-conflict-in-Some.ensures.done in
    let n : length new.arena ≡ length old.arena + 1 = ap length d.adds.clause_added ∙ length-append old.arena (d.codes ∷ []) in
    record {
      whole = c.in_ok-conflict-in-Some.ensures.whole;
      some = omega (arith, c.if-left-eq0.false, c.loop-at.invariant.some);
      count = omega (arith, n, c.loop-at.invariant.count, c.loop-at.invariant.some);
      new = AreFresh-push _ _ _ d.codes c.loop-at.invariant.new d.adds.clause_added d.new d.no_tautology d.some;
      longer = longer_step _ _ _ _ _ _ c.loop-at.invariant.longer c.in_ok-conflict-in-Some.ensures.step;
      given = c.in_ok-conflict-in-Some.ensures.given ∙ c.loop-at.invariant.given;
      size = c.in_ok-conflict-in-Some.ensures.size ∙ c.in_ok-at.ensures.size ∙ c.loop-at.invariant.size;
    }

pub returns-in-None-next_open-clause-ended : goal.returns-in-None-next_open-clause-ended
returns-in-None-next_open-clause-ended g c =
    let q : AreQuiet c.loop-at.self.arena c.propagate.new.trail = rw c.in-None.is at c.in_ok-at.ensures.outcome in
    λ i h. satisfied c.loop-at.self.arena c.propagate.new.trail i c.in_ok-at.ensures.state q c.in-None-next_open.ensures.none h

pub returns-in_err-conflict-in-Some-clause-longer : goal.returns-in_err-conflict-in-Some-clause-longer
returns-in_err-conflict-in-Some-clause-longer g c = longer_step _ _ _ _ _ _ c.loop-at.invariant.longer c.in_err-conflict-in-Some.ensures.step

pub returns-then-branch-clause-longer : goal.returns-then-branch-clause-longer
returns-then-branch-clause-longer g c = longer_step _ _ _ _ _ _ c.loop-at.invariant.longer c.in_ok-conflict-in-Some.ensures.step
