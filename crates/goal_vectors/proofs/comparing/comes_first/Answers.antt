-- The goals that are left decide.
use Rattle.std.proofs.Common.{sym, ◌∙◌, subst, ◌≤◌}
use Rattle.goal_vectors.proofs.Left.{before_here, before_on, before_end, before_not}
use Rattle.goal_vectors.proofs.comparing.comes_first.Goals as goal

pub returns-then-better : goal.returns-then-better
returns-then-better c = sym (before_here c.args.ways.now c.args.a.now c.args.b.now c.loop-at.at c.get-least.result.now c.get-x.result.now c.get-y.result.now c.get-least.ensures c.get-x.ensures c.get-y.ensures (sym c.better.ensures ∙ c.if-better.true)) ∙ c.loop-at.invariant

pub returns-then-better-2 : goal.returns-then-better-2
returns-then-better-2 c = sym (before_not c.args.ways.now c.args.a.now c.args.b.now c.loop-at.at c.get-least.result.now c.get-x.result.now c.get-y.result.now c.get-least.ensures c.get-x.ensures c.get-y.ensures (sym c.better.ensures ∙ c.if-better.false) (sym c.better-in-loop-at.ensures ∙ c.if-better-2.true)) ∙ c.loop-at.invariant

pub loop-at-preserved : goal.loop-at-preserved
loop-at-preserved c = before_on c.args.ways.now c.args.a.now c.args.b.now c.loop-at.at c.get-least.result.now c.get-x.result.now c.get-y.result.now c.get-least.ensures c.get-x.ensures c.get-y.ensures (sym c.better.ensures ∙ c.if-better.false) (sym c.better-in-loop-at.ensures ∙ c.if-better-2.false) ∙ c.loop-at.invariant

pub returns : goal.returns
returns c = sym (before_end c.args.ways.now c.args.a.now c.args.b.now c.loop-at.at (subst (λ n. n ≤ c.loop-at.at) c.shared-at-end.ensures c.loop-at-test.false)) ∙ c.loop-at.invariant
