-- The goals that are left decide.
use Rattle.std.proofs.Common.{sym, ◌∙◌, subst, ◌≤◌}
use Rattle.goal_vectors.proofs.Left.{somewhere_here, somewhere_on, somewhere_end}
use Rattle.goal_vectors.proofs.comparing.has_better.Goals as goal

pub returns-then-better : goal.returns-then-better
returns-then-better c = sym (somewhere_here c.args.ways.now c.args.a.now c.args.b.now c.loop-at.at c.get.result.now c.get-in-loop-at.result.now c.get-in-loop-at-2.result.now c.get.ensures c.get-in-loop-at.ensures c.get-in-loop-at-2.ensures (sym c.better.ensures ∙ c.if-better.true)) ∙ c.loop-at.invariant

pub loop-at-preserved : goal.loop-at-preserved
loop-at-preserved c = somewhere_on c.args.ways.now c.args.a.now c.args.b.now c.loop-at.at c.get.result.now c.get-in-loop-at.result.now c.get-in-loop-at-2.result.now c.get.ensures c.get-in-loop-at.ensures c.get-in-loop-at-2.ensures (sym c.better.ensures ∙ c.if-better.false) ∙ c.loop-at.invariant

pub returns : goal.returns
returns c = sym (somewhere_end c.args.ways.now c.args.a.now c.args.b.now c.loop-at.at (subst (λ n. n ≤ c.loop-at.at) c.shared-at-end.ensures c.loop-at-test.false)) ∙ c.loop-at.invariant
