use Rattle.std.proofs.Common.{ℕ, List, ◌≡◌, ◌≢◌, ◌+◌, ◌<◌, get_or, arith}
use Rattle.std.proofs.lemmas.Grind.{common_steps}
use Rattle.cdcl_search.specs.Marks.{ones}
use Rattle.cdcl_search.specs.Explanations.{AreMarksBelow}
use Rattle.cdcl_search.proofs.Explain_steps.{ones_top}
use Rattle.cdcl_search.proofs.analysis.Analysis.last_mark.Goals as goal

pub overflow_sub-at : goal.overflow_sub-at
overflow_sub-at c = omega (arith, ones_top _ _ _ c.requires.top c.requires.some)

pub loop-at-init : goal.loop-at-init
loop-at-init c =
    let b = ones_top _ _ _ c.requires.top c.requires.some in
    record { top = λ p x. omega (arith, c.requires.top p x); below = omega (arith, b) }

-- the place has no mark, so there is a mark before it
earlier : (base at : ℕ) (m : List ℕ) → AreMarksBelow m (at + 1) → 0 < ones base m → get_or m at 0 ≡ 0 → base < at
earlier base at m b h z = ones_top base m at (λ p x. let d : p ≢ at = λ e. x (rw e z) in omega (arith, b p x)) h

pub overflow_sub-at-in-loop-at : goal.overflow_sub-at-in-loop-at
overflow_sub-at-in-loop-at c = omega (arith, earlier _ c.loop-at.at _ c.loop-at.invariant.top c.requires.some (grind (arith, common_steps)))

pub loop-at-smaller : goal.loop-at-smaller
loop-at-smaller c = omega (arith, earlier _ c.loop-at.at _ c.loop-at.invariant.top c.requires.some (grind (arith, common_steps)))

pub returns-clause-after : goal.returns-clause-after
returns-clause-after c = omega (arith, ones_top _ _ _ c.loop-at.invariant.top c.requires.some)
