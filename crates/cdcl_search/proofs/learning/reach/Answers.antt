use Rattle.std.proofs.Common.{◌≡◌, ◌/◌, inl, inr, length, get_or, arith}
use Rattle.std.proofs.lemmas.Grind.{common_steps}
use Rattle.std.proofs.lemmas.Bool.{cases_eq}
use Rattle.cdcl_search.proofs.Members.{Has-at}
use Rattle.cdcl_search.proofs.Mark_steps.{place_within}
use Rattle.cdcl_search.proofs.learning.reach.Goals as goal
use Rattle.cdcl_search.proofs.learning.reach.Goals.{then-reach-after, else-reach-after}

pub index-requires : goal.index-requires
index-requires c =
    let p = place_within _ _ _ _ (get_or c.args.lower.now c.loop-literal.literal-index 0) c.requires.trail (c.requires.are_false _ (Has-at _ c.loop-literal.literal-index (omega arith))) in
    let n : length c.args.trail.now.places.items ≡ length c.args.trail.now.literals.items = c.requires.trail.places_len in
    grind (arith, common_steps)

pub loop-literal-preserved : goal.loop-literal-preserved
loop-literal-preserved c =
    let h = Has-at c.args.lower.now c.loop-literal.literal-index (omega arith) in
    let p = place_within _ _ _ _ (get_or c.args.lower.now c.loop-literal.literal-index 0) c.requires.trail (c.requires.are_false _ h) in
    let n : length c.args.trail.now.places.items ≡ length c.args.trail.now.literals.items = c.requires.trail.places_len in
    let r : c.index.result.now ≡ get_or c.args.trail.now.places.items (get_or c.args.lower.now c.loop-literal.literal-index 0 / 2) 0 = grind (arith, common_steps) in
    elim c.if-reach-after.branch [
      | then-reach-after w ↦ rw w.reach-is (record {
        before = λ j k. elim (cases_eq j c.loop-literal.literal-index) [ inl e ↦ rw (e, ← r) (omega arith) | inr e ↦ omega (arith, c.loop-literal.invariant.before j (omega arith), w.if-reach-after.true) ];
        reached = inr (get_or c.args.lower.now c.loop-literal.literal-index 0, h, omega (arith, r));
      })
      | else-reach-after w ↦ rw w.reach-is (record {
        before = λ j k. elim (cases_eq j c.loop-literal.literal-index) [ inl e ↦ rw (e, ← r) (omega (arith, w.if-reach-after.false)) | inr e ↦ c.loop-literal.invariant.before j (omega arith) ];
        reached = c.loop-literal.invariant.reached;
      })
    ]
