use Rattle.std.proofs.Common.{◌≡◌, ◌/◌, get_or, arith, ◌∙◌}
use Rattle.std.proofs.Math.ListN.{length-set}
use Rattle.std.proofs.lemmas.Grind.{common_steps}
use Rattle.cdcl_search.proofs.Members.{Has-at}
use Rattle.cdcl_search.proofs.Mark_steps.{place_within}
use Rattle.cdcl_search.proofs.Sweep_steps.{swept_more}
use Rattle.cdcl_search.proofs.analysis.unmark.Goals as goal

pub index-place-requires : goal.index-place-requires
index-place-requires c =
    let p = place_within _ _ _ _ _ c.requires.trail (c.requires.are_false (get_or c.args.literals.now c.loop-literal.literal-index 0) (Has-at c.args.literals.now c.loop-literal.literal-index (omega arith))) in
    omega (arith, p.2, c.requires.trail.places_len, c.args.trail.now.places.ok)

pub index_mut-requires : goal.index_mut-requires
index_mut-requires c =
    let p = place_within _ _ _ _ _ c.requires.trail (c.requires.are_false (get_or c.args.literals.now c.loop-literal.literal-index 0) (Has-at c.args.literals.now c.loop-literal.literal-index (omega arith))) in
    let r : c.index-place.result.now ≡ get_or c.args.trail.now.places.items (get_or c.args.literals.now c.loop-literal.literal-index 0 / 2) 0 = let q = c.requires.trail.places_len in grind (arith, common_steps) in
    omega (arith, r, p.0, p.1, c.requires.size, c.loop-literal.invariant.size, c.loop-literal.marks.ok)

pub loop-literal-preserved : goal.loop-literal-preserved
loop-literal-preserved c =
    let p = place_within _ _ _ _ _ c.requires.trail (c.requires.are_false (get_or c.args.literals.now c.loop-literal.literal-index 0) (Has-at c.args.literals.now c.loop-literal.literal-index (omega arith))) in
    let r : c.index-place.result.now ≡ get_or c.args.trail.now.places.items (get_or c.args.literals.now c.loop-literal.literal-index 0 / 2) 0 = let q = c.requires.trail.places_len in grind (arith, common_steps) in
    rw r (record {
      swept = swept_more _ _ _ c.args.literals.now c.loop-literal.literal-index c.loop-literal.invariant.swept;
      size = length-set c.loop-literal.marks.items (get_or c.args.trail.now.places.items (get_or c.args.literals.now c.loop-literal.literal-index 0 / 2) 0) 0 ∙ c.loop-literal.invariant.size;
    })
