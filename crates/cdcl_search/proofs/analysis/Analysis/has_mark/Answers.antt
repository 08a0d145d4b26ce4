use Rattle.std.proofs.Common.{◌≡◌, ◌≢◌, ◌↔◌, ◌/◌, get_or, arith, IsTrue, not, nat_eq}
use Rattle.std.proofs.lemmas.Grind.{common_steps}
use Rattle.cdcl_search.proofs.Mark_steps.{place_within, mark_test}
use Rattle.cdcl_search.proofs.analysis.Analysis.has_mark.Goals as goal

pub index-place-requires : goal.index-place-requires
index-place-requires c = let p = place_within _ _ _ _ _ c.requires.trail c.requires.is_false in omega (arith, p.2, c.requires.trail.places_len, c.args.trail.now.places.ok)

pub index-requires : goal.index-requires
index-requires c =
    let p = place_within _ _ _ _ _ c.requires.trail c.requires.is_false in
    let r : c.index-place.result.now ≡ get_or c.args.trail.now.places.items (c.args.literal / 2) 0 = let q = c.requires.trail.places_len in grind (arith, common_steps) in
    omega (arith, r, p.0, p.1, c.requires.size, c.args.self.now.marks.ok)

pub returns : goal.returns
returns c =
    let p = place_within _ _ _ _ _ c.requires.trail c.requires.is_false in
    let r : c.index-place.result.now ≡ get_or c.args.trail.now.places.items (c.args.literal / 2) 0 = let q = c.requires.trail.places_len in grind (arith, common_steps) in
    let n = c.requires.size in
    let m : c.index.result.now ≡ get_or c.args.self.now.marks.items c.index-place.result.now 0 = grind (arith, common_steps) in
    let t : IsTrue (not (nat_eq c.index.result.now 0)) ↔ (c.index.result.now ≢ 0) = mark_test c.index.result.now in
    rw (← r, ← m) t
