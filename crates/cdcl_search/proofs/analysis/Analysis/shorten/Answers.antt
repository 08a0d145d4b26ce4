use Rattle.std.proofs.Common.{◌≡◌, ◌<◌, ◌/◌, length, get_or, arith, ap}
use Rattle.std.proofs.lemmas.Grind.{common_steps}
use Rattle.cdcl_search.specs.Trails.{FalseBelow}
use Rattle.cdcl_search.proofs.Members.{Has-at}
use Rattle.cdcl_search.proofs.Mark_steps.{place_within}
use Rattle.cdcl_search.proofs.analysis.Analysis.shorten.Goals as goal

pub index-requires-in-loop-index : goal.index-requires-in-loop-index
index-requires-in-loop-index c =
    let s = c.requires.state.search.trail in
    let n = ap (λ x. length x.items) c.loop-index.invariant.lower in
    let b : c.loop-index.index < length c.loop-index.self.lower.items = omega (arith, c.loop-index-test.true, c.len-index-end.ensures, c.args.self.now.lower.ok, n) in
    let l : c.index.result.now ≡ get_or c.loop-index.self.lower.items c.loop-index.index 0 = grind (arith, common_steps) in
    let f : FalseBelow c.args.trail.now.values.items c.args.trail.now.places.items (get_or c.loop-index.self.lower.items c.loop-index.index 0) c.args.base = c.loop-index.invariant.explained.marked.below _ (Has-at c.loop-index.self.lower.items c.loop-index.index b) in
    let p = place_within _ _ _ _ _ s f.value in
    omega (arith, l, p.2, s.places_len, c.args.trail.now.places.ok)

pub leave_out-requires-clause-within : goal.leave_out-requires-clause-within
leave_out-requires-clause-within c =
    let s = c.requires.state.search.trail in
    let n = ap (λ x. length x.items) c.loop-index.invariant.lower in
    let b : c.loop-index.index < length c.loop-index.self.lower.items = omega (arith, c.loop-index-test.true, c.len-index-end.ensures, c.args.self.now.lower.ok, n) in
    let l : c.index.result.now ≡ get_or c.loop-index.self.lower.items c.loop-index.index 0 = grind (arith, common_steps) in
    let f : FalseBelow c.args.trail.now.values.items c.args.trail.now.places.items (get_or c.loop-index.self.lower.items c.loop-index.index 0) c.args.base = c.loop-index.invariant.explained.marked.below _ (Has-at c.loop-index.self.lower.items c.loop-index.index b) in
    let p = place_within _ _ _ _ _ s f.value in
    let k = s.places_len in
    let i : c.index.result.now / 2 < length c.args.trail.now.places.items = omega (arith, l, p.2, s.places_len) in
    let r : c.index-in-loop-index.result.now ≡ get_or c.args.trail.now.places.items (c.index.result.now / 2) 0 = grind (arith, common_steps) in
    let q : get_or c.args.trail.now.places.items (c.index.result.now / 2) 0 ≡ get_or c.args.trail.now.places.items (get_or c.loop-index.self.lower.items c.loop-index.index 0 / 2) 0 = ap (λ x. get_or c.args.trail.now.places.items (x / 2) 0) l in
    omega (arith, r, q, p.0)

pub leave_out-requires-clause-before : goal.leave_out-requires-clause-before
leave_out-requires-clause-before c =
    let s = c.requires.state.search.trail in
    let n = ap (λ x. length x.items) c.loop-index.invariant.lower in
    let b : c.loop-index.index < length c.loop-index.self.lower.items = omega (arith, c.loop-index-test.true, c.len-index-end.ensures, c.args.self.now.lower.ok, n) in
    let l : c.index.result.now ≡ get_or c.loop-index.self.lower.items c.loop-index.index 0 = grind (arith, common_steps) in
    let f : FalseBelow c.args.trail.now.values.items c.args.trail.now.places.items (get_or c.loop-index.self.lower.items c.loop-index.index 0) c.args.base = c.loop-index.invariant.explained.marked.below _ (Has-at c.loop-index.self.lower.items c.loop-index.index b) in
    let p = place_within _ _ _ _ _ s f.value in
    let k = s.places_len in
    let i : c.index.result.now / 2 < length c.args.trail.now.places.items = omega (arith, l, p.2, s.places_len) in
    let r : c.index-in-loop-index.result.now ≡ get_or c.args.trail.now.places.items (c.index.result.now / 2) 0 = grind (arith, common_steps) in
    let q : get_or c.args.trail.now.places.items (c.index.result.now / 2) 0 ≡ get_or c.args.trail.now.places.items (get_or c.loop-index.self.lower.items c.loop-index.index 0 / 2) 0 = ap (λ x. get_or c.args.trail.now.places.items (x / 2) 0) l in
    omega (arith, r, q, f.place)
