use Rattle.std.proofs.Common.{◌≡◌, ◌/◌, length, get_or, arith, sym, ◌∙◌}
use Rattle.std.proofs.lemmas.Grind.{common_steps}
use Rattle.cdcl_search.specs.Marks.{ones}
use Rattle.cdcl_search.proofs.Mark_steps.{place_within, mark_last, mark_lower, one_more, no_more, ones-at-most}
use Rattle.cdcl_search.proofs.analysis.Analysis.mark.Goals as goal

pub index-requires-2 : goal.index-requires-2
index-requires-2 c =
    let p = place_within _ _ _ _ _ c.requires.trail c.requires.is_false in
    let r : c.index.result.now ≡ get_or c.args.trail.now.places.items (c.args.literal / 2) 0 = grind (arith, common_steps) in
    let n : length c.args.self.now.marks.items ≡ length c.args.trail.now.literals.items = c.requires.marked.len in
    grind (arith, common_steps)

pub returns-then-index-ne0-clause-one : goal.returns-then-index-ne0-clause-one
returns-then-index-ne0-clause-one c =
    let p = place_within _ _ _ _ _ c.requires.trail c.requires.is_false in
    let r : c.index.result.now ≡ get_or c.args.trail.now.places.items (c.args.literal / 2) 0 = grind (arith, common_steps) in
    let n : length c.args.self.now.marks.items ≡ length c.args.trail.now.literals.items = c.requires.marked.len in
    let m : c.index-2.result.now ≡ get_or c.args.self.now.marks.items c.index.result.now 0 = grind (arith, common_steps) in
    no_more _ _ (rw (← r, ← m) c.if-index-ne0.true)

pub index_mut-requires : goal.index_mut-requires
index_mut-requires c =
    let p = place_within _ _ _ _ _ c.requires.trail c.requires.is_false in
    let r : c.index.result.now ≡ get_or c.args.trail.now.places.items (c.args.literal / 2) 0 = grind (arith, common_steps) in
    let n : length c.args.self.now.marks.items ≡ length c.args.trail.now.literals.items = c.requires.marked.len in
    grind (arith, common_steps)

pub returns-then-place-base-clause-marked : goal.returns-then-place-base-clause-marked
returns-then-place-base-clause-marked c =
    let p = place_within _ _ _ _ _ c.requires.trail c.requires.is_false in
    let r : c.index.result.now ≡ get_or c.args.trail.now.places.items (c.args.literal / 2) 0 = grind (arith, common_steps) in
    let n : length c.args.self.now.marks.items ≡ length c.args.trail.now.literals.items = c.requires.marked.len in
    let m : c.index-2.result.now ≡ get_or c.args.self.now.marks.items c.index.result.now 0 = grind (arith, common_steps) in
    let z : get_or c.args.self.now.marks.items (get_or c.args.trail.now.places.items (c.args.literal / 2) 0) 0 ≡ 0 = rw (← r) (sym m ∙ c.if-index-ne0.false) in
    rw (c.in_ok-push.ensures.items, r) (mark_lower _ _ _ _ _ _ _ _ _ _ c.requires.trail c.requires.marked c.requires.is_false (omega arith) (omega (arith, r)) z)

pub returns-then-place-base-clause-one : goal.returns-then-place-base-clause-one
returns-then-place-base-clause-one c =
    let p = place_within _ _ _ _ _ c.requires.trail c.requires.is_false in
    let r : c.index.result.now ≡ get_or c.args.trail.now.places.items (c.args.literal / 2) 0 = grind (arith, common_steps) in
    rw r (one_more _ _ (omega (arith, c.requires.marked.len)))

pub overflow_add-self : goal.overflow_add-self
overflow_add-self c =
    let o = ones-at-most c.args.base c.args.self.now.marks.items in
    let k : c.args.self.now.counter ≡ ones c.args.base c.args.self.now.marks.items = c.requires.marked.counts in
    grind (arith, common_steps)

pub index_mut-requires-2 : goal.index_mut-requires-2
index_mut-requires-2 c =
    let p = place_within _ _ _ _ _ c.requires.trail c.requires.is_false in
    let r : c.index.result.now ≡ get_or c.args.trail.now.places.items (c.args.literal / 2) 0 = grind (arith, common_steps) in
    let n : length c.args.self.now.marks.items ≡ length c.args.trail.now.literals.items = c.requires.marked.len in
    grind (arith, common_steps)

pub returns-clause-marked : goal.returns-clause-marked
returns-clause-marked c =
    let p = place_within _ _ _ _ _ c.requires.trail c.requires.is_false in
    let r : c.index.result.now ≡ get_or c.args.trail.now.places.items (c.args.literal / 2) 0 = grind (arith, common_steps) in
    let n : length c.args.self.now.marks.items ≡ length c.args.trail.now.literals.items = c.requires.marked.len in
    let m : c.index-2.result.now ≡ get_or c.args.self.now.marks.items c.index.result.now 0 = grind (arith, common_steps) in
    let z : get_or c.args.self.now.marks.items (get_or c.args.trail.now.places.items (c.args.literal / 2) 0) 0 ≡ 0 = rw (← r) (sym m ∙ c.if-index-ne0.false) in
    rw r (mark_last _ _ c.args.trail.now.literals.items c.args.trail.now.count _ _ _ _ _ _ c.requires.marked (omega arith) (omega (arith, r)) z)

pub returns-clause-one : goal.returns-clause-one
returns-clause-one c =
    let p = place_within _ _ _ _ _ c.requires.trail c.requires.is_false in
    let r : c.index.result.now ≡ get_or c.args.trail.now.places.items (c.args.literal / 2) 0 = grind (arith, common_steps) in
    rw r (one_more _ _ (omega (arith, c.requires.marked.len)))
