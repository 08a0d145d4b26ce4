use Rattle.std.proofs.Common.{◌≡◌, [], length, get_or, arith, refl, sym, ◌∙◌, ap}
use Rattle.std.proofs.lemmas.Grind.{common_steps}
use Rattle.std.specs.List.{slice_range}
use Rattle.cdcl_search.specs.Arenas.{begin, cut}
use Rattle.cdcl_search.proofs.Arena_steps.{length-cut, end_within, begin_zero, begin_from, clause_at}
use Rattle.cdcl_search.proofs.arena.Arena.clause.Goals as goal

pub begin_of-start-requires : goal.begin_of-start-requires
begin_of-start-requires c =
    let n : length c.self.inside.ends.items ≡ length c.args.self.now = sym (length-cut c.self.inside.pool.items 0 c.self.inside.ends.items) ∙ ap length c.self.view_is in
    rw c.deref.ensures.value (omega (arith, n, c.requires))

pub index-end-requires : goal.index-end-requires
index-end-requires c =
    let n : length c.self.inside.ends.items ≡ length c.args.self.now = sym (length-cut c.self.inside.pool.items 0 c.self.inside.ends.items) ∙ ap length c.self.view_is in
    let m : length c.deref.result.now ≡ length c.self.inside.ends.items = ap length c.deref.ensures.value in
    omega (arith, n, m, c.deref.ensures.len, c.requires)

pub part-requires : goal.part-requires
part-requires c =
    let n : length c.self.inside.ends.items ≡ length c.args.self.now = sym (length-cut c.self.inside.pool.items 0 c.self.inside.ends.items) ∙ ap length c.self.view_is in
    let e = end_within 0 (length c.self.inside.pool.items) c.self.inside.ends.items c.args.at c.self.invariant (omega (arith, n, c.requires)) in
    let b : c.begin_of-start.result ≡ begin_from 0 c.self.inside.ends.items c.args.at = c.begin_of-start.ensures ∙ ap (λ x. begin x c.args.at) c.deref.ensures.value ∙ begin_zero c.self.inside.ends.items c.args.at in
    let d : c.index-end.result.now ≡ get_or c.self.inside.ends.items c.args.at 0 = grind (arith, common_steps) in
    let l : length c.deref-2.result.now ≡ length c.self.inside.pool.items = ap length c.deref-2.ensures.value in
    record { order = omega (arith, e.0, b, d); within = omega (arith, e.1, d, l) }

pub returns : goal.returns
returns c =
    let n : length c.self.inside.ends.items ≡ length c.args.self.now = sym (length-cut c.self.inside.pool.items 0 c.self.inside.ends.items) ∙ ap length c.self.view_is in
    let b : c.begin_of-start.result ≡ begin_from 0 c.self.inside.ends.items c.args.at = c.begin_of-start.ensures ∙ ap (λ x. begin x c.args.at) c.deref.ensures.value ∙ begin_zero c.self.inside.ends.items c.args.at in
    let d : c.index-end.result.now ≡ get_or c.self.inside.ends.items c.args.at 0 = grind (arith, common_steps) in
    let e : get_or (cut c.self.inside.pool.items 0 c.self.inside.ends.items) c.args.at [] ≡ slice_range c.self.inside.pool.items (begin_from 0 c.self.inside.ends.items c.args.at) (get_or c.self.inside.ends.items c.args.at 0) = clause_at c.self.inside.pool.items 0 c.self.inside.ends.items c.args.at (omega (arith, n, c.requires)) in
    let f : get_or c.args.self.now c.args.at [] ≡ get_or (cut c.self.inside.pool.items 0 c.self.inside.ends.items) c.args.at [] = ap (λ x. get_or x c.args.at []) (sym c.self.view_is) in
    rw (f, e, c.part.ensures, b, d, c.deref-2.ensures.value) refl
