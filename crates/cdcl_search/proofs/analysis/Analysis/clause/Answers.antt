use Rattle.std.proofs.Common.{◌≡◌, ◌<◌, get_or, arith, refl, ◌∙◌, ap}
use Rattle.std.proofs.lemmas.Grind.{common_steps}
use Rattle.cdcl_search.specs.Literals.{flip}
use Rattle.cdcl_search.proofs.Trail_steps.{literal_within}
use Rattle.cdcl_search.proofs.analysis.Analysis.clause.Goals as goal

pub flipped-requires : goal.flipped-requires
flipped-requires c =
    let b : c.last_mark-place.result < c.args.trail.now.count = omega (arith, c.last_mark-place.ensures.below, c.requires.within) in
    let w = literal_within _ _ _ _ c.last_mark-place.result c.requires.state b in
    let n = c.requires.state.open_count in
    let l : c.index.result.now ≡ get_or c.args.trail.now.literals.items c.last_mark-place.result 0 = grind (arith, common_steps) in
    omega (arith, l, w, c.requires.few)

pub returns-clause-clause : goal.returns-clause-clause
returns-clause-clause c =
    let b : c.last_mark-place.result < c.args.trail.now.count = omega (arith, c.last_mark-place.ensures.below, c.requires.within) in
    let n = c.requires.state.open_count in
    let l : c.index.result.now ≡ get_or c.args.trail.now.literals.items c.last_mark-place.result 0 = grind (arith, common_steps) in
    let f : c.flipped.result ≡ flip (get_or c.args.trail.now.literals.items c.last_mark-place.result 0) = c.flipped.ensures ∙ ap flip l in
    rw (c.in_ok-push.ensures.items, f, c.in_ok-extend_from_slice.ensures.items, c.new-clause.ensures.items) refl
