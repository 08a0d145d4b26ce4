use Rattle.std.proofs.Common.{◌≡◌, ◌-◌, ◌<◌, length, get_or, arith}
use Rattle.std.proofs.lemmas.Grind.{common_steps}
use Rattle.cdcl_search.proofs.Flips.{flip-below}
use Rattle.cdcl_search.proofs.Trail_steps.{literal_within}
use Rattle.cdcl_search.proofs.learning.enlist.Goals as goal

pub flipped-requires : goal.flipped-requires
flipped-requires c =
    let n = c.requires.trail.open_count in
    let b : c.args.after - 1 < length c.args.trail.now.literals.items = omega (arith, c.requires.within, c.if-after-eq0.false) in
    let l : c.index.result.now ≡ get_or c.args.trail.now.literals.items (c.args.after - 1) 0 = grind (arith, common_steps) in
    let w = literal_within _ _ _ _ (c.args.after - 1) c.requires.trail (omega (arith, c.requires.within, c.if-after-eq0.false)) in
    omega (arith, l, w, c.requires.few)

pub add-requires-clause-second : goal.add-requires-clause-second
add-requires-clause-second c =
    let n = c.requires.trail.open_count in
    let b : c.args.after - 1 < length c.args.trail.now.literals.items = omega (arith, c.requires.within, c.if-after-eq0.false) in
    let l : c.index.result.now ≡ get_or c.args.trail.now.literals.items (c.args.after - 1) 0 = grind (arith, common_steps) in
    let w = literal_within _ _ _ _ (c.args.after - 1) c.requires.trail (omega (arith, c.requires.within, c.if-after-eq0.false)) in
    rw (c.flipped.ensures, c.requires.size) (flip-below c.index.result.now (length c.args.trail.now.literals.items) (omega (arith, l, w)))
