use Rattle.std.proofs.Common.{◌≡◌, ◌-◌, ◌*◌, length, get_or, arith, ap}
use Rattle.std.proofs.lemmas.Grind.{common_steps}
use Rattle.cdcl_search.proofs.Flips.{flip-below}
use Rattle.cdcl_search.proofs.Trail_steps.{literal_within, agree_chain, undone_one}
use Rattle.cdcl_search.proofs.trail.Trail.undo_to.Goals as goal

pub index_mut-requires : goal.index_mut-requires
index_mut-requires c =
    let r : length c.loop-self.self.literals.items ≡ length c.args.self.now.literals.items = ap (λ x. length x.items) c.loop-self.invariant.literals in
    let l : c.index-literal.result.now ≡ get_or c.loop-self.self.literals.items (c.loop-self.self.count - 1) 0 = grind (arith, common_steps) in
    let b = literal_within _ _ _ _ (c.loop-self.self.count - 1) c.loop-self.invariant.trail (omega arith) in
    let n : length c.loop-self.self.values.items ≡ 2 * length c.loop-self.self.literals.items = c.loop-self.invariant.trail.values_len in
    grind (arith, common_steps)

pub flipped-requires : goal.flipped-requires
flipped-requires c =
    let r : length c.loop-self.self.literals.items ≡ length c.args.self.now.literals.items = ap (λ x. length x.items) c.loop-self.invariant.literals in
    let l : c.index-literal.result.now ≡ get_or c.loop-self.self.literals.items (c.loop-self.self.count - 1) 0 = grind (arith, common_steps) in
    let b = literal_within _ _ _ _ (c.loop-self.self.count - 1) c.loop-self.invariant.trail (omega arith) in
    omega (arith, b, l, r, c.requires.few)

pub index_mut-requires-in-loop-self : goal.index_mut-requires-in-loop-self
index_mut-requires-in-loop-self c =
    let l : c.index-literal.result.now ≡ get_or c.loop-self.self.literals.items (c.loop-self.self.count - 1) 0 = grind (arith, common_steps) in
    let b = literal_within _ _ _ _ (c.loop-self.self.count - 1) c.loop-self.invariant.trail (omega arith) in
    let f = flip-below c.index-literal.result.now (length c.loop-self.self.literals.items) (omega (arith, b, l)) in
    let n : length c.loop-self.self.values.items ≡ 2 * length c.loop-self.self.literals.items = c.loop-self.invariant.trail.values_len in
    grind (arith, common_steps)

pub loop-self-preserved : goal.loop-self-preserved
loop-self-preserved c =
    let l : c.index-literal.result.now ≡ get_or c.loop-self.self.literals.items (c.loop-self.self.count - 1) 0 = grind (arith, common_steps) in
    let x = undone_one _ _ _ _ (c.loop-self.self.count - 1) c.index-literal.result.now c.loop-self.invariant.trail (omega arith) l in
    rw c.flipped.ensures (record {
      trail = x.0;
      agree = agree_chain _ _ _ _ _ _ _ _ c.loop-self.invariant.agree x.1 (omega arith);
      within = omega arith;
      places = c.loop-self.invariant.places;
      reasons = c.loop-self.invariant.reasons;
      literals = c.loop-self.invariant.literals;
      limits = c.loop-self.invariant.limits;
    })
