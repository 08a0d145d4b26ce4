use Rattle.std.proofs.Common.{ℕ, ◌≡◌, ◌≢◌, ◌+◌, ◌-◌, ◌<◌, [], length, get_or, set, arith, sym, ◌∙◌, ap}
use Rattle.std.specs.List.{swap_remove}
use Rattle.std.proofs.lemmas.Grind.{common_steps}
use Rattle.std.proofs.lemmas.List.{length-map, map-set, get_or-map}
use Rattle.cdcl_search.specs.Rows.{IsLess}
use Rattle.cdcl_search.proofs.Row_steps.{removed_stands, removed_row, swapped_last, swapped_other}
use Rattle.cdcl_search.proofs.lists.Lists.remove.Goals as goal

pub returns : goal.returns
returns c =
    let n = length-map c.self.inside.rows.items (λ r. r.items) in
    let b : c.args.literal < length c.self.inside.rows.items = omega (arith, n, c.requires.row, ap length c.self.view_is) in
    let r : c.index_mut.result.now ≡ get_or c.self.inside.rows.items c.args.literal c.index_mut.result.now = grind (arith, common_steps) in
    let g = get_or-map (λ r. r.items) c.self.inside.rows.items c.args.literal c.index_mut.result.now [] b in
    let e : c.index_mut.result.now.items ≡ get_or c.args.self.now c.args.literal [] = ap (λ x. x.items) r ∙ sym g ∙ ap (λ x. get_or x c.args.literal []) c.self.view_is in
    let l : length c.swap_remove.new.self.items + 1 ≡ length (get_or c.args.self.now c.args.literal []) = c.swap_remove.ensures.len ∙ ap length e in
    let w : c.swap_remove.new.self.items ≡ swap_remove (get_or c.args.self.now c.args.literal []) c.args.index c.swap_remove.result = c.swap_remove.ensures.items ∙ ap (λ x. swap_remove x c.args.index c.swap_remove.result) e in
    let last : c.args.index + 1 < length (get_or c.args.self.now c.args.literal []) → get_or c.swap_remove.new.self.items c.args.index 0 ≡ get_or (get_or c.args.self.now c.args.literal []) (length (get_or c.args.self.now c.args.literal []) - 1) 0
    = λ h. ap (λ x. get_or x c.args.index 0) w ∙ swapped_last (get_or c.args.self.now c.args.literal []) c.args.index c.swap_remove.result h in
    let rest : (k : ℕ) → k ≢ c.args.index → k + 1 < length (get_or c.args.self.now c.args.literal []) → get_or c.swap_remove.new.self.items k 0 ≡ get_or (get_or c.args.self.now c.args.literal []) k 0
    = λ k d h. ap (λ x. get_or x k 0) w ∙ swapped_other (get_or c.args.self.now c.args.literal []) c.args.index c.swap_remove.result k d h in
    let z : IsLess c.args.self.now (set c.args.self.now c.args.literal c.swap_remove.new.self.items) c.args.literal c.args.index =
    removed_row c.args.self.now c.args.literal c.args.index c.swap_remove.new.self.items c.requires.row l
    (removed_stands (get_or c.args.self.now c.args.literal []) c.swap_remove.new.self.items c.args.index c.requires.within l last rest) in
    rw (map-set (λ r. r.items) c.self.inside.rows.items c.args.literal c.swap_remove.new.self, c.self.view_is) z
