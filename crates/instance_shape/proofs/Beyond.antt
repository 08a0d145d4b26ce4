-- A number that names no clafer.
use Rattle.std.proofs.Common.{◌≡◌, ℕ, zero, suc, ◌≤◌, Bool, true, false, ◌||◌, List, [], ◌∷◌, length, Option, Some, None, refl, ap, sym, ◌∙◌, arith}
use Rattle.std.specs.Prelude.{◌==◌}
use Rattle.std.specs.Option.{option_map_or, option_and_then}
use Rattle.std.specs.List.{list_any}
use Rattle.std.proofs.lemmas.Option.{slice_get_past}
use Rattle.clf_tree.specs.declared.model.Clafer.{Clafer}
use Rattle.clf_tree.specs.Lists.{has}
use Rattle.clf_tree.specs.Hierarchy.{super_of, way_up, is_a}

or_false : (b : Bool) → (b || false) ≡ b
or_false true = refl
or_false false = refl

alone : (clafers : List Clafer) (n low : ℕ) → super_of clafers low ≡ None → way_up clafers n low ≡ low ∷ []
alone clafers zero low h = refl
alone clafers (suc n) low h = ap (λ o. low ∷ option_map_or (way_up clafers n) o []) h

pub is_a_beyond : (clafers : List Clafer) (low high : ℕ) → length clafers ≤ low → is_a clafers low high ≡ (high == low)
is_a_beyond clafers low high past =
    ap (λ xs. has xs high) (alone clafers (length clafers) low (ap (option_and_then (λ (k : Clafer). k.above)) (slice_get_past clafers low past))) ∙ or_false (high == low)
