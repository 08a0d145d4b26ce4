-- The path of a clafer by that of the one above it.
use Rattle.std.proofs.Common.{◌≡◌, ℕ, zero, suc, ◌-◌, List, [], ◌∷◌, ◌++◌, Option, Some, None, refl, ap, sym, ◌∙◌, append_assoc, arith}
use Rattle.std.specs.Option.{option_map_or}
use Rattle.clf_tree.specs.declared.model.Clafer.{Clafer}
use Rattle.clf_tree.specs.Hierarchy.{parent_of}
use Rattle.instance_text.specs.Names.{name_of, path_within}

regroup : (a b c d : List ℕ) → ((a ++ b) ++ c) ++ d ≡ a ++ ((b ++ c) ++ d)
regroup a b c d = simp append_assoc

pub path_top : (clafers : List Clafer) (steps c : ℕ) → (steps ≡ 0 → ⊥) → parent_of clafers c ≡ None → path_within clafers steps c ≡ name_of clafers c
path_top clafers zero c h e = absurd (h refl)
path_top clafers (suc n) c h e = ap (λ q. option_map_or (λ p. path_within clafers n p ++ 46 ∷ []) q [] ++ name_of clafers c) e

path_next : (clafers : List Clafer) (steps c p : ℕ) → (steps ≡ 0 → ⊥) → parent_of clafers c ≡ Some p → path_within clafers steps c ≡ (path_within clafers (steps - 1) p ++ 46 ∷ []) ++ name_of clafers c
path_next clafers zero c p h e = absurd (h refl)
path_next clafers (suc n) c p h e =
    let same : n ≡ suc n - 1 = omega arith in
    ap (λ q. option_map_or (λ m. path_within clafers n m ++ 46 ∷ []) q [] ++ name_of clafers c) e ∙ ap (λ m. (path_within clafers m p ++ 46 ∷ []) ++ name_of clafers c) same

pub path_below : (clafers : List Clafer) (steps c p : ℕ) (text : List ℕ) → (steps ≡ 0 → ⊥) → parent_of clafers c ≡ Some p
    → text ++ path_within clafers steps c ≡ ((text ++ path_within clafers (steps - 1) p) ++ 46 ∷ []) ++ name_of clafers c
path_below clafers steps c p text h e = ap (λ z. text ++ z) (path_next clafers steps c p h e) ∙ sym (regroup text (path_within clafers (steps - 1) p) (46 ∷ []) (name_of clafers c))

pub ruleset path_steps = (path_top, path_below)
