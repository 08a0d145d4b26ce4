-- The clafers that are-a each clafer.
use Rattle.std.proofs.Common.{◌≡◌, ℕ, suc, ◌&&◌, ◌||◌, Bool, true, false, List, [], Option, Some, None, refl, ap, sym, ◌∙◌}
use Rattle.std.specs.Prelude.{◌==◌}
use Rattle.std.specs.Option.{option_map_or}
use Rattle.clf_tree.specs.declared.model.Clafer.{Clafer}
use Rattle.clf_tree.specs.Lists.{has}
use Rattle.clf_tree.specs.Hierarchy.{super_of, way_up}

mix : (a b c d : Bool) → ((a || (b && d)) || (c && d)) ≡ (a || ((b || c) && d))
mix true b c d = refl
mix false true c true = refl
mix false true true false = refl
mix false true false false = refl
mix false false c d = refl

mix_end : (a b d : Bool) → (a || (b && d)) ≡ (a || ((b || false) && d))
mix_end true b d = refl
mix_end false true d = refl
mix_end false false d = refl

pub heir_on : (clafers : List Clafer) (n cur above p m heir : ℕ) (a new : Bool) → new ≡ (a || (p == cur && m == heir)) → super_of clafers cur ≡ Some above
    → (new || (has (way_up clafers n above) p && m == heir)) ≡ (a || (has (way_up clafers (suc n) cur) p && m == heir))
heir_on clafers n cur above p m heir a new e up =
    ap (λ z. z || (has (way_up clafers n above) p && m == heir)) e ∙ mix a (p == cur) (has (way_up clafers n above) p) (m == heir)
    ∙ ap (λ (o : Option ℕ). a || (((p == cur) || has (option_map_or (way_up clafers n) o []) p) && m == heir)) (sym up)

pub heir_end : (clafers : List Clafer) (n cur p m heir : ℕ) (a new : Bool) → new ≡ (a || (p == cur && m == heir)) → super_of clafers cur ≡ None
    → new ≡ (a || (has (way_up clafers (suc n) cur) p && m == heir))
heir_end clafers n cur p m heir a new e up =
    e ∙ mix_end a (p == cur) (m == heir)
    ∙ ap (λ (o : Option ℕ). a || (((p == cur) || has (option_map_or (way_up clafers n) o []) p) && m == heir)) (sym up)

pub heir_last : (clafers : List Clafer) (cur p m heir : ℕ) (a new : Bool) → new ≡ (a || (p == cur && m == heir)) → new ≡ (a || (has (way_up clafers 0 cur) p && m == heir))
heir_last clafers cur p m heir a new e = e ∙ mix_end a (p == cur) (m == heir)
