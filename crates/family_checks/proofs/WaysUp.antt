-- A test on the way up from a clafer.
use Rattle.std.proofs.Common.{◌≡◌, ℕ, zero, suc, Bool, true, false, ◌||◌, List, [], Option, Some, None, refl, ap, sym, ◌∙◌}
use Rattle.std.specs.Option.{option_map_or}
use Rattle.std.specs.List.{list_any}
use Rattle.clf_tree.specs.declared.model.Clafer.{Clafer}
use Rattle.clf_tree.specs.Hierarchy.{super_of, way_up}

or_none : (b : Bool) → (b || false) ≡ b
or_none true = refl
or_none false = refl

pub up-here : (clafers : List Clafer) (test : ℕ → Bool) (n c : ℕ) → test c ≡ true → list_any test (way_up clafers n c) ≡ true
up-here clafers test zero c met = ap (λ b. b || false) met
up-here clafers test (suc n) c met = ap (λ b. b || list_any test (option_map_or (way_up clafers n) (super_of clafers c) [])) met

pub up-end : (clafers : List Clafer) (test : ℕ → Bool) (n c : ℕ) → test c ≡ false → super_of clafers c ≡ None → list_any test (way_up clafers n c) ≡ false
up-end clafers test zero c none top = ap (λ b. b || false) none
up-end clafers test (suc n) c none top =
    ap (λ b. b || list_any test (option_map_or (way_up clafers n) (super_of clafers c) [])) none ∙ ap (λ (s : Option ℕ). list_any test (option_map_or (way_up clafers n) s [])) top

pub up-more : (clafers : List Clafer) (test : ℕ → Bool) (n c s : ℕ) → test c ≡ false → super_of clafers c ≡ Some s → list_any test (way_up clafers (suc n) c) ≡ list_any test (way_up clafers n s)
up-more clafers test n c s none above =
    ap (λ b. b || list_any test (option_map_or (way_up clafers n) (super_of clafers c) [])) none ∙ ap (λ (z : Option ℕ). list_any test (option_map_or (way_up clafers n) z [])) above

pub up-last : (clafers : List Clafer) (test : ℕ → Bool) (c : ℕ) → list_any test (way_up clafers 0 c) ≡ test c
up-last clafers test c = or_none (test c)

longer_by : (clafers : List Clafer) (test : ℕ → Bool) (n : ℕ) (next : Option ℕ) (b : Bool) → ((s : ℕ) → list_any test (way_up clafers n s) ≡ true → list_any test (way_up clafers (suc n) s) ≡ true)
    → (b || list_any test (option_map_or (way_up clafers n) next [])) ≡ true → (b || list_any test (option_map_or (way_up clafers (suc n)) next [])) ≡ true
longer_by clafers test n next true rest met = refl
longer_by clafers test n None false rest met = met
longer_by clafers test n (Some s) false rest met = rest s met

-- what is met on a way is met on a longer one
pub longer : (clafers : List Clafer) (test : ℕ → Bool) (n c : ℕ) → list_any test (way_up clafers n c) ≡ true → list_any test (way_up clafers (suc n) c) ≡ true
longer clafers test zero c met = up-here clafers test 1 c (sym (or_none (test c)) ∙ met)
longer clafers test (suc n) c met = longer_by clafers test n (super_of clafers c) (test c) (longer clafers test n) met
