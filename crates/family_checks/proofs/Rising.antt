-- Heights that are looked at clafer by clafer.
use Rattle.std.proofs.Common.{◌≡◌, ℕ, zero, suc, ◌+◌, ◌<◌, ◌≤◌, false, not, List, [], ◌∷◌, length, Option, Some, None, refl, ap, sym, ◌∙◌, subst, arith, inl, inr}
use Rattle.std.specs.Prelude.{slice_get}
use Rattle.std.specs.Option.{option_and_then, option_map_or}
use Rattle.std.proofs.lemmas.Bool.{cases_eq, cases_lt, true≢false}
use Rattle.clf_tree.specs.declared.model.Clafer.{Clafer}
use Rattle.clf_tree.specs.Hierarchy.{super_of, parent_of}
use Rattle.family_checks.specs.Heights.{RiseAt, Rise}

pub past : (clafers : List Clafer) (c : ℕ) → length clafers ≤ c → slice_get clafers c ≡ None
past [] c le = refl
past (k ∷ clafers) zero le = absurd (omega (arith, le))
past (k ∷ clafers) (suc c) le = past clafers c (omega (arith, le))

pub not_some : (o : Option ℕ) (p : ℕ) → o ≡ None → o ≡ Some p → ⊥
not_some None p none some = (cc)
not_some (Some q) p none some = (cc)

none_at : (clafers : List Clafer) (own heirs : List ℕ) (c : ℕ) → length clafers ≤ c → RiseAt clafers own heirs c
none_at clafers own heirs c le =
    let none = past clafers c le in
    record {
      below_parent = λ p e. absurd (not_some (parent_of clafers c) p (ap (option_and_then (λ k. k.parent)) none) e);
      is_heir = λ e. absurd (true≢false (sym e ∙ ap (λ (k : Option Clafer). option_map_or (λ z. not z.is_abstract) k false) none));
      heirs_of_super = λ s e. absurd (not_some (super_of clafers c) s (ap (option_and_then (λ k. k.above)) none) e);
    }

pub rise_more : (clafers : List Clafer) (own heirs : List ℕ) (n : ℕ) → ((c : ℕ) → c < n → RiseAt clafers own heirs c) → RiseAt clafers own heirs n → (c : ℕ) → c < n + 1 → RiseAt clafers own heirs c
rise_more clafers own heirs n before here c within = elim (cases_eq c n) [
  | inl same ↦ subst (RiseAt clafers own heirs) (sym same) here
  | inr apart ↦ before c (omega (arith, within, apart))
]

pub rise_all : (clafers : List Clafer) (own heirs : List ℕ) (n : ℕ) → length clafers ≤ n → ((c : ℕ) → c < n → RiseAt clafers own heirs c) → Rise clafers own heirs
rise_all clafers own heirs n all below c = elim (cases_lt c n) [
  | inl within ↦ below c within
  | inr past_end ↦ none_at clafers own heirs c (omega (arith, past_end, all))
]
