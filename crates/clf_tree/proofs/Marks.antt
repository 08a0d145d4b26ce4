-- One more clafer marks its parent.
use Rattle.std.proofs.Common.{◌≡◌, ℕ, ◌<◌, ◌≢◌, Bool, true, false, ◌&&◌, ◌||◌, List, [], ◌∷◌, ◌++◌, length, set, get_or, Some, None, inl, inr, refl, ap, sym, ◌∙◌, arith}
use Rattle.std.specs.Prelude.{◌==◌}
use Rattle.std.specs.Option.{option_map_or}
use Rattle.std.specs.List.{list_any}
use Rattle.std.proofs.lemmas.Bool.{cases_eq}
use Rattle.std.proofs.lemmas.List.{get_or-set_same, get_or-set_other}
use Rattle.std.proofs.lemmas.List.Folds.{list_any-append}
use Rattle.clf_tree.specs.declared.model.Clafer.{Clafer}
use Rattle.clf_tree.specs.Hierarchy.{parent_of, is_one_of}
use Rattle.clf_tree.specs.Kinds.{is_child}
use Rattle.clf_tree.specs.Marks.{MarksParents}

or_nothing : (b : Bool) → (b || (false || false)) ≡ b
or_nothing true = refl
or_nothing false = refl

or_something : (b : Bool) → (b || (true || false)) ≡ true
or_something true = refl
or_something false = refl

and_nothing : (b : Bool) → (b && false) ≡ false
and_nothing true = refl
and_nothing false = refl

equals_itself : (p : ℕ) → (p == p) ≡ true
equals_itself p = grind arith

differs : (q p : ℕ) → p ≢ q → (q == p) ≡ false
differs q p other = grind (arith, other)

module _ (clafers : List Clafer) (ks : List ℕ) where
  one_more : (p c : ℕ) (cs : List ℕ) (b : Bool) → (is_child clafers p c && is_one_of clafers ks c) ≡ b
      → list_any (λ d. is_child clafers p d && is_one_of clafers ks d) (cs ++ c ∷ []) ≡ (list_any (λ d. is_child clafers p d && is_one_of clafers ks d) cs || (b || false))
  one_more p c cs b e =
      list_any-append (λ d. is_child clafers p d && is_one_of clafers ks d) cs (c ∷ [])
      ∙ ap (λ z. list_any (λ d. is_child clafers p d && is_one_of clafers ks d) cs || (z || false)) e

  pub mark_no_kind : (cs : List ℕ) (c : ℕ) (marks : List Bool) → is_one_of clafers ks c ≡ false → MarksParents clafers ks cs marks → MarksParents clafers ks (cs ++ c ∷ []) marks
  mark_no_kind cs c marks none holds p h =
      holds p h ∙ sym (one_more p c cs false (ap (λ b. is_child clafers p c && b) none ∙ and_nothing (is_child clafers p c)) ∙ or_nothing (list_any (λ d. is_child clafers p d && is_one_of clafers ks d) cs))

  pub mark_no_parent : (cs : List ℕ) (c : ℕ) (marks : List Bool) → parent_of clafers c ≡ None → MarksParents clafers ks cs marks → MarksParents clafers ks (cs ++ c ∷ []) marks
  mark_no_parent cs c marks none holds p h =
      holds p h ∙ sym (one_more p c cs false (ap (λ o. option_map_or (λ q. q == p) o false && is_one_of clafers ks c) none) ∙ or_nothing (list_any (λ d. is_child clafers p d && is_one_of clafers ks d) cs))

  pub mark_the_parent : (cs : List ℕ) (c q : ℕ) (marks : List Bool) → is_one_of clafers ks c ≡ true → parent_of clafers c ≡ Some q → q < length marks → MarksParents clafers ks cs marks
      → MarksParents clafers ks (cs ++ c ∷ []) (set marks q true)
  mark_the_parent cs c q marks one at within holds p h =
      elim (cases_eq p q) [
        | inl same ↦
            ap (λ z. get_or (set marks q true) z false) same ∙ get_or-set_same marks q true false within
            ∙ sym (one_more p c cs true (both p true (ap (λ z. q == z) same ∙ equals_itself q)) ∙ or_something (list_any (λ d. is_child clafers p d && is_one_of clafers ks d) cs))
        | inr other ↦
            get_or-set_other marks q p true false other ∙ holds p h
            ∙ sym (one_more p c cs false (both p false (differs q p other)) ∙ or_nothing (list_any (λ d. is_child clafers p d && is_one_of clafers ks d) cs))
      ]
    where
      both : (p : ℕ) (b : Bool) → (q == p) ≡ b → (is_child clafers p c && is_one_of clafers ks c) ≡ b
      both p true e = ap (λ o. option_map_or (λ r. r == p) o false && is_one_of clafers ks c) at ∙ ap (λ z. z && is_one_of clafers ks c) e ∙ one
      both p false e = ap (λ o. option_map_or (λ r. r == p) o false && is_one_of clafers ks c) at ∙ ap (λ z. z && is_one_of clafers ks c) e

pub ruleset mark_steps = (mark_no_kind, mark_no_parent, mark_the_parent)
