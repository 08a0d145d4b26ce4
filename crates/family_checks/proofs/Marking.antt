-- What isn't marked has no reference.
use Rattle.std.proofs.Common.{◌≡◌, ◌≢◌, ℕ, zero, suc, ◌+◌, ◌<◌, ◌≤◌, Bool, true, false, ◌||◌, List, [], ◌∷◌, length, Option, Some, None, refl, ap, sym, subst, ◌∙◌, arith, ◌⊎◌, inl, inr}
use Rattle.std.specs.Prelude.{slice_get, eqb, is_some}
use Rattle.std.specs.Option.{option_map_or, option_and_then}
use Rattle.std.specs.List.{filter_map, cons_option}
use Rattle.std.proofs.lemmas.Bool.Decides.{eqb_tells}
use Rattle.std.proofs.lemmas.Bool.{true≢false, cases_eq, cases_lt, eq-eqb}
use Rattle.clf_tree.specs.declared.model.Reference.{Reference}
use Rattle.clf_tree.specs.declared.model.Clafer.{Clafer}
use Rattle.clf_tree.specs.Lists.{has}
use Rattle.clf_tree.specs.Hierarchy.{super_of, way_up, own_reference, reference_of}
use Rattle.family_checks.specs.Families.{inherits_reference}
use Rattle.family_checks.specs.Marks.{is_marked, GoDownAt, GoDown}
use Rattle.family_checks.proofs.Rising.{past, not_some}

at_first : (marks : List Bool) (low high : ℕ) (b : Bool) → ((eqb high low ≡ true) × (high ≡ low)) ⊎ ((eqb high low ≡ false) × (high ≢ low)) → is_marked marks high ≡ true → (b ≡ true → is_marked marks low ≡ true)
    → (eqb high low || b) ≡ true → is_marked marks low ≡ true
at_first marks low high b (inl h) mark rest met = ap (is_marked marks) (sym h.1) ∙ mark
at_first marks low high b (inr h) mark rest met = rest (ap (λ z. z || b) (sym h.0) ∙ met)

on_way : (clafers : List Clafer) (marks : List Bool) (low high n : ℕ) (next : Option ℕ) → GoDown clafers marks → super_of clafers low ≡ next
    → ((mid : ℕ) → has (way_up clafers n mid) high ≡ true → is_marked marks mid ≡ true) → has (option_map_or (way_up clafers n) next []) high ≡ true → is_marked marks low ≡ true
on_way clafers marks low high n None down e rest met = absurd (true≢false (sym met))
on_way clafers marks low high n (Some mid) down e rest met = (down low).inherited mid e (rest mid met)

-- a mark on the way up is one below
marked_below : (clafers : List Clafer) (marks : List Bool) (high n low : ℕ) → GoDown clafers marks → is_marked marks high ≡ true → has (way_up clafers n low) high ≡ true → is_marked marks low ≡ true
marked_below clafers marks high zero low down mark met = at_first marks low high false (eqb_tells high low) mark (λ e. absurd (true≢false (sym e))) met
marked_below clafers marks high (suc n) low down mark met =
    at_first marks low high (has (option_map_or (way_up clafers n) (super_of clafers low) []) high) (eqb_tells high low) mark
    (on_way clafers marks low high n (super_of clafers low) down refl (λ mid m. marked_below clafers marks high n mid down mark m)) met

-- where some reference is found, a clafer of the way has it
record Referring (f : ℕ → Option Reference) (xs : List ℕ) : Type 0 where
  clafer : ℕ
  there : has xs clafer ≡ true
  refers : is_some (f clafer) ≡ true

or_true : (b : Bool) → (b || true) ≡ true
or_true true = refl
or_true false = refl

referring_by : (f : ℕ → Option Reference) (x : ℕ) (xs : List ℕ) (r : Option Reference) → f x ≡ r → (is_some (slice_get (filter_map f xs) 0) ≡ true → Referring f xs)
    → is_some (slice_get (cons_option r (filter_map f xs)) 0) ≡ true → Referring f (x ∷ xs)
referring_by f x xs (Some r) e rest some = record { clafer = x; there = ap (λ b. b || has xs x) (eq-eqb x x refl); refers = ap is_some e }
referring_by f x xs None e rest some =
    let w = rest some in
    record { clafer = w.clafer; there = ap (λ b. eqb w.clafer x || b) w.there ∙ or_true (eqb w.clafer x); refers = w.refers }

referring : (f : ℕ → Option Reference) (xs : List ℕ) → is_some (slice_get (filter_map f xs) 0) ≡ true → Referring f xs
referring f [] some = absurd (true≢false (sym some))
referring f (x ∷ xs) some = referring_by f x xs (f x) refl (referring f xs) some

by_test : (clafers : List Clafer) (marks : List Bool) (s : ℕ) (b : Bool) → GoDown clafers marks → is_marked marks s ≡ false → is_some (reference_of clafers s) ≡ b → b ≡ false
by_test clafers marks s false down none e = refl
by_test clafers marks s true down none e =
    let w = referring (own_reference clafers) (way_up clafers (length clafers) s) e in
    absurd (true≢false (sym (marked_below clafers marks w.clafer (length clafers) s down ((down w.clafer).own w.refers) w.there) ∙ none))

pub unmarked : (clafers : List Clafer) (marks : List Bool) (c s : ℕ) (q : Option ℕ) → q ≡ super_of clafers c → q ≡ Some s → GoDown clafers marks → is_marked marks s ≡ false → false ≡ inherits_reference clafers c
unmarked clafers marks c s q is some down none =
    sym (ap (λ (z : Option ℕ). option_map_or (λ x. is_some (reference_of clafers x)) z false) (sym is ∙ some) ∙ by_test clafers marks s (is_some (reference_of clafers s)) down none refl)

-- ---- marks that are looked at clafer by clafer

none_at : (clafers : List Clafer) (marks : List Bool) (c : ℕ) → length clafers ≤ c → GoDownAt clafers marks c
none_at clafers marks c le =
    let none = past clafers c le in
    record {
      own = λ e. absurd (true≢false (sym e ∙ ap (λ (k : Option Clafer). is_some (option_and_then (λ z. z.reference) k)) none));
      inherited = λ s e m. absurd (not_some (super_of clafers c) s (ap (option_and_then (λ k. k.above)) none) e);
    }

pub down_more : (clafers : List Clafer) (marks : List Bool) (n : ℕ) → ((c : ℕ) → c < n → GoDownAt clafers marks c) → GoDownAt clafers marks n → (c : ℕ) → c < n + 1 → GoDownAt clafers marks c
down_more clafers marks n before here c within = elim (cases_eq c n) [
  | inl same ↦ subst (GoDownAt clafers marks) (sym same) here
  | inr apart ↦ before c (omega (arith, within, apart))
]

pub down_all : (clafers : List Clafer) (marks : List Bool) (n : ℕ) → length clafers ≤ n → ((c : ℕ) → c < n → GoDownAt clafers marks c) → GoDown clafers marks
down_all clafers marks n all below c = elim (cases_lt c n) [
  | inl within ↦ below c within
  | inr past_end ↦ none_at clafers marks c (omega (arith, past_end, all))
]

pub no_marks : (clafers : List Clafer) (marks : List Bool) → marks ≡ [] → GoDown clafers marks
no_marks clafers marks e c = record {
  own = λ q. ap (λ (ms : List Bool). is_marked ms c) e;
  inherited = λ s q m. ap (λ (ms : List Bool). is_marked ms c) e;
}

pub ruleset marking_facts = (no_marks, unmarked)
