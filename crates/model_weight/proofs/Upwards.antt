-- The way up from a clafer, on which each adds once.
use Rattle.std.proofs.Common.{◌≡◌, ℕ, zero, suc, ◌+◌, ◌<◌, ◌≤◌, Bool, true, false, not, ◌||◌, List, [], ◌∷◌, length, Option, Some, None, ◌⊎◌, inl, inr, refl, ap, sym, ◌∙◌, arith, nat_eq, if◌then◌else◌}
use Rattle.std.specs.Prelude.{◌==◌, slice_get}
use Rattle.std.specs.Option.{option_map_or}
use Rattle.std.specs.List.{list_all, range_with_len}
use Rattle.std.proofs.lemmas.Grind.{common_steps}
use Rattle.std.proofs.lemmas.Bool.{true≢false}
use Rattle.std.proofs.lemmas.Bool.Decides.{eqb_tells}
use Rattle.clf_tree.specs.declared.model.Clafer.{Clafer}
use Rattle.clf_tree.specs.Lists.{has}
use Rattle.clf_tree.specs.Hierarchy.{super_of, way_up, is_a, is_closed}
use Rattle.clf_tree.specs.Named.{each, inherits_itself}
use Rattle.clf_tree.proofs.WaysUp.{super_within, super_of-at}
use Rattle.model_weight.specs.Sums.{held, added}

range_all : (test : ℕ → Bool) (a n i : ℕ) → list_all test (range_with_len a n) ≡ true → i < n → test (a + i) ≡ true
range_all test a zero i all lt = absurd (omega arith)
range_all test a (suc n) zero all lt = grind (arith, common_steps)
range_all test a (suc n) (suc i) all lt =
    let e : (a + 1) + i ≡ a + suc i = omega arith in
    rw e at (range_all test (a + 1) n i (grind (arith, common_steps)) (omega arith))

pub each_at : (clafers : List Clafer) (test : ℕ → Bool) (c : ℕ) → each clafers test ≡ true → c < length clafers → test c ≡ true
each_at clafers test c all lt =
    let e : 0 + c ≡ c = omega arith in
    rw e at (range_all test 0 (length clafers) c all lt)

-- ---- the way

pub one_up : (clafers : List Clafer) (n c s more d total : ℕ) → super_of clafers c ≡ Some s
    → added (way_up clafers (suc n) c) more d total ≡ added (way_up clafers n s) more d (if nat_eq c d then held (total + more) else total)
one_up clafers n c s more d total next = rw next refl

pub at_top : (clafers : List Clafer) (n c more d total : ℕ) → super_of clafers c ≡ None
    → added (way_up clafers n c) more d total ≡ (if nat_eq c d then held (total + more) else total)
at_top clafers zero c more d total none = refl
at_top clafers (suc n) c more d total none = rw none refl

-- ---- a way on which no clafer comes twice

abbrev pub Once : List ℕ → Type 0
Once [] = Unit {0}
Once (x ∷ xs) = (has xs x ≡ false) × Once xs

here_or_behind : (c s : ℕ) (xs : List ℕ) → has (s ∷ xs) c ≡ true → (c ≡ s) ⊎ (has xs c ≡ true)
here_or_behind c s xs h = elim (eqb_tells c s) [ inl e ↦ inl e.1 | inr e ↦ inr (ap (λ b. b || has xs c) (sym e.0) ∙ h) ]

or_true : (a b : Bool) → b ≡ true → (a || b) ≡ true
or_true true b h = refl
or_true false b h = h

has_here : (c s : ℕ) (xs : List ℕ) → c ≡ s → has (s ∷ xs) c ≡ true
has_here c s xs e = grind (arith, common_steps)

has_behind : (c s : ℕ) (xs : List ℕ) → has xs c ≡ true → has (s ∷ xs) c ≡ true
has_behind c s xs h = or_true (c == s) (has xs c) h

abbrev rest_of : List Clafer → ℕ → Option ℕ → List ℕ
rest_of clafers n next = option_map_or (way_up clafers n) next []

rest_more : (clafers : List Clafer) (n k c : ℕ) (next : Option ℕ) → n ≤ k → has (rest_of clafers n next) c ≡ true → has (rest_of clafers k next) c ≡ true
rest_more clafers n k c None le h = h
rest_more clafers zero zero c (Some s) le h = h
rest_more clafers zero (suc k) c (Some s) le h = elim (here_or_behind c s [] h) [ inl e ↦ has_here c s (rest_of clafers k (super_of clafers s)) e | inr e ↦ absurd (true≢false (sym e)) ]
rest_more clafers (suc n) zero c (Some s) le h = absurd (omega arith)
rest_more clafers (suc n) (suc k) c (Some s) le h =
    elim (here_or_behind c s (rest_of clafers n (super_of clafers s)) h) [
      | inl e ↦ has_here c s (rest_of clafers k (super_of clafers s)) e
      | inr e ↦ has_behind c s (rest_of clafers k (super_of clafers s)) (rest_more clafers n k c (super_of clafers s) (omega arith) e)
    ]

not_true : (b : Bool) → not b ≡ true → b ≡ false
not_true true h = absurd (true≢false (sym h))
not_true false h = refl

is_no : (b : Bool) → (b ≡ true → ⊥) → b ≡ false
is_no true h = absurd (h refl)
is_no false h = refl

itself_is : (clafers : List Clafer) (c : ℕ) (next : Option ℕ) → has (rest_of clafers (length clafers) next) c ≡ option_map_or (λ s. is_a clafers s c) next false
itself_is clafers c None = refl
itself_is clafers c (Some s) = refl

not_behind : (clafers : List Clafer) (n c : ℕ) → n ≤ length clafers → inherits_itself clafers c ≡ false → has (rest_of clafers n (super_of clafers c)) c ≡ false
not_behind clafers n c le not_itself =
    is_no (has (rest_of clafers n (super_of clafers c)) c) (λ h.
    true≢false (sym (rest_more clafers n (length clafers) c (super_of clafers c) le h) ∙ itself_is clafers c (super_of clafers c) ∙ not_itself))

super_in : (clafers : List Clafer) (c s : ℕ) → is_closed clafers ≡ true → super_of clafers c ≡ Some s → (found : Option Clafer) → slice_get clafers c ≡ found → s < length clafers
super_in clafers c s closed next None none = absurd (no_super (rw none at next))
  where
    no_super : None ≡ Some s → ⊥
    no_super e = (cc)
super_in clafers c s closed next (Some k) found = super_within clafers c s k closed found (sym (super_of-at clafers c k found) ∙ next)

once_rest : (clafers : List Clafer) → is_closed clafers ≡ true → each clafers (λ c. not (inherits_itself clafers c)) ≡ true
    → (n : ℕ) (next : Option ℕ) → n ≤ length clafers → ((c : ℕ) → next ≡ Some c → c < length clafers) → Once (rest_of clafers n next)
once_rest clafers closed acyclic n None le there = tt
once_rest clafers closed acyclic zero (Some c) le there = (refl, tt)
once_rest clafers closed acyclic (suc n) (Some c) le there = (
  not_behind clafers n c (omega arith) (not_true (inherits_itself clafers c) (each_at clafers (λ c. not (inherits_itself clafers c)) c acyclic (there c refl))),
  once_rest clafers closed acyclic n (super_of clafers c) (omega arith) (λ s e. super_in clafers c s closed e (slice_get clafers c) refl),
)

some_same : (a b : ℕ) → Some a ≡ Some b → a ≡ b
some_same a b e = (cc)

pub once : (clafers : List Clafer) → is_closed clafers ≡ true → each clafers (λ c. not (inherits_itself clafers c)) ≡ true
    → (n c : ℕ) → n ≤ length clafers → c < length clafers → Once (way_up clafers n c)
once clafers closed acyclic n c le lt = once_rest clafers closed acyclic n (Some c) le (λ d e. rw (← some_same c d e) lt)

or_false : (a b : Bool) → (a || b) ≡ false → (a ≡ false) × (b ≡ false)
or_false true b h = absurd (true≢false h)
or_false false b h = (refl, h)

nat_eq_flip : (v d : ℕ) → nat_eq v d ≡ (d == v)
nat_eq_flip v d = grind (arith, common_steps)

-- what isn't in the list adds nothing
adds_none : (vs : List ℕ) (more d total : ℕ) → has vs d ≡ false → added vs more d total ≡ total
adds_none [] more d total h = refl
adds_none (v ∷ vs) more d total h =
    let parts = or_false (d == v) (has vs d) h in
    ap (λ b. added vs more d (if b then held (total + more) else total)) (nat_eq_flip v d ∙ parts.0) ∙ adds_none vs more d total parts.1

same_number : (d v : ℕ) → (d == v) ≡ true → d ≡ v
same_number d v e = grind (arith, common_steps)

one_or_rest : (v : ℕ) (vs : List ℕ) (more d total : ℕ) (b : Bool) → (d == v) ≡ b → has vs v ≡ false → added vs more d total ≡ (if has vs d then held (total + more) else total)
    → added vs more d (if b then held (total + more) else total) ≡ (if b || has vs d then held (total + more) else total)
one_or_rest v vs more d total true e fresh rest = adds_none vs more d (held (total + more)) (ap (has vs) (same_number d v e) ∙ fresh)
one_or_rest v vs more d total false e fresh rest = rest

-- what is in the list adds once
pub adds_once : (vs : List ℕ) (more d total : ℕ) → Once vs → added vs more d total ≡ (if has vs d then held (total + more) else total)
adds_once [] more d total h = refl
adds_once (v ∷ vs) more d total h =
    ap (λ b. added vs more d (if b then held (total + more) else total)) (nat_eq_flip v d)
    ∙ one_or_rest v vs more d total (d == v) refl h.0 (adds_once vs more d total h.1)
