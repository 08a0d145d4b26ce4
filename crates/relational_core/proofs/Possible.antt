-- The clafers that can have instances and pass a test.
use Rattle.std.proofs.Common.{◌≡◌, ◌≢◌, ℕ, zero, suc, ◌+◌, ◌<◌, ◌≤◌, Bool, true, false, not, cond, ◌&&◌, ◌||◌, List, [], ◌∷◌, ◌++◌, length, Option, Some, None, refl, ap, sym, ◌∙◌, arith, ◌⊎◌, inl, inr}
use Rattle.std.specs.Prelude.{◌==◌, eqb, slice_get, nat_lt}
use Rattle.std.specs.Option.{option_map_or}
use Rattle.std.specs.List.{filter, list_all, range_with_len}
use Rattle.std.proofs.lemmas.Bool.Decides.{eqb_tells, leb_tells}
use Rattle.std.proofs.lemmas.Bool.{true≢false}
use Rattle.std.proofs.lemmas.Option.{slice_get_within}
use Rattle.std.proofs.lemmas.List.Folds.{list_any-append}
use Rattle.clf_tree.specs.declared.model.Clafer.{Clafer}
use Rattle.clf_tree.specs.declared.scopes.Scopes.{Scopes}
use Rattle.clf_tree.specs.Lists.{has, numbers_below, each_two}
use Rattle.clf_tree.specs.Hierarchy.{is_concrete}
use Rattle.relational_core.specs.Lowered.{possible, is_possible}
use Rattle.relational_core.proofs.Numbers.{filter-kept, filter-dropped}
use Rattle.relational_core.proofs.Passing.{and_parts, and_all, or_false, and_false, and_true, filter_all}

has-more : (xs : List ℕ) (n d : ℕ) → has (xs ++ n ∷ []) d ≡ (has xs d || (d == n))
has-more xs n d = list_any-append (λ y. d == y) xs (n ∷ []) ∙ ap (λ b. has xs d || b) (or_false (d == n))

differ : (d n : ℕ) → d ≢ n → (d == n) ≡ false
differ d n ne = pick (eqb_tells d n)
  where
    pick : ((eqb d n ≡ true) × (d ≡ n)) ⊎ ((eqb d n ≡ false) × (d ≢ n)) → (d == n) ≡ false
    pick (inl h) = absurd (ne h.1)
    pick (inr h) = h.0

has-filter_more : (p : ℕ → Bool) (n d : ℕ) (b : Bool) → p n ≡ b → has (filter p (numbers_below (n + 1))) d ≡ (has (filter p (numbers_below n)) d || (b && (d == n)))
has-filter_more p n d true h = ap (λ xs. has xs d) (filter-kept p n h) ∙ has-more (filter p (numbers_below n)) n d
has-filter_more p n d false h = ap (λ xs. has xs d) (filter-dropped p n h) ∙ sym (or_false (has (filter p (numbers_below n)) d))

more : (n : ℕ) → suc n ≡ n + 1
more n = omega arith

beyond : (n d : ℕ) → suc n ≤ d → d ≢ n
beyond n d far e = omega (arith, far, e)

has-beyond : (p : ℕ → Bool) (n d : ℕ) → n ≤ d → has (filter p (numbers_below n)) d ≡ false
has-beyond p zero d far = refl
has-beyond p (suc n) d far =
    ap (λ m. has (filter p (numbers_below m)) d) (more n) ∙ has-filter_more p n d (p n) refl
    ∙ ap (λ b. b || (p n && (d == n))) (has-beyond p n d (omega (arith, far)))
    ∙ ap (λ b. p n && b) (differ d n (beyond n d far)) ∙ and_false (p n)

pub has-within : (p : ℕ → Bool) (n d : ℕ) → d < n → has (filter p (numbers_below n)) d ≡ p d
has-within p zero d near = absurd (omega (arith, near))
has-within p (suc n) d near =
    ap (λ m. has (filter p (numbers_below m)) d) (more n) ∙ has-filter_more p n d (p n) refl
    ∙ choose (eqb_tells d n) (λ near_n. has-within p n d near_n)
  where
    choose : ((eqb d n ≡ true) × (d ≡ n)) ⊎ ((eqb d n ≡ false) × (d ≢ n)) → (d < n → has (filter p (numbers_below n)) d ≡ p d)
        → (has (filter p (numbers_below n)) d || (p n && (d == n))) ≡ p d
    choose (inl h) before =
        ap (λ b. b || (p n && (d == n))) (has-beyond p n d (omega (arith, h.1))) ∙ ap (λ b. p n && b) h.0 ∙ and_true (p n) ∙ ap p (sym h.1)
    choose (inr h) before =
        ap (λ b. b || (p n && (d == n))) (before (omega (arith, near, h.1))) ∙ ap (λ b. p d || (p n && b)) h.0 ∙ ap (λ b. p d || b) (and_false (p n)) ∙ or_false (p d)

concrete_within : (clafers : List Clafer) (d : ℕ) (o : Option Clafer) → slice_get clafers d ≡ o → is_concrete clafers d ≡ true → d < length clafers
concrete_within clafers d None found concrete = absurd (true≢false (sym concrete ∙ ap (λ (o : Option Clafer). option_map_or (λ k. not k.is_abstract) o false) found))
concrete_within clafers d (Some k) found concrete = slice_get_within clafers d k found

-- ascending numbers stay ascending under a filter
ahead : (a b n : ℕ) → a < b → list_all (nat_lt a) (range_with_len b n) ≡ true
ahead a b zero h = refl
ahead a b (suc n) h = and_all (nat_lt a b) (list_all (nat_lt a) (range_with_len (b + 1) n)) (below (leb_tells (suc a) b)) (ahead a (b + 1) n (omega (arith, h)))
  where
    below : ((nat_lt a b ≡ true) × (suc a ≤ b)) ⊎ ((nat_lt a b ≡ false) × (b < suc a)) → nat_lt a b ≡ true
    below (inl k) = k.0
    below (inr k) = absurd (omega (arith, h, k.1))

ascending : (a n : ℕ) → each_two nat_lt (range_with_len a n) ≡ true
ascending a zero = refl
ascending a (suc n) = and_all (list_all (nat_lt a) (range_with_len (a + 1) n)) (each_two nat_lt (range_with_len (a + 1) n)) (ahead a (a + 1) n (omega arith)) (ascending (a + 1) n)

filtered : {X : Type 0} (test : X → X → Bool) (p : X → Bool) (xs : List X) → each_two test xs ≡ true → each_two test (filter p xs) ≡ true
filtered test p [] h = refl
filtered test p (x ∷ xs) h =
    let j = and_parts (list_all (test x) xs) (each_two test xs) h in pick (p x) (filtered test p xs j.1) (filter_all (test x) p (test x) xs j.0 (λ y e f. e))
  where
    pick : (b : Bool) → each_two test (filter p xs) ≡ true → list_all (test x) (filter p xs) ≡ true → each_two test (cond b (x ∷ filter p xs) (filter p xs)) ≡ true
    pick true rest here = and_all (list_all (test x) (filter p xs)) (each_two test (filter p xs)) here rest
    pick false rest here = rest

every_one : {X : Type 0} (xs : List X) → list_all (λ x. true) xs ≡ true
every_one [] = refl
every_one (x ∷ xs) = every_one xs

module _ (clafers : List Clafer) (scopes : Scopes) where
  -- one that can have instances is listed where it passes the test
  pub has-possible : (test : ℕ → Bool) (d : ℕ) → is_possible clafers scopes d ≡ true → has (possible clafers scopes test) d ≡ test d
  has-possible test d h =
      has-within (λ e. is_possible clafers scopes e && test e) (length clafers) d
      (concrete_within clafers d (slice_get clafers d) refl (and_parts (is_concrete clafers d) _ h).0)
      ∙ ap (λ b. b && test d) h

  -- each that is listed can have instances and passes the test
  pub all-possible : (test q : ℕ → Bool) → ((d : ℕ) → is_possible clafers scopes d ≡ true → test d ≡ true → q d ≡ true) → list_all q (possible clafers scopes test) ≡ true
  all-possible test q step =
      filter_all (λ d. true) (λ d. is_possible clafers scopes d && test d) q (numbers_below (length clafers)) (every_one (numbers_below (length clafers)))
      (λ d g h. let j = and_parts (is_possible clafers scopes d) (test d) h in step d j.0 j.1)

  pub concrete-possible : (test : ℕ → Bool) → list_all (is_concrete clafers) (possible clafers scopes test) ≡ true
  concrete-possible test = all-possible test (is_concrete clafers) (λ d h k. (and_parts (is_concrete clafers d) _ h).0)

  pub ascending-possible : (test : ℕ → Bool) → each_two nat_lt (possible clafers scopes test) ≡ true
  ascending-possible test = filtered nat_lt (λ d. is_possible clafers scopes d && test d) (numbers_below (length clafers)) (ascending 0 (length clafers))
