-- Counting what comes before each number below n gives a permutation of the numbers below n.
use Rattle.std.proofs.Common.{◌≡◌, ℕ, zero, suc, ◌+◌, ◌<◌, ◌≤◌, Bool, true, false, ◌||◌, List, [], ◌∷◌, ◌++◌, length, map, cond, is_lt, Ordering, Less, Equal, Greater, refl, ap, sym, subst, ◌∙◌, arith, true≢false}
use Rattle.std.specs.Prelude.{◌==◌, IsPermutation, count_by}
use Rattle.std.specs.Ordering.{ordering_reverse}
use Rattle.std.specs.Cmp.{IsTotalOrder}
use Rattle.std.specs.List.{list_any, range_with_len}
use Rattle.std.proofs.lemmas.Cmp.{tied_itself}
use Rattle.std.proofs.lemmas.Grind.{common_steps}
use Rattle.std.proofs.lemmas.List.{length-append}
use Rattle.std.proofs.lemmas.List.Folds.{list_any-append}
use Rattle.std.proofs.lemmas.List.FromFn.{length-range_with_len}
use Rattle.std.proofs.lemmas.List.Sums.{sum_by-cons, count_by-le-length}
use Rattle.std.proofs.lemmas.List.Sorted.{IsPermutation-refl, IsPermutation-cons, IsPermutation-sym, IsPermutation-trans, IsPermutation-middle, list_any-IsPermutation}
use Rattle.clf_tree.specs.Lists.{numbers_below, has}
use Rattle.clf_tree.proofs.Items.{In, first, later, any_in, in_range}
use Rattle.canonical_instances.specs.Renumbering.{rank}

-- ---- counts

le_weight : (b c : Bool) → (b ≡ true → c ≡ true) → cond b 1 0 ≤ cond c 1 0
le_weight true c h = subst (λ d. 1 ≤ cond d 1 0) (sym (h refl)) (omega arith)
le_weight false true h = omega arith
le_weight false false h = omega arith

lt_weight : (b c : Bool) → b ≡ false → c ≡ true → cond b 1 0 < cond c 1 0
lt_weight true c f t = absurd (true≢false f)
lt_weight false true f t = omega arith
lt_weight false false f t = absurd (true≢false (sym t))

module _ {X : Type 0} (p q : X → Bool) (more : (x : X) → p x ≡ true → q x ≡ true) where
  count_few : (xs : List X) → count_by p xs ≤ count_by q xs
  count_few [] = omega arith
  count_few (x ∷ xs) =
      omega (
        arith,
        sum_by-cons (λ (z : X). cond (p z) 1 0) x xs,
        sum_by-cons (λ (z : X). cond (q z) 1 0) x xs,
        le_weight (p x) (q x) (more x),
        count_few xs,
      )

  count_fewer : (xs : List X) (x : X) → In x xs → p x ≡ false → q x ≡ true → count_by p xs < count_by q xs
  count_fewer _ x (first {xs = xs}) f t =
      omega (
        arith,
        sum_by-cons (λ (z : X). cond (p z) 1 0) x xs,
        sum_by-cons (λ (z : X). cond (q z) 1 0) x xs,
        lt_weight (p x) (q x) f t,
        count_few xs,
      )
  count_fewer _ x (later {y = y} {xs = xs} i) f t =
      omega (
        arith,
        sum_by-cons (λ (z : X). cond (p z) 1 0) y xs,
        sum_by-cons (λ (z : X). cond (q z) 1 0) y xs,
        le_weight (p y) (q y) (more y),
        count_fewer xs x i f t,
      )

-- ---- as many different numbers as a list has are a permutation of it

number_is : (a b : ℕ) → (a == b) ≡ true → a ≡ b
number_is a b h = grind (arith, common_steps)

not_same : (a b : ℕ) → (a ≡ b → ⊥) → (a == b) ≡ false
not_same a b h = by (a == b) refl
  where
    by : (t : Bool) → (a == b) ≡ t → (a == b) ≡ false
    by true e = absurd (h (number_is a b e))
    by false e = e

-- a list with x in the midst
record Split (x : ℕ) (ys : List ℕ) : Type 0 where
  front : List ℕ
  back : List ℕ
  is : ys ≡ front ++ x ∷ back

split_at : (x y : ℕ) (ys : List ℕ) (b : Bool) → (x == y) ≡ b → (b || has ys x) ≡ true → (has ys x ≡ true → Split x ys) → Split x (y ∷ ys)
split_at x y ys true e h rest = record { front = []; back = ys; is = ap (λ z. z ∷ ys) (sym (number_is x y e)) }
split_at x y ys false e h rest = let s = rest h in record { front = y ∷ s.front; back = s.back; is = ap (λ zs. y ∷ zs) s.is }

split : (x : ℕ) (ys : List ℕ) → has ys x ≡ true → Split x ys
split x [] h = absurd (true≢false (sym h))
split x (y ∷ ys) h = split_at x y ys (x == y) refl h (split x ys)

not_midst : (a b c : Bool) → (a || (b || c)) ≡ true → b ≡ false → (a || c) ≡ true
not_midst true b c h e = refl
not_midst false true c h e = absurd (true≢false e)
not_midst false false c h e = h

in_rest : (x y : ℕ) (front back : List ℕ) → has (front ++ x ∷ back) y ≡ true → (y == x) ≡ false → has (front ++ back) y ≡ true
in_rest x y front back h apart =
    list_any-append (λ z. y == z) front back
    ∙ not_midst (has front y) (y == x) (has back y) (sym (list_any-append (λ z. y == z) front (x ∷ back)) ∙ h) apart

few_left : (x k : ℕ) (ys front back : List ℕ) → ys ≡ front ++ x ∷ back → length ys ≤ suc k → length (front ++ back) ≤ k
few_left x k ys front back is few = omega (arith, few, ap length is, length-append front (x ∷ back), length-append front back)

permuted : (f : ℕ → ℕ) (k a : ℕ) (ys : List ℕ) → ((i : ℕ) → a ≤ i → i < a + k → has ys (f i) ≡ true)
    → ((i j : ℕ) → a ≤ i → i < j → j < a + k → (f j == f i) ≡ false) → length ys ≤ k → IsPermutation (map f (range_with_len a k)) ys
permuted f zero a [] h apart few = IsPermutation-refl []
permuted f zero a (y ∷ ys) h apart few = let no : ⊥ = omega (arith, few) in absurd no
permuted f (suc k) a ys h apart few =
    let s = split (f a) ys (h a (omega arith) (omega arith)) in
    let rest = permuted f k (a + 1) (s.front ++ s.back)
    (λ i low high. in_rest (f a) (f i) s.front s.back (subst (λ zs. has zs (f i) ≡ true) s.is
    (h i (omega (arith, low)) (omega (arith, high)))) (apart a i (omega arith) (omega (arith, low)) (omega (arith, high))))
    (λ i j low less high. apart i j (omega (arith, low)) less (omega (arith, high)))
    (few_left (f a) k ys s.front s.back s.is few) in
    let one = IsPermutation-cons (f a) (map f (range_with_len (a + 1) k)) (s.front ++ s.back) rest in
    let back = IsPermutation-sym (s.front ++ f a ∷ s.back) (f a ∷ (s.front ++ s.back)) (IsPermutation-middle s.front (f a) s.back) in
    subst (λ zs. IsPermutation (f a ∷ map f (range_with_len (a + 1) k)) zs) (sym s.is)
    (IsPermutation-trans (f a ∷ map f (range_with_len (a + 1) k)) (f a ∷ (s.front ++ s.back)) (s.front ++ f a ∷ s.back) one back)

same_number : (a : ℕ) → (a == a) ≡ true
same_number a = grind (arith, common_steps)

pub in_below : (n i : ℕ) → i < n → In i (numbers_below n)
in_below n i h = subst (λ z. In z (numbers_below n)) (omega arith) (in_range n 0 i h)

has_below : (n i : ℕ) → i < n → has (numbers_below n) i ≡ true
has_below n i h = any_in (λ z. i == z) (numbers_below n) i (in_below n i h) (same_number i)

-- a number that some number from a on, below a + k, is led to
pub record Reached (f : ℕ → ℕ) (a k i : ℕ) : Type 0 where
  pub from : ℕ
  pub high : from < a + k
  pub is : f from ≡ i

reached_at : (f : ℕ → ℕ) (k a i : ℕ) (b : Bool) → (i == f a) ≡ b → (b || list_any (λ z. i == z) (map f (range_with_len (a + 1) k))) ≡ true
    → (list_any (λ z. i == z) (map f (range_with_len (a + 1) k)) ≡ true → Reached f (a + 1) k i) → Reached f a (suc k) i
reached_at f k a i true e h rest = record { from = a; high = omega arith; is = sym (number_is i (f a) e) }
reached_at f k a i false e h rest = let r = rest h in record { from = r.from; high = omega (arith, r.high); is = r.is }

reached : (f : ℕ → ℕ) (k a i : ℕ) → list_any (λ z. i == z) (map f (range_with_len a k)) ≡ true → Reached f a k i
reached f zero a i h = absurd (true≢false (sym h))
reached f (suc k) a i h = reached_at f k a i (i == f a) refl h (reached f k (a + 1) i)

-- ---- ranks

pub less_is : (r : Ordering) → is_lt r ≡ true → r ≡ Less
less_is Less h = refl
less_is Equal h = absurd (true≢false (sym h))
less_is Greater h = absurd (true≢false (sym h))

module _ (order : ℕ → ℕ → Ordering) (o : IsTotalOrder order) (exact : (j k : ℕ) → order j k ≡ Equal → j ≡ k) (n : ℕ) where
  rank_less : (j k : ℕ) → j < n → order j k ≡ Less → rank order n j < rank order n k
  rank_less j k h less =
      count_fewer (λ i. is_lt (order i j)) (λ i. is_lt (order i k)) (λ i e. ap is_lt (o.trans i j k (less_is (order i j) e) less))
      (numbers_below n) j (in_below n j h) (ap is_lt (tied_itself o j)) (ap is_lt less)

  pub rank_below : (k : ℕ) → k < n → rank order n k < n
  rank_below k h =
      let fewer = count_fewer (λ i. is_lt (order i k)) (λ i. true) (λ i e. refl) (numbers_below n) k (in_below n k h)
      (ap is_lt (tied_itself o k)) refl in
      omega (arith, fewer, count_by-le-length (λ (i : ℕ). true) (numbers_below n), length-range_with_len 0 n)

  turned : (j k : ℕ) → order j k ≡ Greater → order k j ≡ Less
  turned j k e = o.antisymm k j ∙ ap ordering_reverse e

  rank_same : (j k : ℕ) → j < n → k < n → rank order n j ≡ rank order n k → j ≡ k
  rank_same j k low high e = by (order j k) refl
    where
      by : (r : Ordering) → order j k ≡ r → j ≡ k
      by Less is = let no : ⊥ = omega (arith, e, rank_less j k low is) in absurd no
      by Equal is = exact j k is
      by Greater is = let no : ⊥ = omega (arith, e, rank_less k j high (turned j k is)) in absurd no

  -- what has the smaller rank comes first
  pub rank_reflects : (j k : ℕ) → k < n → rank order n j < rank order n k → order j k ≡ Less
  rank_reflects j k high e = by (order j k) refl
    where
      by : (r : Ordering) → order j k ≡ r → order j k ≡ Less
      by Less is = is
      by Equal is = let no : ⊥ = omega (arith, e, ap (rank order n) (exact j k is)) in absurd no
      by Greater is = let no : ⊥ = omega (arith, e, rank_less k j high (turned j k is)) in absurd no

  pub ranks_permute : IsPermutation (map (rank order n) (numbers_below n)) (numbers_below n)
  ranks_permute =
      permuted (rank order n) n 0 (numbers_below n) (λ i low high. has_below n (rank order n i) (rank_below i (omega (arith, high))))
      (λ i j low less high. not_same (rank order n j) (rank order n i)
      (λ e. let same = rank_same j i (omega (arith, high)) (omega (arith, less, high)) e in omega (arith, same, less)))
      (omega (arith, length-range_with_len 0 n))

  -- each number below n is a rank
  pub rank_onto : (i : ℕ) → i < n → Reached (rank order n) 0 n i
  rank_onto i h =
      reached (rank order n) n 0 i
      (list_any-IsPermutation (λ z. i == z) (map (rank order n) (numbers_below n)) (numbers_below n) ranks_permute ∙ has_below n i h)
