-- Sizes of lists of clafers, and weights of greater numbers.
use Rattle.std.proofs.Common.{◌≡◌, ◌≢◌, ℕ, zero, suc, ◌+◌, ◌*◌, ◌/◌, ◌^◌, ◌<◌, ◌≤◌, Bool, true, false, not, cond, ◌&&◌, List, [], ◌∷◌, length, map, sum, Option, Some, None, refl, ap, sym, subst, ◌∙◌, arith, ◌⊎◌, inl, inr}
use Rattle.std.specs.Prelude.{eqb, slice_get, nat_lt, nat_le, max}
use Rattle.std.specs.Option.{option_map_or}
use Rattle.std.specs.List.{filter, list_all, range_with_len}
use Rattle.std.proofs.lemmas.Bool.{true≢false}
use Rattle.std.proofs.lemmas.Bool.Decides.{eqb_tells}
use Rattle.std.proofs.lemmas.Grind.{common_steps}
use Rattle.std.proofs.lemmas.Option.{slice_get_within}
use Rattle.std.proofs.lemmas.Nat.{mul-le}
use Rattle.std.proofs.lemmas.List.Sums.{sum-map, sum_by-cons}
use Rattle.std.proofs.Math.Nat.{pow-le-pow_left, pow-suc, pow-zero, max-le, le-max_left, le-max_right}
use Rattle.clf_tree.specs.declared.model.Clafer.{Clafer}
use Rattle.clf_tree.specs.declared.scopes.Scopes.{Scopes}
use Rattle.clf_tree.specs.Lists.{each_two, numbers_below}
use Rattle.clf_tree.specs.Hierarchy.{is_concrete, is_one_of}
use Rattle.clf_tree.specs.Nodes.{scope_of}
use Rattle.clf_tree.specs.Intervals.{room}
use Rattle.clf_tree.specs.CoreWeights.{digits_within, binary_digits, range_width, count_weight}
use Rattle.relational_core.proofs.Passing.{and_parts, and_all, all_implied, all_both}
use Rattle.relational_core.proofs.Made.{is_made}

-- ---- numbers
pub same_most : (n : ℕ) → n ≤ n
same_most n = omega arith

pub less : (m n : ℕ) → nat_lt m n ≡ true → m < n
less m n h = grind (arith, common_steps)

pub not_less : (m n : ℕ) → nat_lt m n ≡ false → n ≤ m
not_less m n h = grind (arith, common_steps)

pub is_less : (m n : ℕ) → m < n → nat_lt m n ≡ true
is_less m n h = grind (arith, common_steps)

pub at_most : (m n : ℕ) → nat_le m n ≡ true → m ≤ n
at_most m n h = grind (arith, common_steps)

pub is_at_most : (m n : ℕ) → m ≤ n → nat_le m n ≡ true
is_at_most m n h = grind (arith, common_steps)

pub max_more : (a b c d : ℕ) → a ≤ c → b ≤ d → max a b ≤ max c d
max_more a b c d h k = max-le (omega (arith, h, le-max_left c d)) (omega (arith, k, le-max_right c d))

pub max_sum : (a b : ℕ) → max a b ≤ a + b
max_sum a b = max-le (omega arith) (omega arith)

digits_least : (k n : ℕ) → 1 ≤ digits_within k n
digits_least zero n = omega arith
digits_least (suc k) n = pick (nat_lt n 2)
  where
    pick : (b : Bool) → 1 ≤ cond b 1 (suc (digits_within k (n / 2)))
    pick true = omega arith
    pick false = omega arith

halves : (n m : ℕ) → n ≤ m → n / 2 ≤ m / 2
halves n m h = omega (arith, h)

digits_more : (k l n m : ℕ) → k ≤ l → n ≤ m → digits_within k n ≤ digits_within l m
digits_more zero l n m h g = digits_least l m
digits_more (suc k) zero n m h g = absurd (omega (arith, h))
digits_more (suc k) (suc l) n m h g = pick (nat_lt n 2) (nat_lt m 2) refl refl (digits_more k l (n / 2) (m / 2) (omega (arith, h)) (halves n m g))
  where
    pick : (a b : Bool) → nat_lt n 2 ≡ a → nat_lt m 2 ≡ b → digits_within k (n / 2) ≤ digits_within l (m / 2) → cond a 1 (suc (digits_within k (n / 2))) ≤ cond b 1 (suc (digits_within l (m / 2)))
    pick true true e f r = omega arith
    pick true false e f r = omega arith
    pick false true e f r = absurd (omega (arith, g, not_less n 2 e, less m 2 f))
    pick false false e f r = omega (arith, r)

pub binary_more : (n m : ℕ) → n ≤ m → binary_digits n ≤ binary_digits m
binary_more n m h = digits_more n m n m h h

-- a count of more nodes
counts : (r n m x y : ℕ) → n ≤ m → x ≤ y → 32 * (n + 1) * (r + x + 1) ≤ 32 * (m + 1) * (r + y + 1)
counts r n m x y h k = mul-le (32 * (n + 1)) (r + x + 1) (32 * (m + 1)) (r + y + 1) (omega (arith, h)) (omega (arith, k))

pub count_more : (scopes : Scopes) (n m : ℕ) → n ≤ m → count_weight scopes n ≤ count_weight scopes m
count_more scopes n m h = counts (range_width scopes) n m (binary_digits n) (binary_digits m) h (binary_more n m h)

-- a comparison of their number with 0 or 1 weighs less
by_one : (a b : ℕ) → a * 1 ≤ b → a ≤ b
by_one a b h = omega (arith, h)

tests : (r n m y : ℕ) → n ≤ m → 16 * (n + 1) ≤ 32 * (m + 1) * (r + y + 1)
tests r n m y h = by_one (16 * (n + 1)) (32 * (m + 1) * (r + y + 1)) (mul-le (16 * (n + 1)) 1 (32 * (m + 1)) (r + y + 1) (omega (arith, h)) (omega arith))

pub test_more : (scopes : Scopes) (n m : ℕ) → n ≤ m → 16 * (n + 1) ≤ count_weight scopes m
test_more scopes n m h = tests (range_width scopes) n m (binary_digits m) h

-- steps between more nodes
pub steps_more : (a b c d : ℕ) → a ≤ c → b ≤ d → 4 * a * b ≤ 4 * c * d
steps_more a b c d h k = mul-le (4 * a) b (4 * c) d (omega (arith, h)) k

-- comparisons of more and wider values
pub values_more : (r a b x y c d u v : ℕ) → a ≤ c → b ≤ d → x ≤ u → y ≤ v → 6 * (a + 1) * (b + 1) * (max r (max x y) + 1) ≤ 6 * (c + 1) * (d + 1) * (max r (max u v) + 1)
values_more r a b x y c d u v h k i j =
    mul-le (6 * (a + 1) * (b + 1)) (max r (max x y) + 1) (6 * (c + 1) * (d + 1)) (max r (max u v) + 1)
    (mul-le (6 * (a + 1)) (b + 1) (6 * (c + 1)) (d + 1) (omega (arith, h)) (omega (arith, k)))
    (omega (arith, max_more r (max x y) r (max u v) (same_most r) (max_more x y u v i j)))

pub less_more : (a b x y : ℕ) → a ≡ x → b ≡ y → 8 * (max a b + 1) + 1 ≤ 16 * (x + y + 2)
less_more a b x y e f = omega (arith, max_sum a b, e, f)

-- tuples of more nodes, with a heavier body
pub all_more : (t u n b c o p d : ℕ) → t ≤ u → b ≤ c → o ≤ p → 1 + (t * (b + 2 * n + 4) + 2 + o) ≤ u * (c + 8 * n + 16 * d + 16) + 8 + p
all_more t u n b c o p d h k i = join (t * (b + 2 * n + 4)) (u * (c + 8 * n + 16 * d + 16)) (mul-le t (b + 2 * n + 4) u (c + 8 * n + 16 * d + 16) h (omega (arith, k)))
  where
    join : (x y : ℕ) → x ≤ y → 1 + (x + 2 + o) ≤ y + 8 + p
    join x y l = omega (arith, l, i)

pub one_more : (t u n b c o p d f : ℕ) → t ≤ u → b ≤ c → o ≤ p → d ≤ f → t * (b + 8 * n + 16 * d + 16) + 8 + o ≤ u * (c + 8 * n + 16 * f + 16) + 8 + p
one_more t u n b c o p d f h k i l = join (t * (b + 8 * n + 16 * d + 16)) (u * (c + 8 * n + 16 * f + 16)) (mul-le t (b + 8 * n + 16 * d + 16) u (c + 8 * n + 16 * f + 16) h (omega (arith, k, l)))
  where
    join : (x y : ℕ) → x ≤ y → x + 8 + o ≤ y + 8 + p
    join x y q = omega (arith, q, i)

pub context_more : (t u b c : ℕ) → t ≤ u → b ≤ c → t * (b + 2 * 1 + 4) + 2 + 1 < u * (c + 8) + 8
context_more t u b c h k = join (t * (b + 2 * 1 + 4)) (u * (c + 8)) (mul-le t (b + 2 * 1 + 4) u (c + 8) h (omega (arith, k)))
  where
    join : (x y : ℕ) → x ≤ y → x + 2 + 1 < y + 8
    join x y l = omega (arith, l)

once : (n : ℕ) → n ^ 0 * n ≡ n
once n = ap (λ m. m * n) (pow-zero n) ∙ single_of n
  where
    single_of : (m : ℕ) → 1 * m ≡ m
    single_of m = omega arith

power_one : (n : ℕ) → n ^ 1 ≡ n
power_one n = pow-suc n 0 ∙ once n

pub single : (n m : ℕ) → n ≤ m → n ^ 1 ≤ m
single n m h = subst (λ z. z ≤ m) (sym (power_one n)) h

pub power_more : (n m k : ℕ) → n ≤ m → n ^ k ≤ m ^ k
power_more n m k h = pow-le-pow_left h k

-- ---- lists

filter-both : (p q : ℕ → Bool) (xs : List ℕ) → filter q (filter p xs) ≡ filter (λ x. p x && q x) xs
filter-both p q [] = refl
filter-both p q (x ∷ xs) = pick (p x) (filter-both p q xs)
  where
    pick : (b : Bool) → filter q (filter p xs) ≡ filter (λ y. p y && q y) xs
        → filter q (cond b (x ∷ filter p xs) (filter p xs)) ≡ cond (b && q x) (x ∷ filter (λ y. p y && q y) xs) (filter (λ y. p y && q y) xs)
    pick true h = ap (λ ys. cond (q x) (x ∷ ys) ys) h
    pick false h = h

sum-step : (f : ℕ → ℕ) (x : ℕ) (xs : List ℕ) → sum (map f (x ∷ xs)) ≡ f x + sum (map f xs)
sum-step f x xs = sum-map f (x ∷ xs) ∙ sum_by-cons f x xs ∙ ap (λ n. f x + n) (sym (sum-map f xs))

-- one more may be kept by a filter
sum-kept : (f : ℕ → ℕ) (b : Bool) (x : ℕ) (xs : List ℕ) → sum (map f xs) ≤ sum (map f (cond b (x ∷ xs) xs))
sum-kept f true x xs = at (sum (map f (x ∷ xs))) (f x) (sum (map f xs)) (sum-step f x xs)
  where
    at : (s a b : ℕ) → s ≡ a + b → b ≤ s
    at s a b e = omega (arith, e)
sum-kept f false x xs = same_most (sum (map f xs))

sum-both : (f : ℕ → ℕ) (b : Bool) (x a : ℕ) (xs ys : List ℕ) → b ≡ true → x ≡ a → sum (map f xs) ≤ sum (map f ys) → sum (map f (x ∷ xs)) ≤ sum (map f (cond b (a ∷ ys) ys))
sum-both f b x a xs ys e same h =
    subst (λ c. sum (map f (x ∷ xs)) ≤ sum (map f (cond c (a ∷ ys) ys))) (sym e)
    (at (sum (map f (x ∷ xs))) (sum (map f (a ∷ ys))) (f x) (f a) (sum (map f xs)) (sum (map f ys)) (sum-step f x xs) (sum-step f a ys) (ap f same) h)
  where
    at : (s t a b m n : ℕ) → s ≡ a + m → t ≡ b + n → a ≡ b → m ≤ n → s ≤ t
    at s t a b m n p q r l = omega (arith, p, q, r, l)

nothing-less : (n : ℕ) → 0 ≤ n
nothing-less n = omega arith

-- ascending numbers of a range that pass a test are among those of the range that pass it
sum-within : (f : ℕ → ℕ) (p : ℕ → Bool) (k a : ℕ) (xs : List ℕ) → list_all p xs ≡ true → each_two nat_lt xs ≡ true → list_all (nat_le a) xs ≡ true → list_all (λ x. nat_lt x (a + k)) xs ≡ true
    → sum (map f xs) ≤ sum (map f (filter p (range_with_len a k)))
sum-within f p k a [] all two low high = nothing-less (sum (map f (filter p (range_with_len a k))))
sum-within f p zero a (x ∷ xs) all two low high =
    let l = and_parts (nat_le a x) (list_all (nat_le a) xs) low in
    let h = and_parts (nat_lt x (a + zero)) (list_all (λ y. nat_lt y (a + zero)) xs) high in
    absurd (none (at_most a x l.0) (less x (a + zero) h.0))
  where
    none : a ≤ x → x < a + zero → ⊥
    none g h = omega (arith, g, h)
sum-within f p (suc k) a (x ∷ xs) all two low high =
    let l = and_parts (nat_le a x) (list_all (nat_le a) xs) low in
    let t = and_parts (list_all (nat_lt x) xs) (each_two nat_lt xs) two in
    let j = and_parts (p x) (list_all p xs) all in
    let ends = subst (λ m. list_all (λ y. nat_lt y m) (x ∷ xs) ≡ true) further high in
    let e = and_parts (nat_lt x (a + 1 + k)) (list_all (λ y. nat_lt y (a + 1 + k)) xs) ends in
    choose (eqb_tells x a) j.0 (at_most a x l.0) t.0
    (λ later. sum-within f p k (a + 1) xs j.1 t.1 later e.1) (λ later. sum-within f p k (a + 1) (x ∷ xs) all two later ends)
  where
    further : a + suc k ≡ a + 1 + k
    further = omega arith

    beyond : (y : ℕ) → a ≤ x → nat_lt x y ≡ true → nat_le (a + 1) y ≡ true
    beyond y g h = is_at_most (a + 1) y (omega (arith, g, less x y h))

    choose : ((eqb x a ≡ true) × (x ≡ a)) ⊎ ((eqb x a ≡ false) × (x ≢ a)) → p x ≡ true → a ≤ x → list_all (nat_lt x) xs ≡ true
        → (list_all (nat_le (a + 1)) xs ≡ true → sum (map f xs) ≤ sum (map f (filter p (range_with_len (a + 1) k))))
        → (list_all (nat_le (a + 1)) (x ∷ xs) ≡ true → sum (map f (x ∷ xs)) ≤ sum (map f (filter p (range_with_len (a + 1) k))))
        → sum (map f (x ∷ xs)) ≤ sum (map f (cond (p a) (a ∷ filter p (range_with_len (a + 1) k)) (filter p (range_with_len (a + 1) k))))
    choose (inl same) pass from after rest whole =
        sum-both f (p a) x a xs (filter p (range_with_len (a + 1) k)) (ap p (sym same.1) ∙ pass) same.1 (rest (all_implied (nat_lt x) (nat_le (a + 1)) xs (λ y h. beyond y from h) after))
    choose (inr other) pass from after rest whole =
        through (sum (map f (x ∷ xs))) (sum (map f (filter p (range_with_len (a + 1) k)))) (sum (map f (cond (p a) (a ∷ filter p (range_with_len (a + 1) k)) (filter p (range_with_len (a + 1) k)))))
        (whole (and_all (nat_le (a + 1) x) (list_all (nat_le (a + 1)) xs) (is_at_most (a + 1) x (omega (arith, from, other.1))) (all_implied (nat_lt x) (nat_le (a + 1)) xs (λ y h. beyond y from h) after)))
        (sum-kept f (p a) a (filter p (range_with_len (a + 1) k)))
      where
        through : (m n o : ℕ) → m ≤ n → n ≤ o → m ≤ o
        through m n o g h = omega (arith, g, h)

from-none : (d n : ℕ) → d < n → d < 0 + n
from-none d n h = omega (arith, h)

module _ (clafers : List Clafer) (scopes : Scopes) where
  concrete-within : (d : ℕ) (o : Option Clafer) → slice_get clafers d ≡ o → is_concrete clafers d ≡ true → nat_lt d (0 + length clafers) ≡ true
  concrete-within d None found concrete = absurd (true≢false (sym concrete ∙ ap (λ (o : Option Clafer). option_map_or (λ k. not k.is_abstract) o false) found))
  concrete-within d (Some k) found concrete = is_less d (0 + length clafers) (from-none d (length clafers) (slice_get_within clafers d k found))

  from-zero : (xs : List ℕ) → list_all (nat_le 0) xs ≡ true
  from-zero [] = refl
  from-zero (x ∷ xs) = and_all (nat_le 0 x) (list_all (nat_le 0) xs) (is_at_most 0 x (omega arith)) (from-zero xs)

  -- concrete clafers that are-a one of ks, each once, have no more room than ks
  pub list-room : (ks ls : List ℕ) → list_all (is_one_of clafers ks) ls ≡ true → is_made clafers scopes ls ≡ true → sum (map (scope_of scopes) ls) ≤ room clafers scopes ks
  list-room ks ls one made =
      let m = and_parts (list_all (is_concrete clafers) ls) (each_two nat_lt ls) made in
      subst (λ ds. sum (map (scope_of scopes) ls) ≤ sum (map (scope_of scopes) ds)) (sym (filter-both (is_concrete clafers) (is_one_of clafers ks) (numbers_below (length clafers))))
      (sum-within (scope_of scopes) (λ d. is_concrete clafers d && is_one_of clafers ks d) (length clafers) 0 ls (all_both (is_concrete clafers) (is_one_of clafers ks) ls m.0 one) m.1
      (from-zero ls) (all_implied (is_concrete clafers) (λ d. nat_lt d (0 + length clafers)) ls (λ d h. concrete-within d (slice_get clafers d) refl h) m.0))
