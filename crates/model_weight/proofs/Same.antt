-- Numbers that are the same as far as the limit counts.
use Rattle.std.proofs.Common.{◌≡◌, ℕ, zero, suc, ◌+◌, ◌*◌, ◌^◌, ◌<◌, ◌≤◌, true, false, List, [], ◌∷◌, map, sum, refl, ap, sym, subst, ◌∙◌, arith, ◌⊎◌, inl, inr}
use Rattle.std.specs.Prelude.{leb, max, min}
use Rattle.std.proofs.lemmas.Bool.Decides.{leb_tells}
use Rattle.std.proofs.lemmas.Nat.{mul-le}
use Rattle.std.proofs.lemmas.List.Sums.{sum-map, sum_by-cons}
use Rattle.std.proofs.Math.Nat.{pow-suc, pow-zero, min-eq_left, min-eq_right, le-max_left}
use Rattle.clf_tree.specs.CoreWeights.{binary_digits}
use Rattle.model_weight.specs.Capped.{limit, capped, plus, times, power, total}
use Rattle.model_weight.proofs.Caps.{at-limit, below-limit}

-- equal, or both at least the limit
abbrev pub Same : ℕ → ℕ → Type 0
Same a b = (a ≡ b) ⊎ ((limit ≤ a) × (limit ≤ b))

pub itself : (a : ℕ) → Same a a
itself a = inl refl

pub chain : (a b c : ℕ) → Same a b → Same b c → Same a c
chain a b c (inl e) s = subst (λ z. Same z c) (sym e) s
chain a b c (inr h) (inl e) = inr (h.0, subst (λ z. limit ≤ z) e h.1)
chain a b c (inr h) (inr k) = inr (h.0, k.1)

pub capped_same : (n : ℕ) → Same (capped n) n
capped_same n = pick (leb_tells limit n)
  where
    pick : ((leb limit n ≡ true) × (limit ≤ n)) ⊎ ((leb limit n ≡ false) × (n < limit)) → Same (capped n) n
    pick (inl k) = inr (subst (λ z. limit ≤ z) (sym (at-limit n k.1)) (omega arith), k.1)
    pick (inr k) = inl (below-limit n k.1)

pub same_capped : (a b : ℕ) → Same a b → capped a ≡ capped b
same_capped a b (inl e) = ap capped e
same_capped a b (inr h) = at-limit a h.0 ∙ sym (at-limit b h.1)

sum_same : (a b x y : ℕ) → Same a x → Same b y → Same (a + b) (x + y)
sum_same a b x y (inl e) (inl f) = inl (omega (arith, e, f))
sum_same a b x y (inl e) (inr k) = inr (omega (arith, k.0), omega (arith, k.1))
sum_same a b x y (inr h) s = inr (omega (arith, h.0), omega (arith, h.1))

pub plus_same : (a b x y : ℕ) → Same a x → Same b y → Same (plus a b) (x + y)
plus_same a b x y s t = chain (plus a b) (a + b) (x + y) (capped_same (a + b)) (sum_same a b x y s t)

-- a product of two that are no 0 is at least each of them
large : (a b : ℕ) → 1 ≤ a → limit ≤ b → limit ≤ a * b
large a b h k = by_one limit (a * b) (mul-le 1 limit a b h k)
  where
    by_one : (m n : ℕ) → 1 * m ≤ n → m ≤ n
    by_one m n g = omega (arith, g)

swap : (a b : ℕ) → a * b ≡ b * a
swap a b = omega arith

no_times : (b : ℕ) → 0 * b ≡ 0
no_times b = omega arith

product_right : (a b y : ℕ) → limit ≤ b → limit ≤ y → Same (a * b) (a * y)
product_right zero b y h k = inl (no_times b ∙ sym (no_times y))
product_right (suc a) b y h k = inr (large (suc a) b (omega arith) h, large (suc a) y (omega arith) k)

product_same : (a b x y : ℕ) → Same a x → Same b y → Same (a * b) (x * y)
product_same a b x y (inl e) (inl f) = inl (ap (λ z. z * b) e ∙ ap (λ z. x * z) f)
product_same a b x y (inl e) (inr k) = subst (λ z. Same (z * b) (x * y)) (sym e) (product_right x b y k.0 k.1)
product_same a b x y (inr h) (inl f) =
    subst (λ z. Same z (x * y)) (swap b a) (subst (λ z. Same (b * a) z) (swap y x) (subst (λ z. Same (z * a) (y * x)) (sym f) (product_right y a x h.0 h.1)))
product_same a b x y (inr h) (inr k) = inr (large a b (omega (arith, h.0)) k.0, large x y (omega (arith, h.1)) k.1)

pub times_same : (a b x y : ℕ) → Same a x → Same b y → Same (times a b) (x * y)
times_same a b x y s t = chain (times a b) (a * b) (x * y) (capped_same (a * b)) (product_same a b x y s t)

pub power_same : (n k : ℕ) → Same (power n k) (n ^ k)
power_same n zero = inl (sym (pow-zero n))
power_same n (suc k) = subst (λ z. Same (times (power n k) n) z) (sym (pow-suc n k)) (times_same (power n k) n (n ^ k) n (power_same n k) (itself n))

pub capped_limit : (n : ℕ) → capped n ≤ limit
capped_limit n = pick (leb_tells limit n)
  where
    pick : ((leb limit n ≡ true) × (limit ≤ n)) ⊎ ((leb limit n ≡ false) × (n < limit)) → capped n ≤ limit
    pick (inl k) = subst (λ z. z ≤ limit) (sym (at-limit n k.1)) (omega arith)
    pick (inr k) = subst (λ z. z ≤ limit) (sym (below-limit n k.1)) (omega (arith, k.1))

power_limit : (n k : ℕ) → power n k ≤ limit
power_limit n zero = omega arith
power_limit n (suc k) = capped_limit (power n k * n)

-- so many times what goes by the digits of how many
pub digits_same : (t u b c : ℕ) → Same t u → Same b c → Same (t * (b + 16 * binary_digits t + 16)) (u * (c + 16 * binary_digits u + 16))
digits_same t u b c (inl e) s =
    subst (λ z. Same (z * (b + 16 * binary_digits z + 16)) (u * (c + 16 * binary_digits u + 16))) (sym e)
    (product_same u (b + 16 * binary_digits u + 16) u (c + 16 * binary_digits u + 16) (itself u)
    (sum_same (b + 16 * binary_digits u) 16 (c + 16 * binary_digits u) 16 (sum_same b (16 * binary_digits u) c (16 * binary_digits u) s (itself (16 * binary_digits u))) (itself 16)))
digits_same t u b c (inr l) s =
    inr (
      subst (λ z. limit ≤ z) (swap (b + 16 * binary_digits t + 16) t) (large (b + 16 * binary_digits t + 16) t (omega arith) l.0),
      subst (λ z. limit ≤ z) (swap (c + 16 * binary_digits u + 16) u) (large (c + 16 * binary_digits u + 16) u (omega arith) l.1),
    )

pub max_same : (a b m : ℕ) → Same a b → Same (max a m) (max b m)
max_same a b m (inl e) = inl (ap (λ z. max z m) e)
max_same a b m (inr h) = inr (omega (arith, h.0, le-max_left a m), omega (arith, h.1, le-max_left b m))

pub min_same : (a b m : ℕ) → Same a b → Same (min a m) (min b m)
min_same a b m (inl e) = inl (ap (λ z. min z m) e)
min_same a b m (inr h) = pick (leb_tells m limit)
  where
    both : m ≤ limit → min a m ≡ min b m
    both k = min-eq_right (below a h.0) ∙ sym (min-eq_right (below b h.1))
      where
        below : (n : ℕ) → limit ≤ n → m ≤ n
        below n l = omega (arith, k, l)

    above : (n : ℕ) → limit < m → limit ≤ n → limit ≤ min n m
    above n k l = choose (leb_tells n m)
      where
        choose : ((leb n m ≡ true) × (n ≤ m)) ⊎ ((leb n m ≡ false) × (m < n)) → limit ≤ min n m
        choose (inl j) = subst (λ z. limit ≤ z) (sym (min-eq_left j.1)) l
        choose (inr j) = subst (λ z. limit ≤ z) (sym (min-eq_right (less j.1))) (omega (arith, k))
          where
            less : m < n → m ≤ n
            less q = omega (arith, q)

    pick : ((leb m limit ≡ true) × (m ≤ limit)) ⊎ ((leb m limit ≡ false) × (limit < m)) → Same (min a m) (min b m)
    pick (inl k) = inl (both k.1)
    pick (inr k) = inr (above a k.1 h.0, above b k.1 h.1)

sum-step : {X : Type 0} (f : X → ℕ) (x : X) (xs : List X) → sum (map f (x ∷ xs)) ≡ f x + sum (map f xs)
sum-step f x xs = sum-map f (x ∷ xs) ∙ sum_by-cons f x xs ∙ ap (λ n. f x + n) (sym (sum-map f xs))

pub sums_same : {X : Type 0} (f g : X → ℕ) (xs : List X) → ((x : X) → Same (f x) (g x)) → Same (sum (map f xs)) (sum (map g xs))
sums_same f g [] each = itself 0
sums_same f g (x ∷ xs) each =
    subst (λ z. Same z (sum (map g (x ∷ xs)))) (sym (sum-step f x xs))
    (subst (λ z. Same (f x + sum (map f xs)) z) (sym (sum-step g x xs)) (sum_same (f x) (sum (map f xs)) (g x) (sum (map g xs)) (each x) (sums_same f g xs each)))

-- added up one by one
pub total_same : {X : Type 0} (f g : X → ℕ) (t u : ℕ) (xs : List X) → Same t u → ((x : X) → Same (f x) (g x)) → Same (total f t xs) (u + sum (map g xs))
total_same f g t u [] s each = subst (λ z. Same t z) (no_more u) s
  where
    no_more : (n : ℕ) → n ≡ n + 0
    no_more n = omega arith
total_same f g t u (x ∷ xs) s each =
    subst (λ z. Same (total f (plus t (f x)) xs) z) (grouped u (g x) (sum (map g xs)) (sum (map g (x ∷ xs))) (sum-step g x xs))
    (total_same f g (plus t (f x)) (u + g x) xs (plus_same t (f x) u (g x) s (each x)) each)
  where
    grouped : (a b c d : ℕ) → d ≡ b + c → a + b + c ≡ a + d
    grouped a b c d e = omega (arith, e)

pub added_same : {X : Type 0} (f g : X → ℕ) (xs : List X) → ((x : X) → Same (f x) (g x)) → Same (total f 0 xs) (sum (map g xs))
added_same f g xs each = subst (λ z. Same (total f 0 xs) z) (none_before (sum (map g xs))) (total_same f g 0 0 xs (itself 0) each)
  where
    none_before : (n : ℕ) → 0 + n ≡ n
    none_before n = omega arith
