-- Sums over lists and over numbers.
use Rattle.std.proofs.Common.{◌≡◌, ℕ, zero, suc, ◌+◌, ◌*◌, ◌<◌, ◌≤◌, Bool, true, false, cond, List, [], ◌∷◌, length, map, get_or, refl, sym, ap, ◌∙◌, arith}
use Rattle.std.specs.List.{filter, flat_map, range_with_len, sum_by}
use Rattle.std.proofs.lemmas.List.Sums.{sum_by-cons, sum_by-append, sum-map}
use Rattle.std.proofs.lemmas.List.FromFn.{sum_by-map-range_with_len_more}
use Rattle.clf_tree.specs.Lists.{numbers_below}

-- ---- over lists

pub sum-each : {X : Type 0} (f g : X → ℕ) (xs : List X) → ((x : X) → f x ≡ g x) → sum_by f xs ≡ sum_by g xs
sum-each f g [] h = refl
sum-each f g (x ∷ xs) h = sum_by-cons f x xs ∙ ap (λ k. k + sum_by f xs) (h x) ∙ ap (λ k. g x + k) (sum-each f g xs h) ∙ sym (sum_by-cons g x xs)

pub sum-add : {X : Type 0} (f g : X → ℕ) (xs : List X) → sum_by (λ x. f x + g x) xs ≡ sum_by f xs + sum_by g xs
sum-add f g [] = refl
sum-add f g (x ∷ xs) =
    let a = sum_by-cons (λ y. f y + g y) x xs in
    let b = sum_by-cons f x xs in
    let c = sum_by-cons g x xs in
    let d = sum-add f g xs in
    omega (arith, a, b, c, d)

pub sum-times : {X : Type 0} (k : ℕ) (f : X → ℕ) (xs : List X) → sum_by (λ x. k * f x) xs ≡ k * sum_by f xs
sum-times k f [] = omega arith
sum-times k f (x ∷ xs) =
    let a = sum_by-cons (λ y. k * f y) x xs in
    let b = sum_by-cons f x xs in
    let c = sum-times k f xs in
    let d : k * sum_by f (x ∷ xs) ≡ k * (f x + sum_by f xs) = ap (λ n. k * n) b in
    omega (arith, a, c, d)

pub sum-constant : {X : Type 0} (k : ℕ) (xs : List X) → sum_by (λ x. k) xs ≡ length xs * k
sum-constant k [] = omega arith
sum-constant {X} k (x ∷ xs) =
    let a = sum_by-cons (λ (y : X). k) x xs in
    let b = sum-constant k xs in
    omega (arith, a, b)

pub sum-mapped : {X Y : Type 0} (f : Y → ℕ) (g : X → Y) (xs : List X) → sum_by f (map g xs) ≡ sum_by (λ x. f (g x)) xs
sum-mapped f g [] = refl
sum-mapped f g (x ∷ xs) = sum_by-cons f (g x) (map g xs) ∙ ap (λ k. f (g x) + k) (sum-mapped f g xs) ∙ sym (sum_by-cons (λ y. f (g y)) x xs)

pub sum-filtered : {X : Type 0} (f : X → ℕ) (q : X → Bool) (xs : List X) → sum_by f (filter q xs) ≡ sum_by (λ x. cond (q x) (f x) 0) xs
sum-filtered f q [] = refl
sum-filtered f q (x ∷ xs) = by (q x) (sum-filtered f q xs) ∙ sym (sum_by-cons (λ y. cond (q y) (f y) 0) x xs)
  where
    by : (b : Bool) → sum_by f (filter q xs) ≡ sum_by (λ y. cond (q y) (f y) 0) xs → sum_by f (cond b (x ∷ filter q xs) (filter q xs)) ≡ cond b (f x) 0 + sum_by (λ y. cond (q y) (f y) 0) xs
    by true rest = sum_by-cons f x (filter q xs) ∙ ap (λ k. f x + k) rest
    by false rest = omega (arith, rest)

pub sum-flat : {X Y : Type 0} (f : Y → ℕ) (g : X → List Y) (xs : List X) → sum_by f (flat_map g xs) ≡ sum_by (λ x. sum_by f (g x)) xs
sum-flat f g [] = refl
sum-flat f g (x ∷ xs) = sum_by-append f (g x) (flat_map g xs) ∙ ap (λ k. sum_by f (g x) + k) (sum-flat f g xs) ∙ sym (sum_by-cons (λ y. sum_by f (g y)) x xs)

pub sum-swap : {X Y : Type 0} (g : X → Y → ℕ) (xs : List X) (ys : List Y) → sum_by (λ x. sum_by (g x) ys) xs ≡ sum_by (λ y. sum_by (λ x. g x y) xs) ys
sum-swap {X} {Y} g [] ys = let z = sum-constant {X = Y} 0 ys in omega (arith, z)
sum-swap g (x ∷ xs) ys =
    let a = sum_by-cons (λ z. sum_by (g z) ys) x xs in
    let b = sum-swap g xs ys in
    let c = sum-each (λ y. sum_by (λ z. g z y) (x ∷ xs)) (λ y. g x y + sum_by (λ z. g z y) xs) ys (λ y. sum_by-cons (λ z. g z y) x xs) in
    let d = sum-add (g x) (λ y. sum_by (λ z. g z y) xs) ys in
    omega (arith, a, b, c, d)

-- ---- over numbers

less_from : (f g : ℕ → ℕ) (a n : ℕ) → ((i : ℕ) → a ≤ i → i < a + n → f i ≤ g i) → sum_by f (range_with_len a n) ≤ sum_by g (range_with_len a n)
less_from f g a zero h = omega arith
less_from f g a (suc n) h =
    let c = sum_by-cons f a (range_with_len (a + 1) n) in
    let d = sum_by-cons g a (range_with_len (a + 1) n) in
    let first = h a (omega arith) (omega arith) in
    let rest = less_from f g (a + 1) n (λ i l m. h i (omega (arith, l)) (omega (arith, m))) in
    omega (arith, c, d, first, rest)

pub below-less : (f g : ℕ → ℕ) (n : ℕ) → ((i : ℕ) → i < n → f i ≤ g i) → sum_by f (numbers_below n) ≤ sum_by g (numbers_below n)
below-less f g n h = less_from f g 0 n (λ i l m. h i (omega (arith, m)))

pub below-more : (f : ℕ → ℕ) (n : ℕ) → sum_by f (numbers_below (n + 1)) ≡ sum_by f (numbers_below n) + f n
below-more f n = sym (sum-map f (numbers_below (n + 1))) ∙ sum_by-map-range_with_len_more (λ (x : ℕ). x) f 0 n n (omega arith) ∙ ap (λ k. k + f n) (sum-map f (numbers_below n))

shift : (h : ℕ → ℕ) (a n : ℕ) → sum_by h (range_with_len (a + 1) n) ≡ sum_by (λ i. h (suc i)) (range_with_len a n)
shift h a zero = refl
shift h a (suc n) =
    let e : a + 1 ≡ suc a = omega arith in
    sum_by-cons h (a + 1) (range_with_len ((a + 1) + 1) n) ∙ ap (λ k. h k + sum_by h (range_with_len ((a + 1) + 1) n)) e
    ∙ ap (λ k. h (suc a) + k) (shift h (a + 1) n) ∙ sym (sum_by-cons (λ i. h (suc i)) a (range_with_len (a + 1) n))

-- a sum over the places of a list
pub sum-places : {X : Type 0} (f : X → ℕ) (d : X) (xs : List X) → sum_by (λ i. f (get_or xs i d)) (numbers_below (length xs)) ≡ sum_by f xs
sum-places f d [] = refl
sum-places f d (x ∷ xs) =
    sum_by-cons (λ i. f (get_or (x ∷ xs) i d)) 0 (range_with_len 1 (length xs)) ∙ ap (λ k. f x + k) (shift (λ i. f (get_or (x ∷ xs) i d)) 0 (length xs) ∙ sum-places f d xs)
    ∙ sym (sum_by-cons f x xs)

-- twice the sum over pairs is no more than the sum over all two
pub pairs_twice : (g : ℕ → ℕ → ℕ) → ((i j : ℕ) → g i j ≡ g j i) → (n : ℕ)
    → 2 * sum_by (λ i. sum_by (λ j. g j i) (numbers_below i)) (numbers_below n) ≤ sum_by (λ i. sum_by (λ j. g j i) (numbers_below n)) (numbers_below n)
pairs_twice g same zero = omega arith
pairs_twice g same (suc n) =
    let e : suc n ≡ n + 1 = omega arith in
    let left : sum_by (λ i. sum_by (λ j. g j i) (numbers_below i)) (numbers_below (suc n)) ≡ sum_by (λ i. sum_by (λ j. g j i) (numbers_below i)) (numbers_below n) + sum_by (λ j. g j n) (numbers_below n) =
    ap (λ k. sum_by (λ i. sum_by (λ j. g j i) (numbers_below i)) (numbers_below k)) e ∙ below-more (λ i. sum_by (λ j. g j i) (numbers_below i)) n in
    let right : sum_by (λ i. sum_by (λ j. g j i) (numbers_below (suc n))) (numbers_below (suc n)) ≡ sum_by (λ i. sum_by (λ j. g j i) (numbers_below (n + 1))) (numbers_below n) + sum_by (λ j. g j n) (numbers_below (n + 1)) =
    ap (λ k. sum_by (λ i. sum_by (λ j. g j i) (numbers_below k)) (numbers_below k)) e ∙ below-more (λ i. sum_by (λ j. g j i) (numbers_below (n + 1))) n in
    let rows = sum-each (λ i. sum_by (λ j. g j i) (numbers_below (n + 1))) (λ i. sum_by (λ j. g j i) (numbers_below n) + g n i) (numbers_below n) (λ i. below-more (λ j. g j i) n) in
    let split = sum-add (λ i. sum_by (λ j. g j i) (numbers_below n)) (λ i. g n i) (numbers_below n) in
    let turn = sum-each (λ i. g n i) (λ i. g i n) (numbers_below n) (λ i. same n i) in
    let last = below-more (λ j. g j n) n in
    let rest = pairs_twice g same n in
    omega (arith, left, right, rows, split, turn, last, rest)
