-- How many tuples there are, and what they cost.
use Rattle.std.proofs.Common.{◌≡◌, ℕ, zero, suc, ◌+◌, ◌*◌, ◌^◌, ◌≤◌, Bool, true, false, List, [], ◌∷◌, length, ap, ◌∙◌, arith, length-append}
use Rattle.std.specs.List.{flat_map}
use Rattle.std.proofs.Math.Nat.{mul-le-mul_left, pow-le-pow_left, pow-le-pow_right, pow-suc, pow-zero}
use Rattle.std.proofs.lemmas.List.{length-map}
use Rattle.std.proofs.lemmas.List.Sums.{length-filter, count_by-le-length}
use Rattle.clf_tree.specs.declared.core_expr.Quantifier.{Quantifier}
use Rattle.clf_tree.specs.declared.core_expr.Quantifier.TheVariants as word
use Rattle.clf_tree.specs.CoreWeights.{quantified_weight, binary_digits}
use Rattle.clf_tree.specs.Lists.{each_two, tuples}
use Rattle.told_constraints.specs.Told.{tried_slots}
use Rattle.quantifier_encoder.specs.Passing.{many_cost}
use Rattle.quantifier_encoder.proofs.Behind.{differ, in_front}

-- ---- how many

length-fronts : (ts : List (List ℕ)) (ys : List ℕ) → length (flat_map (λ y. in_front y ts) ys) ≡ length ys * length ts
length-fronts ts [] = omega arith
length-fronts ts (y ∷ ys) =
    let a = length-append (in_front y ts) (flat_map (λ z. in_front z ts) ys) in
    let b = length-map ts (λ t. y ∷ t) in
    let r = length-fronts ts ys in
    omega (arith, a, b, r)

length-tuples : (n : ℕ) (xs : List ℕ) → length (tuples n xs) ≡ length xs ^ n
length-tuples zero xs = omega (arith, pow-zero (length xs))
length-tuples (suc n) xs =
    let r = length-tuples n xs in
    length-fronts (tuples n xs) xs ∙ ap (λ k. length xs * k) r ∙ turned (length xs) (length xs ^ n) ∙ powers
  where
    turned : (a b : ℕ) → a * b ≡ b * a
    turned a b = omega arith

    powers : length xs ^ n * length xs ≡ length xs ^ suc n
    powers = omega (arith, pow-suc (length xs) n)

pub tried_few : (disj : Bool) (n : ℕ) (xs : List ℕ) → length (tried_slots disj n xs) ≤ length xs ^ n
tried_few true n xs = omega (arith, length-filter (each_two differ) (tuples n xs), count_by-le-length (each_two differ) (tuples n xs), length-tuples n xs)
tried_few false n xs = omega (arith, length-tuples n xs)

-- ---- what rounds cost

no_power : (k : ℕ) → 0 ^ suc k ≡ 0
no_power k = omega (arith, pow-suc 0 k)

-- a round adds no more than its share
round_up : (n i : ℕ) → i * n ^ i ≤ i * n ^ suc i
round_up zero zero = omega arith
round_up zero (suc k) = omega (arith, ap (λ x. suc k * x) (no_power k))
round_up (suc m) i = mul-le-mul_left i (pow-le-pow_right {n = suc m} (omega arith) {i = i} {j = suc i} (omega arith))

pub one_round : (n i t : ℕ) → t ≤ n ^ i → (i * n ^ i + 1) + t * n ≤ suc i * n ^ suc i + 1
one_round n i t h =
    let a = round_up n i in
    let b : n * t ≤ n * n ^ i = mul-le-mul_left n h in
    let e = pow-suc n i in
    omega (arith, a, b, e)

-- so many rounds cost no more than all of them
pub rounds_grow : (n i j : ℕ) → i ≤ j → i * n ^ i ≤ j * n ^ j
rounds_grow zero zero j h = omega arith
rounds_grow zero (suc k) j h = omega (arith, ap (λ x. suc k * x) (no_power k))
rounds_grow (suc m) i j h =
    let a : i * suc m ^ i ≤ i * suc m ^ j = mul-le-mul_left i (pow-le-pow_right {n = suc m} (omega arith) {i = i} {j = j} h) in
    let b : suc m ^ j * i ≤ suc m ^ j * j = mul-le-mul_left (suc m ^ j) h in
    omega (arith, a, b)

-- ---- the weight

few_weighed : (over names low high t body : ℕ) → low ≤ high → t ≤ low → over + (names * low + 1) + t * body + (3 * t + 1) ≤ high * (body + 2 * names + 4) + 2 + over
few_weighed over names low high t body h k =
    let a : names * low ≤ names * high = mul-le-mul_left names h in
    let l : t ≤ high = omega arith in
    let b : body * t ≤ body * high = mul-le-mul_left body l in
    omega (arith, a, b)

many_weighed : (over names low high t body digits : ℕ) → low ≤ high → t ≤ low → over + (names * low + 1) + t * body + (t + (8 * t + 7)) ≤ high * (body + 8 * names + 16 * digits + 16) + 8 + over
many_weighed over names low high t body digits h k =
    let a : names * low ≤ names * high = mul-le-mul_left names h in
    let l : t ≤ high = omega arith in
    let b : body * t ≤ body * high = mul-le-mul_left body l in
    omega (arith, a, b)

pub quantifier_weighed : (w : Quantifier) (n most names body over t : ℕ) → n ≤ most → t ≤ n ^ names
    → over + (names * n ^ names + 1) + t * body + many_cost w t ≤ quantified_weight w (most ^ names) names body over
quantifier_weighed word.All n most names body over t h k = few_weighed over names (n ^ names) (most ^ names) t body (pow-le-pow_left h names) k
quantifier_weighed word.Some n most names body over t h k = few_weighed over names (n ^ names) (most ^ names) t body (pow-le-pow_left h names) k
quantifier_weighed word.One n most names body over t h k = many_weighed over names (n ^ names) (most ^ names) t body (binary_digits (most ^ names)) (pow-le-pow_left h names) k
quantifier_weighed word.Lone n most names body over t h k = many_weighed over names (n ^ names) (most ^ names) t body (binary_digits (most ^ names)) (pow-le-pow_left h names) k
