-- The wires of numbers against the weights of their forms.
use Rattle.std.proofs.Common.{◌≡◌, ℕ, ◌+◌, ◌*◌, ◌<◌, ◌≤◌, max, min, sym, ap, ◌∙◌, subst, arith}
use Rattle.std.proofs.Math.Nat.{min-le_right, mul_assoc, mul_comm, mul_left_comm, mul-add, mul-le-mul_left, max-le, le-max_left, le-max_right}
use Rattle.std.proofs.lemmas.Nat.{mul-le}
use Rattle.clf_tree.specs.declared.scopes.Scopes.{Scopes}
use Rattle.clf_tree.specs.CoreSoundness.{Sort}
use Rattle.clf_tree.specs.CoreWeights.{binary_digits, range_width, most_nodes, bits_of, count_weight, values_weight}
use Rattle.number_encoder.specs.Costs.{count_width, total_width, count_cost, total_cost, values_cost}
use Rattle.number_encoder.proofs.Digits.{digits_more}
use Rattle.number_encoder.proofs.Ranges.{range_some}

pub counts_fit : (scopes : Scopes) (width n most : ℕ) → n ≤ most → count_cost width n ≤ count_weight scopes most
unfolding count_cost count_width
counts_fit scopes width n most h =
    let s = range_some scopes in
    let d = digits_more n most h in
    let m = min-le_right width (binary_digits n + 1) in
    let p = mul-le (n + 1) (min width (binary_digits n + 1) + 1) (most + 1) (range_width scopes + binary_digits most + 1) (omega (arith, h)) (omega (arith, s, d, m)) in
    let e : 32 * (most + 1) * (range_width scopes + binary_digits most + 1) ≡ 32 * ((most + 1) * (range_width scopes + binary_digits most + 1)) = mul_assoc 32 (most + 1) (range_width scopes + binary_digits most + 1) in
    omega (arith, p, e)

pub totals_fit : (scopes : Scopes) (width n most : ℕ) → n ≤ most → total_cost scopes width n ≤ count_weight scopes most
unfolding total_cost total_width
totals_fit scopes width n most h =
    let d = digits_more n most h in
    let m = min-le_right width (range_width scopes + binary_digits n) in
    let p = mul-le (n + 1) (min width (range_width scopes + binary_digits n) + 1) (most + 1) (range_width scopes + binary_digits most + 1) (omega (arith, h)) (omega (arith, d, m)) in
    let e : 32 * (most + 1) * (range_width scopes + binary_digits most + 1) ≡ 32 * ((most + 1) * (range_width scopes + binary_digits most + 1)) = mul_assoc 32 (most + 1) (range_width scopes + binary_digits most + 1) in
    omega (arith, p, e)

pub products_fit : (w : ℕ) → 16 * ((w + 1) * (w + 1)) ≡ 16 * (w + 1) * (w + 1)
products_fit w = sym (mul_assoc 16 (w + 1) (w + 1))

-- n rows of m pairs, against 6·(n + 1)·(m + 1)·(w + 1)
rows : (n m w : ℕ) → 0 < w → values_cost n m w + 2 ≤ 6 * (n + 1) * (m + 1) * (w + 1)
unfolding values_cost
rows n m w some =
    let q = pairs (w + 1) (n * m) (omega (arith, some)) in
    let e : n * (m * (4 * (w + 1) + 4) + 3) ≡ n * m * (4 * (w + 1) + 4) + n * 3 = spread n m (4 * (w + 1) + 4) 3 in
    let f : 6 * (n + 1) * (m + 1) * (w + 1) ≡ 6 * (n * m * (w + 1)) + 6 * ((n + m + 1) * (w + 1)) = apart n m (w + 1) in
    let g : 2 * (n + m + 1) ≤ (n + m + 1) * (w + 1) = subst (λ k. k ≤ (n + m + 1) * (w + 1)) (mul_comm (n + m + 1) 2) (mul-le-mul_left (n + m + 1) (omega (arith, some))) in
    omega (arith, q, e, f, g)
  where
    pairs : (v k : ℕ) → 2 ≤ v → k * (4 * v + 4) ≤ 6 * (k * v)
    pairs v k h =
        let l : k * 2 ≤ k * v = mul-le-mul_left k h in
        let e : k * (4 * v + 4) ≡ k * (4 * v) + k * 4 = mul-add k (4 * v) 4 in
        let f : k * (4 * v) ≡ 4 * (k * v) = mul_left_comm k 4 v in
        omega (arith, l, e, f)

    spread : (a b c d : ℕ) → a * (b * c + d) ≡ a * b * c + a * d
    spread a b c d = mul-add a (b * c) d ∙ ap (λ k. k + a * d) (sym (mul_assoc a b c))

    apart : (a b v : ℕ) → 6 * (a + 1) * (b + 1) * v ≡ 6 * (a * b * v) + 6 * ((a + b + 1) * v)
    apart a b v = omega arith

grown : (n m w p q r : ℕ) → n ≤ p → m ≤ q → w ≤ r → 6 * (n + 1) * (m + 1) * (w + 1) ≤ 6 * (p + 1) * (q + 1) * (r + 1)
grown n m w p q r h k l = mul-le (6 * (n + 1) * (m + 1)) (w + 1) (6 * (p + 1) * (q + 1)) (r + 1) (mul-le (6 * (n + 1)) (m + 1) (6 * (p + 1)) (q + 1) (omega (arith, h)) (omega (arith, k))) (omega (arith, l))

-- wider integers, and more of them, take no fewer wires
wider : (n m w r : ℕ) → w ≤ r → values_cost n m w ≤ values_cost n m r
unfolding values_cost
wider n m w r l =
    let p : m * (4 * (w + 1) + 4) ≤ m * (4 * (r + 1) + 4) = mul-le-mul_left m (omega (arith, l)) in
    let q : n * (m * (4 * (w + 1) + 4) + 3) ≤ n * (m * (4 * (r + 1) + 4) + 3) = mul-le-mul_left n (omega (arith, p)) in
    omega (arith, q)

fits : (range x y n m v w p q : ℕ) → 0 < range → n ≤ p → m ≤ q → v ≤ max range x → w ≤ max range y → values_cost n m (max v w) + 2 ≤ 6 * (p + 1) * (q + 1) * (max range (max x y) + 1)
fits range x y n m v w p q some h k f g =
    let r = max range (max x y) in
    let a : range ≤ r = le-max_left range (max x y) in
    let b : max x y ≤ r = le-max_right range (max x y) in
    let c : max range x ≤ r = max-le a (omega (arith, b, le-max_left x y)) in
    let d : max range y ≤ r = max-le a (omega (arith, b, le-max_right x y)) in
    let e : max v w ≤ r = max-le (omega (arith, c, f)) (omega (arith, d, g)) in
    let s = rows n m r (omega (arith, a, some)) in
    let t = wider n m (max v w) r e in
    let u = grown n m r p q r h k (omega arith) in
    omega (arith, s, t, u)

pub values_fit : (scopes : Scopes) (a b : Sort) (n m v w : ℕ) → n ≤ most_nodes scopes a → m ≤ most_nodes scopes b → v ≤ max (range_width scopes) (bits_of scopes a) → w ≤ max (range_width scopes) (bits_of scopes b) → values_cost n m (max v w) + 2 ≤ values_weight scopes a b
values_fit scopes a b n m v w h k x y =
    fits (range_width scopes) (bits_of scopes a) (bits_of scopes b) n m v w (most_nodes scopes a) (most_nodes scopes b) (range_some scopes) h k x y

pub orders_fit : (v w x y : ℕ) → v ≤ x → w ≤ y → 8 * (max v w + 1) ≤ 8 * (max x y + 1)
orders_fit v w x y h k =
    let f = le-max_left x y in
    let g = le-max_right x y in
    let l : max v w ≤ max x y = max-le (omega (arith, h, f)) (omega (arith, k, g)) in
    omega (arith, l)

pub choices_fit : (w : ℕ) → 3 * w ≤ 8 + 4 * w
choices_fit w = omega arith
