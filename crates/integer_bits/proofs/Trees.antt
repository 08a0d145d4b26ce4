-- Sums by trees of adders.
use Rattle.std.proofs.Common.{◌≡◌, ℕ, suc, zero, ◌+◌, ◌-◌, ◌*◌, ◌<◌, ◌≤◌, Bool, List, [], ◌∷◌, ◌++◌, length, take, drop, get_or, refl, sym, ap, ◌∙◌, subst, arith}
use Rattle.std.specs.Prelude.{ℤ, pos, ◌+ℤ◌}
use Rattle.std.proofs.lemmas.Int.{ints}
use Rattle.std.proofs.lemmas.List.{take-append-drop, take_all, length-take-le, length-drop, map-append}
use Rattle.std.proofs.lemmas.List.Elements.{All-head, All-tail, All-take, All-drop}
use Rattle.bool_circuit.specs.declared.gate.Wire.{Wire}
use Rattle.bool_circuit.specs.declared.gate.Gate.{Gate}
use Rattle.bool_circuit.specs.Circuit.{wire_value, wire_values, IsWireOf, AreWiresOf, Extends}
use Rattle.bool_circuit.proofs.Extending.{extends_trans, extends_within, wires_stay, wire_values_stay}
use Rattle.integer_bits.proofs.Congruent.{congruent_add, congruent_trans, congruent_same}
use Rattle.integer_bits.proofs.Widening.{integer_stays}
use Rattle.integer_bits.specs.declared.totals.Part.{Part}
use Rattle.integer_bits.specs.Numbers.{bit, integer_at, IsCongruent, StandsFor}
use Rattle.integer_bits.specs.Totals.{count_true, where_true, sum_of_parts, IsPartOf, ArePartsOf, tree_cost}

-- ---- the wires of a tree

times_sum : (m n k : ℕ) → (m + n) * k ≡ m * k + n * k
times_sum m n k = omega arith

pub tree_cost_joined : (leaf join m n k : ℕ) → 0 < m → 0 < n → k ≡ m + n → tree_cost leaf join m + tree_cost leaf join n + join ≡ tree_cost leaf join k
tree_cost_joined leaf join m n k hm hn e =
    let s : k - 1 ≡ (m - 1) + (n - 1) + 1 = omega arith in
    let a : k * leaf ≡ m * leaf + n * leaf = ap (λ k. k * leaf) e ∙ times_sum m n leaf in
    let b : (k - 1) * join ≡ (m - 1) * join + (n - 1) * join + join = ap (λ k. k * join) s ∙ times_sum ((m - 1) + (n - 1)) 1 join ∙ ap (λ t. t + 1 * join) (times_sum (m - 1) (n - 1) join) ∙ one_more ((m - 1) * join) ((n - 1) * join) join in
    rw (a, b) (regroup (m * leaf) ((m - 1) * join) (n * leaf) ((n - 1) * join) join)
  where
    one_more : (x y j : ℕ) → (x + y) + 1 * j ≡ x + y + j
    one_more x y j = omega arith

    regroup : (a b c d j : ℕ) → (a + b) + (c + d) + j ≡ (a + c) + (b + d + j)
    regroup a b c d j = omega arith

-- ---- what a join stands for

pub joined : (w n : ℕ) (first next new : List Gate) (x y z : List Bool → ℤ) (c : List Bool → ℕ) (a b s : List Wire) → StandsFor w first x a → Extends first next n → StandsFor w next y b
    → StandsFor w new (λ bits. (integer_at next a bits +ℤ integer_at next b bits) +ℤ pos (c bits)) s → ((bits : List Bool) → z bits ≡ (x bits +ℤ y bits) +ℤ pos (c bits)) → StandsFor w new z s
joined w n first next new x y z c a b s sa e sb ss h = record {
  number = ss.number;
  value = λ bits.
      let same : integer_at next a bits ≡ integer_at first a bits = integer_stays n first next a bits e sa.number.wires in
      let ca : IsCongruent w (integer_at next a bits) (x bits) = subst (λ t. IsCongruent w t (x bits)) (sym same) (sa.value bits) in
      congruent_trans w _ _ _ (ss.value bits) (congruent_trans w _ _ _ (congruent_add w _ _ _ _ (congruent_add w _ _ _ _ ca (sb.value bits)) (congruent_same w _ _ refl)) (congruent_same w _ _ (sym (h bits))));
}

-- ---- parts

pub parts_stay : (n : ℕ) (old new : List Gate) (ps : List Part) → Extends old new n → ArePartsOf old ps → ArePartsOf new ps
parts_stay n old new ps e h = λ k d l. let p = h k d l in record { here = omega (arith, e.at_least, p.here); wires = wires_stay old new n _ e p.wires; some = p.some }

pub sum_of_parts_stays : (n : ℕ) (old new : List Gate) (ps : List Part) (bits : List Bool) → Extends old new n → ArePartsOf old ps → sum_of_parts new ps bits ≡ sum_of_parts old ps bits
sum_of_parts_stays n old new [] bits e h = refl
sum_of_parts_stays n old new (p ∷ ps) bits e h =
    let q : IsPartOf old p = All-head (IsPartOf old) p ps h in
    let here = e.keeps p.here q.here bits in
    let number = integer_stays n old new p.bits bits e q.wires in
    let rest = sum_of_parts_stays n old new ps bits e (All-tail (IsPartOf old) p ps h) in
    ap (λ h. where_true h (integer_at new p.bits bits) +ℤ sum_of_parts new ps bits) here ∙ ap (λ z. where_true (wire_value old p.here bits) z +ℤ sum_of_parts new ps bits) number ∙ ap (λ z. where_true (wire_value old p.here bits) (integer_at old p.bits bits) +ℤ z) rest

sum_of_parts-append : (gates : List Gate) (ps qs : List Part) (bits : List Bool) → sum_of_parts gates (ps ++ qs) bits ≡ sum_of_parts gates ps bits +ℤ sum_of_parts gates qs bits
sum_of_parts-append gates [] qs bits = omega (arith, ints)
sum_of_parts-append gates (p ∷ ps) qs bits = regroup _ _ _ _ (sum_of_parts-append gates ps qs bits)
  where
    regroup : (x y z s : ℤ) → s ≡ y +ℤ z → x +ℤ s ≡ (x +ℤ y) +ℤ z
    regroup x y z s e = omega (arith, ints)

-- the sum of parts is that of those before a place and those from it on
pub sum_of_split : (n : ℕ) (old mid : List Gate) (ps front back : List Part) (k : ℕ) (bits : List Bool) → front ≡ take k ps → back ≡ drop k ps → Extends old mid n → ArePartsOf old back
    → sum_of_parts old ps bits ≡ (sum_of_parts old front bits +ℤ sum_of_parts mid back bits) +ℤ pos 0
sum_of_split n old mid ps front back k bits ef eb e h =
    let s : front ++ back ≡ ps = ap (λ t. t ++ back) ef ∙ ap (λ t. take k ps ++ t) eb ∙ take-append-drop k ps in
    ap (λ t. sum_of_parts old t bits) (sym s) ∙ sum_of_parts-append old front back bits ∙ ap (λ z. sum_of_parts old front bits +ℤ z) (sym (sum_of_parts_stays n old mid back bits e h)) ∙ and_none _
  where
    and_none : (x : ℤ) → x ≡ x +ℤ pos 0
    and_none x = omega (arith, ints)

-- ---- counts

count_true-append : (xs ys : List Bool) → count_true (xs ++ ys) ≡ count_true xs + count_true ys
count_true-append [] ys = omega arith
count_true-append (x ∷ xs) ys = omega (arith, count_true-append xs ys)

pub count_of_split : (n : ℕ) (old mid next : List Gate) (m : ℕ) (ws front back others : List Wire) (w : Wire) (k : ℕ) (bits : List Bool) → ws ≡ w ∷ others → front ≡ take k others → back ≡ drop k others → Extends old mid n → Extends mid next m → IsWireOf old w → AreWiresOf old back
    → pos (count_true (wire_values old ws bits)) ≡ (pos (count_true (wire_values old front bits)) +ℤ pos (count_true (wire_values mid back bits))) +ℤ pos (bit (wire_value next w bits))
count_of_split n old mid next m ws front back others w k bits ew ef eb e f hw hb =
    let s : front ++ back ≡ others = ap (λ t. t ++ back) ef ∙ ap (λ t. take k others ++ t) eb ∙ take-append-drop k others in
    let v : wire_values mid back bits ≡ wire_values old back bits = wire_values_stay old mid n back bits e hb in
    let u : wire_value next w bits ≡ wire_value old w bits = f.keeps w (omega (arith, e.at_least)) bits ∙ e.keeps w hw bits in
    let a : count_true (wire_values old ws bits) ≡ bit (wire_value old w bits) + count_true (wire_values old others bits) = ap (λ t. count_true (wire_values old t bits)) ew in
    let b : count_true (wire_values old others bits) ≡ count_true (wire_values old front bits) + count_true (wire_values mid back bits) =
    ap (λ t. count_true (wire_values old t bits)) (sym s) ∙ ap count_true (map-append (λ w. wire_value old w bits) front back) ∙ count_true-append (wire_values old front bits) (wire_values old back bits) ∙ ap (λ t. count_true (wire_values old front bits) + count_true t) (sym v) in
    let c : bit (wire_value next w bits) ≡ bit (wire_value old w bits) = ap bit u in
    ap pos (a ∙ ap (λ t. bit (wire_value old w bits) + t) b ∙ ap (λ t. t + (count_true (wire_values old front bits) + count_true (wire_values mid back bits))) (sym c) ∙ turn (bit (wire_value next w bits)) (count_true (wire_values old front bits)) (count_true (wire_values mid back bits)))
  where
    turn : (x y z : ℕ) → x + (y + z) ≡ (y + z) + x
    turn x y z = omega arith

-- ---- what a join adds

pub tree_twice : (leaf join m n k : ℕ) (old first next : List Gate) → 0 < m → 0 < n → k ≡ m + n → Extends old first (tree_cost leaf join m) → Extends first next (tree_cost leaf join n) → Extends old next (tree_cost leaf join k)
tree_twice leaf join m n k old first next hm hn e a b =
    extends_within old next (tree_cost leaf join m + tree_cost leaf join n) (tree_cost leaf join k) (omega (arith, tree_cost_joined leaf join m n k hm hn e)) (extends_trans old first next (tree_cost leaf join m) (tree_cost leaf join n) a b)

pub tree_joined : (leaf join m n k : ℕ) (old first next new : List Gate) → 0 < m → 0 < n → k ≡ m + n → Extends old first (tree_cost leaf join m) → Extends first next (tree_cost leaf join n) → Extends next new join → Extends old new (tree_cost leaf join k)
tree_joined leaf join m n k old first next new hm hn e a b c =
    extends_within old new (tree_cost leaf join m + tree_cost leaf join n + join) (tree_cost leaf join k) (omega (arith, tree_cost_joined leaf join m n k hm hn e))
    (extends_trans old next new (tree_cost leaf join m + tree_cost leaf join n) join (extends_trans old first next (tree_cost leaf join m) (tree_cost leaf join n) a b) c)

-- there is room for the second branch, and for the join
pub tree_room : (leaf join m n k most : ℕ) (old first : List Gate) → 0 < m → 0 < n → k ≡ m + n → length old + tree_cost leaf join k ≤ most → Extends old first (tree_cost leaf join m) → length first + tree_cost leaf join n ≤ most
tree_room leaf join m n k most old first hm hn e r a = omega (arith, tree_cost_joined leaf join m n k hm hn e, a.at_most)

pub join_room : (leaf join m n k most : ℕ) (old first next : List Gate) → 0 < m → 0 < n → k ≡ m + n → length old + tree_cost leaf join k ≤ most → Extends old first (tree_cost leaf join m) → Extends first next (tree_cost leaf join n) → length next + join ≤ most
join_room leaf join m n k most old first next hm hn e r a b = omega (arith, tree_cost_joined leaf join m n k hm hn e, a.at_most, b.at_most)

-- the same for counts, whose joins take a wire of their own
pub count_cost : (w f r n : ℕ) → n ≡ (f + r) + 1 → (1 + f * (5 * w + 2)) + (1 + r * (5 * w + 2)) + 5 * w ≡ n * (5 * w + 2)
count_cost w f r n e = rw e (omega arith)

pub count_joined : (w f r n : ℕ) (old first next new : List Gate) → n ≡ (f + r) + 1 → Extends old first (1 + f * (5 * w + 2)) → Extends first next (1 + r * (5 * w + 2)) → Extends next new (5 * w) → Extends old new (1 + n * (5 * w + 2))
count_joined w f r n old first next new e a b c =
    extends_within old new ((1 + f * (5 * w + 2)) + (1 + r * (5 * w + 2)) + 5 * w) (1 + n * (5 * w + 2)) (omega (arith, count_cost w f r n e))
    (extends_trans old next new ((1 + f * (5 * w + 2)) + (1 + r * (5 * w + 2))) (5 * w) (extends_trans old first next (1 + f * (5 * w + 2)) (1 + r * (5 * w + 2)) a b) c)

pub first_and_others : {X : Type 0} (n : ℕ) (xs : List X) (d : X) → n ≡ length xs - 1 → 0 < length xs → xs ≡ get_or xs 0 d ∷ take n (drop 1 xs)
first_and_others n [] d e h = absurd (omega arith)
first_and_others n (y ∷ xs) d e h = ap (λ t. y ∷ t) (sym (take_all n xs (omega arith)))

pub wires_of_split : (gates : List Gate) (k n : ℕ) (ws back : List Wire) → back ≡ drop k (take n (drop 1 ws)) → AreWiresOf gates ws → AreWiresOf gates back
wires_of_split gates k n ws back e h = subst (AreWiresOf gates) (sym e) (All-drop (IsWireOf gates) k (take n (drop 1 ws)) (All-take (IsWireOf gates) n (drop 1 ws) (All-drop (IsWireOf gates) 1 ws h)))

pub length_of_split : (k n : ℕ) (ws front back : List Wire) → length front ≡ k → length back + k ≡ length (take n (drop 1 ws)) → n ≡ length ws - 1 → 0 < length ws → length ws ≡ (length front + length back) + 1
length_of_split k n ws front back e f h l =
    let a : length (take n (drop 1 ws)) ≡ n = length-take-le n (drop 1 ws) (omega (arith, length-drop 1 ws)) in
    omega arith

pub count_twice : (w f r n : ℕ) (old first next : List Gate) → n ≡ (f + r) + 1 → Extends old first (1 + f * (5 * w + 2)) → Extends first next (1 + r * (5 * w + 2)) → Extends old next (1 + n * (5 * w + 2))
count_twice w f r n old first next e a b =
    extends_within old next ((1 + f * (5 * w + 2)) + (1 + r * (5 * w + 2))) (1 + n * (5 * w + 2)) (omega (arith, count_cost w f r n e)) (extends_trans old first next (1 + f * (5 * w + 2)) (1 + r * (5 * w + 2)) a b)

-- ---- the whole

times_one_more : (n w : ℕ) → (n + 1) * (w + 1) ≡ n * w + n + w + 1
times_one_more n w = omega arith

pub tree_within : (n w : ℕ) → 1 + tree_cost w (5 * w) n ≤ 32 * ((n + 1) * (w + 1))
tree_within zero w = omega (arith, times_one_more 0 w)
tree_within (suc n) w =
    let e : suc n - 1 ≡ n = omega arith in
    let f : suc n * w ≡ n * w + w = omega arith in
    let g : n * (5 * w) ≡ 5 * (n * w) = omega arith in
    let h : (suc n + 1) * (w + 1) ≡ n * w + w + w + n + 2 = omega arith in
    rw (e, f, g, h) (omega arith)

pub count_fits : (n w : ℕ) → 1 + n * (5 * w + 2) ≤ 32 * ((n + 1) * (w + 1))
count_fits n w =
    let g : n * (5 * w + 2) ≡ 5 * (n * w) + 2 * n = omega arith in
    rw (g, times_one_more n w) (omega arith)
