-- Counts of wires between two bounds.
use Rattle.std.proofs.Common.{◌≡◌, ℕ, ◌+◌, ◌<◌, ◌≤◌, Bool, true, false, cond, ◌&&◌, List, [], ◌∷◌, length, Option, Some, None, refl, sym, ap, ◌∙◌, arith, is_none}
use Rattle.std.specs.Prelude.{nat_lt, nat_le}
use Rattle.std.specs.Option.{option_map_or}
use Rattle.std.proofs.lemmas.Bool.{true≢false}
use Rattle.std.proofs.lemmas.Bool.Decides.{nat_tests}
use Rattle.std.proofs.lemmas.List.{length-map}
use Rattle.bool_circuit.specs.declared.gate.Wire.{Wire}
use Rattle.bool_circuit.specs.declared.gate.Gate.{Gate}
use Rattle.bool_circuit.specs.Circuit.{wire_value, wire_values, IsWireOf, AreWiresOf, Extends}
use Rattle.bool_circuit.proofs.Extending.{wire_values_stay}
use Rattle.integer_bits.specs.Totals.{count_true}
use Rattle.clf_tree.specs.declared.module.Interval.{Interval}
use Rattle.clf_tree.specs.Shape.{allows}
use Rattle.shape_encoder.specs.Counting.{clipped}
use Rattle.std.specs.Prelude.{pos, int_le}
use Rattle.std.proofs.Common.{to_z, of_z}
use mir.Syntax.{w128}
use Rattle.std.proofs.lemmas.Int.{ints, to_z-of_z}
use Rattle.integer_bits.specs.Numbers.{integer_of, integer_at, FitsBits}
use Rattle.bool_circuit.proofs.Extending.{extends_trans}

count_within : (bs : List Bool) → count_true bs ≤ length bs
count_within [] = omega arith
count_within (true ∷ bs) = let r = count_within bs in omega (arith, r)
count_within (false ∷ bs) = let r = count_within bs in omega (arith, r)

-- no more wires are true than there are
pub wires_within : (gates : List Gate) (ws : List Wire) (bits : List Bool) → count_true (wire_values gates ws bits) ≤ length ws
wires_within gates ws bits = let r = count_within (wire_values gates ws bits) in let s = length-map ws (λ (w : Wire). wire_value gates w bits) in omega (arith, r, s)

-- ---- values

at_most_all : (n m : ℕ) (h : Option ℕ) → clipped h n ≡ None → m ≤ n → option_map_or (λ high. nat_le m high) h true ≡ true
at_most_all n m None e l = refl
at_most_all n m (Some h) e l = by (nat_lt h n) refl e
  where
    by : (b : Bool) → nat_lt h n ≡ b → cond b (Some h) None ≡ None → nat_le m h ≡ true
    by true t f = absurd (true≢false (sym (ap is_none f)))
    by false t f = grind (arith, nat_tests)

pub low_alone : (interval : Interval) (n m : ℕ) → clipped interval.high n ≡ None → m ≤ n → nat_le interval.low m ≡ allows interval m
low_alone interval n m e l = sym (ap (λ b. nat_le interval.low m && b) (at_most_all n m interval.high e l) ∙ same (nat_le interval.low m))
  where
    same : (b : Bool) → (b && true) ≡ b
    same true = refl
    same false = refl

pub too_many : (low n m : ℕ) → n < low → m ≤ n → false ≡ nat_le low m
too_many low n m h l = grind (arith, nat_tests)

-- two counts of the same wires
pub between_told : (old first second new : List Gate) (ws : List Wire) (low high m n : ℕ) (enough few wire : Wire) → AreWiresOf old ws → Extends old first m → Extends first second n → IsWireOf first enough
    → ((bits : List Bool) → wire_value first enough bits ≡ nat_le low (count_true (wire_values old ws bits)))
    → ((bits : List Bool) → wire_value second few bits ≡ nat_le (count_true (wire_values first ws bits)) high)
    → ((bits : List Bool) → wire_value new wire bits ≡ (wire_value second enough bits && wire_value second few bits))
    → (bits : List Bool) → wire_value new wire bits ≡ (nat_le low (count_true (wire_values old ws bits)) && nat_le (count_true (wire_values old ws bits)) high)
between_told old first second new ws low high m n enough few wire all x y w ev fv v bits =
    v bits ∙ ap (λ b. b && wire_value second few bits) (y.keeps enough w bits ∙ ev bits)
    ∙ ap (λ b. nat_le low (count_true (wire_values old ws bits)) && b) (fv bits ∙ ap (λ bs. nat_le (count_true bs) high) (wire_values_stay old first m ws bits x all))

-- ---- large counts

fits_eleven : (m : ℕ) → m ≤ 1023 → FitsBits 11 (pos m)
fits_eleven m h = record { low = omega (arith, ints); high = omega (arith, ints, h) }

-- a small number that is passed on
pub passed_small : (n : ℕ) → n ≤ 1023 → to_z w128 (of_z w128 (pos n)) ≡ pos n
passed_small n h = to_z-of_z w128 (pos n) (record { sfits = omega (arith, ints, h) })

pub low_of_sum : (low n m : ℕ) → m ≤ n → (nat_le low m && nat_le m n) ≡ nat_le low m
low_of_sum low n m h = ap (λ b. nat_le low m && b) within ∙ same (nat_le low m)
  where
    within : nat_le m n ≡ true
    within = grind (arith, nat_tests)

    same : (b : Bool) → (b && true) ≡ b
    same true = refl
    same false = refl

natural : (a b : ℕ) → int_le (pos a) (pos b) ≡ nat_le a b
natural a b = grind (arith, ints, nat_tests)

-- three numbers, one after another, and whether the first lies between the others
pub sum_told : (old first second third new : List Gate) (ws total least most : List Wire) (low high m n p : ℕ) (right : Wire) → AreWiresOf old ws → length ws ≤ 1023 → AreWiresOf first total → AreWiresOf second least → Extends first second n → Extends second third p
    → ((bits : List Bool) → FitsBits 11 (pos (count_true (wire_values old ws bits))) → integer_at first total bits ≡ pos (count_true (wire_values old ws bits)))
    → ((bits : List Bool) → integer_at second least bits ≡ pos low)
    → ((bits : List Bool) → integer_at third most bits ≡ pos high)
    → ((bits : List Bool) → wire_value new right bits ≡ (int_le (integer_at third least bits) (integer_at third total bits) && int_le (integer_at third total bits) (integer_at third most bits)))
    → (bits : List Bool) → wire_value new right bits ≡ (nat_le low (count_true (wire_values old ws bits)) && nat_le (count_true (wire_values old ws bits)) high)
sum_told old first second third new ws total least most low high m n p right in_ws few in_total in_least x y tv lv mv v bits =
    v bits
    ∙ ap (λ z. int_le z (integer_at third total bits) && int_le (integer_at third total bits) (integer_at third most bits)) (ap integer_of (wire_values_stay second third p least bits y in_least) ∙ lv bits)
    ∙ ap (λ z. int_le (pos low) z && int_le z (integer_at third most bits)) (ap integer_of (wire_values_stay first third (n + p) total bits (extends_trans first second third n p x y) in_total) ∙ tv bits (fits_eleven (count_true (wire_values old ws bits)) (let i = wires_within old ws bits in omega (arith, i, few))))
    ∙ ap (λ z. int_le (pos low) (pos (count_true (wire_values old ws bits))) && int_le (pos (count_true (wire_values old ws bits))) z) (mv bits)
    ∙ ap (λ b. b && int_le (pos (count_true (wire_values old ws bits))) (pos high)) (natural low (count_true (wire_values old ws bits)))
    ∙ ap (λ b. nat_le low (count_true (wire_values old ws bits)) && b) (natural (count_true (wire_values old ws bits)) high)
