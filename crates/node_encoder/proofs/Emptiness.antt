-- How many slots a set has.
use Rattle.std.proofs.Common.{◌≡◌, ◌≢◌, ℕ, zero, suc, ◌+◌, ◌<◌, ◌≤◌, Bool, true, false, cond, ◌&&◌, ◌||◌, ◌⊎◌, inl, inr, List, [], ◌∷◌, length, map, refl, sym, ap, ◌∙◌, subst, arith, mul-le-mul_left, ◌*◌}
use Rattle.std.specs.Prelude.{nat_eq, nat_lt, nat_le, not, ◌==◌}
use Rattle.std.specs.List.{All, filter, list_all, range_with_len, count_by}
use Rattle.std.proofs.lemmas.Bool.{true≢false}
use Rattle.std.proofs.lemmas.Bool.Decides.{nat_tests, eqb_tells}
use Rattle.std.proofs.lemmas.Grind.{common_steps}
use Rattle.std.proofs.lemmas.List.Sums.{length-filter}
use Rattle.std.proofs.lemmas.List.Elements.{All-map}
use Rattle.bool_circuit.specs.declared.gate.Wire.{Wire}
use Rattle.bool_circuit.specs.declared.gate.Gate.{Gate}
use Rattle.bool_circuit.specs.Circuit.{wire_value, wire_values, IsWireOf, AreWiresOf}
use Rattle.clf_tree.specs.Lists.{numbers_below}
use Rattle.integer_bits.specs.Totals.{count_true}
use Rattle.set_bits.specs.declared.sets.Member.{Member}
use Rattle.set_bits.specs.Sets.{is_in, AscendFrom}
use Rattle.set_bits.proofs.Combining.{none_below}
use Rattle.shown_instance.proofs.Counts.{count-cons}
use Rattle.shown_instance.proofs.Order.{both}
use Rattle.node_encoder.specs.Listing.{AreBelow}

-- ---- the true wires of a set are as many as its slots

abbrev one_if : Bool → ℕ
one_if b = cond b 1 0

nothing : (n : ℕ) → n ≡ cond false 1 0 + n
nothing n = omega arith

-- no member has a slot from a on
count_none : (gates : List Gate) (set : List Member) (bits : List Bool) (a n : ℕ) → ((s : ℕ) → a ≤ s → s < a + n → is_in gates set s bits ≡ false) → count_by (λ s. is_in gates set s bits) (range_with_len a n) ≡ 0
count_none gates set bits a zero h = refl
count_none gates set bits a (suc n) h =
    let r = count_none gates set bits (a + 1) n (λ s l m. h s (omega (arith, l)) (omega (arith, m))) in
    let c = count-cons (λ s. is_in gates set s bits) a (range_with_len (a + 1) n) in
    let f = ap one_if (h a (omega arith) (omega arith)) in
    omega (arith, c, f, r)

count_same : (gates : List Gate) (x y : List Member) (bits : List Bool) (a n : ℕ) → ((s : ℕ) → a ≤ s → is_in gates x s bits ≡ is_in gates y s bits) → count_by (λ s. is_in gates x s bits) (range_with_len a n) ≡ count_by (λ s. is_in gates y s bits) (range_with_len a n)
count_same gates x y bits a zero h = refl
count_same gates x y bits a (suc n) h =
    count-cons (λ s. is_in gates x s bits) a (range_with_len (a + 1) n) ∙ ap (λ b. cond b 1 0 + count_by (λ s. is_in gates x s bits) (range_with_len (a + 1) n)) (h a (omega arith))
    ∙ ap (λ k. cond (is_in gates y a bits) 1 0 + k) (count_same gates x y bits (a + 1) n (λ s l. h s (omega (arith, l)))) ∙ sym (count-cons (λ s. is_in gates y s bits) a (range_with_len (a + 1) n))

-- the slots of a set from a on, where its first member stands at a or later
counted : (gates : List Gate) (bits : List Bool) (n a : ℕ) (set : List Member) → AscendFrom a set → AreBelow (a + n) set → count_true (wire_values gates (map (λ m. m.here) set) bits) ≡ count_by (λ s. is_in gates set s bits) (range_with_len a n)
counted gates bits n a [] asc h = sym (count_none gates [] bits a n (λ s l m. refl))
counted gates bits zero a (m ∷ ms) asc h = absurd (let l = less m.slot (a + 0) (both (nat_lt m.slot (a + 0)) (list_all (λ (x : Member). nat_lt x.slot (a + 0)) ms) h).0 in let k = asc.0 in omega (arith, l, k))
  where
    less : (x y : ℕ) → nat_lt x y ≡ true → x < y
    less x y h = grind (arith, nat_tests)
counted gates bits (suc n) a (m ∷ ms) asc h = by (eqb_tells m.slot a) (counted gates bits n (a + 1))
  where
    wires : List Member → List Bool
    wires set = wire_values gates (map (λ (x : Member). x.here) set) bits

    e : a + suc n ≡ (a + 1) + n
    e = omega arith

    rest_below : AreBelow ((a + 1) + n) ms
    rest_below = subst (λ k. AreBelow k ms) e (both (nat_lt m.slot (a + suc n)) (list_all (λ (x : Member). nat_lt x.slot (a + suc n)) ms) h).1

    hidden : (s : ℕ) → m.slot ≡ a → a + 1 ≤ s → is_in gates (m ∷ ms) s bits ≡ is_in gates ms s bits
    hidden s f l = ap (λ b. (b && wire_value gates m.here bits) || is_in gates ms s bits) (apart m.slot a s f l)
      where
        apart : (x a s : ℕ) → x ≡ a → a + 1 ≤ s → nat_eq x s ≡ false
        apart x a s f l = grind (arith, nat_tests)

    first : m.slot ≡ a → nat_eq m.slot a ≡ true → is_in gates (m ∷ ms) a bits ≡ wire_value gates m.here bits
    first f t =
        ap (λ b. (b && wire_value gates m.here bits) || is_in gates ms a bits) t
        ∙ ap (λ b. wire_value gates m.here bits || b) (none_below gates ms (m.slot + 1) a bits asc.1 (omega (arith, f))) ∙ plain (wire_value gates m.here bits)
      where
        plain : (b : Bool) → (b || false) ≡ b
        plain true = refl
        plain false = refl

    true_more : (b : Bool) (bs : List Bool) → count_true (b ∷ bs) ≡ cond b 1 0 + count_true bs
    true_more true bs = omega arith
    true_more false bs = omega arith

    by : ((nat_eq m.slot a ≡ true) × (m.slot ≡ a)) ⊎ ((nat_eq m.slot a ≡ false) × (m.slot ≢ a))
        → ((set : List Member) → AscendFrom (a + 1) set → AreBelow ((a + 1) + n) set → count_true (wire_values gates (map (λ m. m.here) set) bits) ≡ count_by (λ s. is_in gates set s bits) (range_with_len (a + 1) n))
        → count_true (wire_values gates (map (λ m. m.here) (m ∷ ms)) bits) ≡ count_by (λ s. is_in gates (m ∷ ms) s bits) (a ∷ range_with_len (a + 1) n)
    by (inl t) rest =
        true_more (wire_value gates m.here bits) (wires ms)
        ∙ ap (λ k. cond (wire_value gates m.here bits) 1 0 + k) (rest ms (subst (λ k. AscendFrom (k + 1) ms) t.1 asc.1) rest_below)
        ∙ ap (λ b. cond b 1 0 + count_by (λ s. is_in gates ms s bits) (range_with_len (a + 1) n)) (sym (first t.1 t.0))
        ∙ ap (λ k. cond (is_in gates (m ∷ ms) a bits) 1 0 + k) (sym (count_same gates (m ∷ ms) ms bits (a + 1) n (λ s l. hidden s t.1 l)))
        ∙ sym (count-cons (λ s. is_in gates (m ∷ ms) s bits) a (range_with_len (a + 1) n))
    by (inr t) rest =
        let l = asc.0 in
        let ne = t.1 in
        let above : a + 1 ≤ m.slot = more m.slot a l ne in
        rest (m ∷ ms) (above, asc.1) (subst (λ k. AreBelow k (m ∷ ms)) e h)
        ∙ nothing (count_by (λ s. is_in gates (m ∷ ms) s bits) (range_with_len (a + 1) n))
        ∙ ap (λ b. cond b 1 0 + count_by (λ s. is_in gates (m ∷ ms) s bits) (range_with_len (a + 1) n)) (sym (none_below gates (m ∷ ms) (a + 1) a bits (above, asc.1) (omega arith)))
        ∙ sym (count-cons (λ s. is_in gates (m ∷ ms) s bits) a (range_with_len (a + 1) n))
      where
        more : (k a : ℕ) → a ≤ k → k ≢ a → a + 1 ≤ k
        more k a h ne = grind (arith, common_steps)

pub counted_slots : (gates : List Gate) (set : List Member) (wires : List Wire) (bits : List Bool) (n : ℕ) → wires ≡ map (λ m. m.here) set → AscendFrom 0 set → AreBelow n set
    → count_true (wire_values gates wires bits) ≡ length (filter (λ s. is_in gates set s bits) (numbers_below n))
counted_slots gates set wires bits n e asc h =
    ap (λ ws. count_true (wire_values gates ws bits)) e ∙ counted gates bits n 0 set asc (subst (λ k. AreBelow k set) zero_more h) ∙ sym (length-filter (λ s. is_in gates set s bits) (numbers_below n))
  where
    zero_more : n ≡ 0 + n
    zero_more = omega arith

pub members_wires : (gates : List Gate) (set : List Member) (wires : List Wire) → wires ≡ map (λ m. m.here) set → All (λ m. IsWireOf gates m.here) set → AreWiresOf gates wires
members_wires gates set wires e h = subst (AreWiresOf gates) (sym e) (All-map (IsWireOf gates) (λ (m : Member). m.here) set h)

-- ---- no slot at all

pub none_counted : (p : ℕ → Bool) (xs : List ℕ) → nat_le (length (filter p xs)) 0 ≡ list_all (λ s. not (p s)) xs
none_counted p [] = zero_least
  where
    zero_least : nat_le 0 0 ≡ true
    zero_least = refl
none_counted p (x ∷ xs) = by (p x) (none_counted p xs)
  where
    more : (n : ℕ) → nat_le (suc n) 0 ≡ false
    more n = grind (arith, nat_tests)

    by : (b : Bool) → nat_le (length (filter p xs)) 0 ≡ list_all (λ s. not (p s)) xs → nat_le (length (cond b (x ∷ filter p xs) (filter p xs))) 0 ≡ (not b && list_all (λ s. not (p s)) xs)
    by true rest = more (length (filter p xs))
    by false rest = rest

pub same-all : (p q : ℕ → Bool) (xs : List ℕ) → ((s : ℕ) → p s ≡ q s) → list_all (λ s. not (p s)) xs ≡ list_all (λ s. not (q s)) xs
same-all p q [] h = refl
same-all p q (x ∷ xs) h = ap (λ b. not b && list_all (λ s. not (p s)) xs) (h x) ∙ ap (λ b. not (q x) && b) (same-all p q xs h)

-- ---- at least and at most as many

pub both_ways : (k n : ℕ) → (nat_le k n && nat_le n k) ≡ (n == k)
both_ways k n = grind (arith, nat_tests, common_steps)

-- marks for 0 or 1 are few
pub marks_few : (n m k : ℕ) → m ≡ n → k < 2 → 2 * m * (k + 1) + 3 ≤ 4 * n + 3
marks_few n m k e l =
    let h : k + 1 ≤ 2 = omega (arith, l) in
    let a = mul-le-mul_left (2 * m) h in
    omega (arith, a, e)

-- the test of a count against two limits, when the second count is made in a later circuit
pub both_counts : (k n : ℕ) (a b : Bool) → a ≡ nat_le k n → b ≡ nat_le n k → (a && b) ≡ (n == k)
both_counts k n a b e f = ap (λ c. c && b) e ∙ ap (λ c. nat_le k n && c) f ∙ both_ways k n

pub same-count : (p q : ℕ → Bool) (xs : List ℕ) → ((s : ℕ) → p s ≡ q s) → length (filter p xs) ≡ length (filter q xs)
same-count p q [] h = refl
same-count p q (x ∷ xs) h = by (p x) (q x) (h x) (same-count p q xs h)
  where
    by : (a b : Bool) → a ≡ b → length (filter p xs) ≡ length (filter q xs) → length (cond a (x ∷ filter p xs) (filter p xs)) ≡ length (cond b (x ∷ filter q xs) (filter q xs))
    by true true e r = ap suc r
    by true false e r = absurd (true≢false e)
    by false true e r = absurd (true≢false (sym e))
    by false false e r = r
