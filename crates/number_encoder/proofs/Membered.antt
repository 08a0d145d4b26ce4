-- The members of a set in order, and the parts that stand for them.
use Rattle.std.proofs.Common.{◌≡◌, ℕ, zero, suc, ◌+◌, ◌<◌, ◌≤◌, Bool, true, false, cond, ◌&&◌, ◌||◌, List, [], ◌∷◌, ◌++◌, length, map, Option, Some, None, refl, sym, ap, ◌∙◌, subst, arith, length-append, ℤ, ◌⊎◌, inl, inr, ◌≢◌}
use Rattle.std.specs.Prelude.{nat_eq, ◌==◌, nat_lt, pos, ◌+ℤ◌, IfSome}
use Rattle.std.specs.Option.{option_map, option_map_or}
use Rattle.std.specs.List.{All, filter, find, flat_map, list_all, range_with_len}
use Rattle.std.proofs.Math.Nat.{max-le}
use Rattle.std.proofs.lemmas.List.Elements.{All-head, All-tail, All-cons, All-append}
use Rattle.std.proofs.lemmas.Grind.{common_steps}
use Rattle.std.proofs.lemmas.Int.{ints}
use Rattle.std.proofs.lemmas.Bool.Decides.{eqb_tells}
use Rattle.bool_circuit.specs.declared.gate.Wire.{Wire}
use Rattle.bool_circuit.specs.declared.gate.Gate.{Gate}
use Rattle.bool_circuit.specs.Circuit.{wire_value, wire_values, IsWireOf, AreWiresOf, Extends}
use Rattle.bool_circuit.proofs.Extending.{wire_values_stay}
use Rattle.integer_bits.specs.declared.totals.Part.{Part}
use Rattle.integer_bits.specs.Numbers.{integer_of, integer_at, bit}
use Rattle.integer_bits.specs.Totals.{IsPartOf, ArePartsOf, count_true, sum_of_parts, where_true}
use Rattle.clf_tree.specs.Meaning.{total}
use Rattle.set_bits.specs.declared.sets.Member.{Member}
use Rattle.set_bits.specs.declared.layout.Layout.{Layout}
use Rattle.set_bits.specs.declared.layout.SlotBits.{SlotBits}
use Rattle.set_bits.specs.Sets.{is_in, AscendFrom, IsSetOf}
use Rattle.set_bits.specs.Showing.{value_bits}
use Rattle.shown_instance.specs.Shown.{is_at}
use Rattle.shown_instance.proofs.Order.{both}
use Rattle.shape_encoder.specs.Reading.{IsSlotOf}
use Rattle.shape_encoder.proofs.Steps.{bit_values, bit_wires, bits_stay}
use Rattle.told_constraints.specs.Told.{members, slot_integer}
use Rattle.node_encoder.specs.Listing.{AreBelow}
use Rattle.number_encoder.specs.Values.{present_values, present_slots, widest, part_for, summand_for}

-- ---- the slots that are in a set, ascending

filter-same : (p q : ℕ → Bool) (a k : ℕ) → ((s : ℕ) → a ≤ s → p s ≡ q s) → filter p (range_with_len a k) ≡ filter q (range_with_len a k)
filter-same p q a zero h = refl
filter-same p q a (suc k) h =
    ap (λ b. cond b (a ∷ filter p (range_with_len (a + 1) k)) (filter p (range_with_len (a + 1) k))) (h a (omega arith))
    ∙ ap (λ ss. cond (q a) (a ∷ ss) ss) (filter-same p q (a + 1) k (λ s l. h s (omega (arith, l))))

-- nothing is in a set below its first slot
not_below : (gates : List Gate) (set : List Member) (bits : List Bool) (a s : ℕ) → AscendFrom a set → s < a → is_in gates set s bits ≡ false
not_below gates [] bits a s h l = refl
not_below gates (m ∷ ms) bits a s h l =
    ap (λ b. (b && wire_value gates m.here bits) || is_in gates ms s bits) (apart m.slot s (omega (arith, h.0, l))) ∙ not_below gates ms bits (m.slot + 1) s h.1 (omega (arith, h.0, l))
  where
    apart : (x y : ℕ) → y < x → nat_eq x y ≡ false
    apart x y g = grind (arith, common_steps)

none_in : (gates : List Gate) (bits : List Bool) (xs : List ℕ) → filter (λ s. is_in gates [] s bits) xs ≡ []
none_in gates bits [] = refl
none_in gates bits (x ∷ xs) = none_in gates bits xs

later-from : (a b : ℕ) (ms : List Member) → b ≤ a → AscendFrom a ms → AscendFrom b ms
later-from a b [] l h = tt
later-from a b (m ∷ ms) l h = (omega (arith, l, h.0), h.1)

slots_from : (gates : List Gate) (bits : List Bool) (k a : ℕ) (set : List Member) → AscendFrom a set → list_all (λ m. nat_lt m.slot (a + k)) set ≡ true → filter (λ s. is_in gates set s bits) (range_with_len a k) ≡ present_slots gates set bits
slots_from gates bits k a [] h b = none_in gates bits (range_with_len a k)
slots_from gates bits zero a (m ∷ ms) h b = absurd (let l = below-first m.slot (a + 0) (list_all (λ n. nat_lt n.slot (a + 0)) ms) b in omega (arith, l, h.0))
  where
    below-first : (x y : ℕ) (t : Bool) → (nat_lt x y && t) ≡ true → x < y
    below-first x y t e = grind (arith, common_steps)
slots_from gates bits (suc k) a (m ∷ ms) h b = by (eqb_tells m.slot a) (slots_from gates bits k (a + 1) ms) (slots_from gates bits k (a + 1) (m ∷ ms))
  where
    below : list_all (λ n. nat_lt n.slot ((a + 1) + k)) (m ∷ ms) ≡ true
    below = let e : a + suc k ≡ (a + 1) + k = omega arith in subst (λ n. list_all (λ (x : Member). nat_lt x.slot n) (m ∷ ms) ≡ true) e b

    rest : List ℕ
    rest = filter (λ s. is_in gates (m ∷ ms) s bits) (range_with_len (a + 1) k)

    apart : (x y : ℕ) → x < y → nat_eq x y ≡ false
    apart x y g = grind (arith, common_steps)

    or_false : (t : Bool) → (t || false) ≡ t
    or_false true = refl
    or_false false = refl

    higher : (x y : ℕ) → y ≤ x → x ≢ y → y + 1 ≤ x
    higher x y l n = grind (arith, common_steps)

    by : ((m.slot == a) ≡ true × m.slot ≡ a) ⊎ ((m.slot == a) ≡ false × m.slot ≢ a)
        → (AscendFrom (a + 1) ms → list_all (λ n. nat_lt n.slot ((a + 1) + k)) ms ≡ true → filter (λ s. is_in gates ms s bits) (range_with_len (a + 1) k) ≡ present_slots gates ms bits)
        → (AscendFrom (a + 1) (m ∷ ms) → list_all (λ n. nat_lt n.slot ((a + 1) + k)) (m ∷ ms) ≡ true → rest ≡ present_slots gates (m ∷ ms) bits)
        → cond (is_in gates (m ∷ ms) a bits) (a ∷ rest) rest ≡ cond (wire_value gates m.here bits) (m.slot ∷ present_slots gates ms bits) (present_slots gates ms bits)
    by (inl e) without with_it =
        let later : AscendFrom (a + 1) ms = subst (λ n. AscendFrom (n + 1) ms) e.1 h.1 in
        let tail : rest ≡ present_slots gates ms bits =
        filter-same (λ s. is_in gates (m ∷ ms) s bits) (λ s. is_in gates ms s bits) (a + 1) k (λ s l. ap (λ t. (t && wire_value gates m.here bits) || is_in gates ms s bits) (apart m.slot s (omega (arith, l, e.1))))
        ∙ without later (both (nat_lt m.slot ((a + 1) + k)) (list_all (λ n. nat_lt n.slot ((a + 1) + k)) ms) below).1 in
        ap (λ t. cond ((t && wire_value gates m.here bits) || is_in gates ms a bits) (a ∷ rest) rest) e.0
        ∙ ap (λ t. cond (wire_value gates m.here bits || t) (a ∷ rest) rest) (not_below gates ms bits (a + 1) a later (omega arith))
        ∙ ap (λ t. cond t (a ∷ rest) rest) (or_false (wire_value gates m.here bits))
        ∙ ap (λ ss. cond (wire_value gates m.here bits) (a ∷ ss) ss) tail
        ∙ ap (λ n. cond (wire_value gates m.here bits) (n ∷ present_slots gates ms bits) (present_slots gates ms bits)) (sym e.1)
    by (inr e) without with_it =
        let above : a + 1 ≤ m.slot = higher m.slot a h.0 e.1 in
        ap (λ t. cond t (a ∷ rest) rest) (not_below gates (m ∷ ms) bits (a + 1) a (above, h.1) (omega arith)) ∙ with_it (above, h.1) below

pub slots_present : (gates : List Gate) (layout : Layout) (set : List Member) (bits : List Bool) → IsSetOf gates set → AreBelow (length layout.slots) set → members layout (λ s. is_in gates set s bits) ≡ present_slots gates set bits
unfolding members
slots_present gates layout set bits s b =
    let e : 0 + length layout.slots ≡ length layout.slots = omega arith in
    slots_from gates bits (length layout.slots) 0 set s.ascending (subst (λ n. list_all (λ (m : Member). nat_lt m.slot n) set ≡ true) (sym e) b)

-- ---- how many there are

pub count_present : (gates : List Gate) (set : List Member) (bits : List Bool) → count_true (wire_values gates (map (λ m. m.here) set) bits) ≡ length (present_slots gates set bits)
count_present gates [] bits = refl
count_present gates (m ∷ ms) bits = by (wire_value gates m.here bits) (count_present gates ms bits)
  where
    by : (b : Bool) → count_true (wire_values gates (map (λ x. x.here) ms) bits) ≡ length (present_slots gates ms bits)
        → bit b + count_true (wire_values gates (map (λ x. x.here) ms) bits) ≡ length (cond b (m.slot ∷ present_slots gates ms bits) (present_slots gates ms bits))
    by true rest = let e : 1 + count_true (wire_values gates (map (λ x. x.here) ms) bits) ≡ suc (length (present_slots gates ms bits)) = omega (arith, rest) in e
    by false rest = let e : 0 + count_true (wire_values gates (map (λ x. x.here) ms) bits) ≡ length (present_slots gates ms bits) = omega (arith, rest) in e

pub few_present : (gates : List Gate) (set : List Member) (bits : List Bool) → length (present_slots gates set bits) ≤ length set
few_present gates [] bits = omega arith
few_present gates (m ∷ ms) bits = by (wire_value gates m.here bits) (few_present gates ms bits)
  where
    by : (b : Bool) → length (present_slots gates ms bits) ≤ length ms → length (cond b (m.slot ∷ present_slots gates ms bits) (present_slots gates ms bits)) ≤ suc (length ms)
    by true rest = omega (arith, rest)
    by false rest = omega (arith, rest)

pub members_wired : (gates : List Gate) (set : List Member) → IsSetOf gates set → AreWiresOf gates (map (λ m. m.here) set)
members_wired gates set s = each set s.wires
  where
    each : (ms : List Member) → All (λ m. IsWireOf gates m.here) ms → AreWiresOf gates (map (λ m. m.here) ms)
    each [] h = λ k d l. absurd (omega (arith, l))
    each (m ∷ ms) h = All-cons (IsWireOf gates) m.here (map (λ x. x.here) ms) (All-head (λ (x : Member). IsWireOf gates x.here) m ms h) (each ms (All-tail (λ (x : Member). IsWireOf gates x.here) m ms h))

-- ---- the integer of a slot

-- what is found is one of the list
found_one : (P : SlotBits → Type 0) (p : SlotBits → Bool) (vs : List SlotBits) → All P vs → IfSome (find p vs) P
found_one P p [] h = tt
found_one P p (v ∷ vs) h = by (p v) (All-head P v vs h) (found_one P p vs (All-tail P v vs h))
  where
    by : (b : Bool) → P v → IfSome (find p vs) P → IfSome (cond b (Some v) (find p vs)) P
    by true mine rest = mine
    by false mine rest = rest

-- at bits that a slot's integer has, its wires spell it
slot_told : (gates : List Gate) (n : ℕ) (v : SlotBits) (bits : List Bool) → IsSlotOf gates n v → integer_at gates v.bits bits ≡ integer_of (value_bits bits v)
slot_told gates n v bits h = ap integer_of (bit_values gates v.bits bits h.bits)

pub slots_stay : (old new : List Gate) (k n : ℕ) (vs : List SlotBits) → Extends old new k → All (IsSlotOf old n) vs → All (IsSlotOf new n) vs
slots_stay old new k n [] x h = λ i d l. absurd (omega (arith, l))
slots_stay old new k n (v ∷ vs) x h =
    let mine = All-head (IsSlotOf old n) v vs h in
    All-cons (IsSlotOf new n) v vs (record { known = mine.known; some = mine.some; bits = bits_stay old new k v.bits x mine.bits }) (slots_stay old new k n vs x (All-tail (IsSlotOf old n) v vs h))

-- ---- each member as a part

part_right : (gates : List Gate) (layout : Layout) (none : Wire) (m : Member) → All (IsSlotOf gates (length layout.live)) layout.values → IsWireOf gates none → IsWireOf gates m.here → IsPartOf gates (part_for layout none m)
part_right gates layout none m laid n h = by (find (is_at m.slot) layout.values) (found_one (IsSlotOf gates (length layout.live)) (is_at m.slot) layout.values laid)
  where
    by : (o : Option SlotBits) → IfSome o (IsSlotOf gates (length layout.live)) → IsPartOf gates (record { here = m.here; bits = option_map_or (λ v. v.bits) o (none ∷ []) })
    by None g = record { here = h; wires = All-cons (IsWireOf gates) none [] n (λ k d l. absurd (omega (arith, l))); some = omega arith }
    by (Some v) g = record { here = h; wires = bit_wires gates v.bits g.bits; some = g.some }

pub parts_right : (gates : List Gate) (layout : Layout) (none : Wire) (set : List Member) → All (IsSlotOf gates (length layout.live)) layout.values → IsWireOf gates none → All (λ m. IsWireOf gates m.here) set → ArePartsOf gates (map (part_for layout none) set)
parts_right gates layout none [] laid n h = λ k d l. absurd (omega (arith, l))
parts_right gates layout none (m ∷ ms) laid n h =
    All-cons (IsPartOf gates) (part_for layout none m) (map (part_for layout none) ms) (part_right gates layout none m laid n (All-head (λ (x : Member). IsWireOf gates x.here) m ms h))
    (parts_right gates layout none ms laid n (All-tail (λ (x : Member). IsWireOf gates x.here) m ms h))

part_narrow : (layout : Layout) (none : Wire) (m : Member) (r : ℕ) → 0 < r → All (λ v. length v.bits ≡ r) layout.values → length (part_for layout none m).bits ≤ r
part_narrow layout none m r some h = by (find (is_at m.slot) layout.values) (found_one (λ v. length v.bits ≡ r) (is_at m.slot) layout.values h)
  where
    by : (o : Option SlotBits) → IfSome o (λ v. length v.bits ≡ r) → length (option_map_or (λ v. v.bits) o (none ∷ [])) ≤ r
    by None g = omega (arith, some)
    by (Some v) g = omega (arith, g)

pub parts_narrow : (layout : Layout) (none : Wire) (set : List Member) (r : ℕ) → 0 < r → All (λ v. length v.bits ≡ r) layout.values → widest (map (part_for layout none) set) ≤ r
parts_narrow layout none [] r some h = omega arith
parts_narrow layout none (m ∷ ms) r some h = max-le (part_narrow layout none m r some h) (parts_narrow layout none ms r some h)

part_told : (gates : List Gate) (layout : Layout) (none : Wire) (m : Member) (bits : List Bool) → All (IsSlotOf gates (length layout.live)) layout.values → wire_value gates none bits ≡ false → integer_at gates (part_for layout none m).bits bits ≡ slot_integer layout bits m.slot
unfolding slot_integer
part_told gates layout none m bits laid n = by (find (is_at m.slot) layout.values) (found_one (IsSlotOf gates (length layout.live)) (is_at m.slot) layout.values laid)
  where
    by : (o : Option SlotBits) → IfSome o (IsSlotOf gates (length layout.live)) → integer_at gates (option_map_or (λ v. v.bits) o (none ∷ [])) bits ≡ option_map_or (λ z. z) (option_map (λ v. integer_of (value_bits bits v)) o) (pos 0)
    by None g = ap (λ b. integer_of (b ∷ [])) n
    by (Some v) g = slot_told gates (length layout.live) v bits g

pub parts_told : (gates : List Gate) (layout : Layout) (none : Wire) (set : List Member) (bits : List Bool) → All (IsSlotOf gates (length layout.live)) layout.values → wire_value gates none bits ≡ false → present_values gates (map (part_for layout none) set) bits ≡ map (slot_integer layout bits) (present_slots gates set bits)
parts_told gates layout none [] bits laid n = refl
parts_told gates layout none (m ∷ ms) bits laid n =
    ap (λ z. cond (wire_value gates m.here bits) (z ∷ present_values gates (map (part_for layout none) ms) bits) (present_values gates (map (part_for layout none) ms) bits)) (part_told gates layout none m bits laid n)
    ∙ ap (λ zs. cond (wire_value gates m.here bits) (slot_integer layout bits m.slot ∷ zs) zs) (parts_told gates layout none ms bits laid n)
    ∙ by (wire_value gates m.here bits)
  where
    by : (b : Bool) → cond b (slot_integer layout bits m.slot ∷ map (slot_integer layout bits) (present_slots gates ms bits)) (map (slot_integer layout bits) (present_slots gates ms bits)) ≡ map (slot_integer layout bits) (cond b (m.slot ∷ present_slots gates ms bits) (present_slots gates ms bits))
    by true = refl
    by false = refl

-- ---- each member that has an integer as a summand

summand_right : (gates : List Gate) (layout : Layout) (m : Member) → All (IsSlotOf gates (length layout.live)) layout.values → IsWireOf gates m.here → ArePartsOf gates (summand_for layout m)
summand_right gates layout m laid h = by (find (is_at m.slot) layout.values) (found_one (IsSlotOf gates (length layout.live)) (is_at m.slot) layout.values laid)
  where
    by : (o : Option SlotBits) → IfSome o (IsSlotOf gates (length layout.live)) → ArePartsOf gates (option_map_or (λ v. record { here = m.here; bits = v.bits } ∷ []) o [])
    by None g = λ k d l. absurd (omega (arith, l))
    by (Some v) g = All-cons (IsPartOf gates) (record { here = m.here; bits = v.bits }) [] (record { here = h; wires = bit_wires gates v.bits g.bits; some = g.some }) (λ k d l. absurd (omega (arith, l)))

pub summands_right : (gates : List Gate) (layout : Layout) (set : List Member) → All (IsSlotOf gates (length layout.live)) layout.values → All (λ m. IsWireOf gates m.here) set → ArePartsOf gates (flat_map (summand_for layout) set)
summands_right gates layout [] laid h = λ k d l. absurd (omega (arith, l))
summands_right gates layout (m ∷ ms) laid h =
    All-append (IsPartOf gates) (summand_for layout m) (flat_map (summand_for layout) ms) (summand_right gates layout m laid (All-head (λ (x : Member). IsWireOf gates x.here) m ms h))
    (summands_right gates layout ms laid (All-tail (λ (x : Member). IsWireOf gates x.here) m ms h))

pub summands_few : (layout : Layout) (set : List Member) → length (flat_map (summand_for layout) set) ≤ length set
summands_few layout [] = omega arith
summands_few layout (m ∷ ms) =
    let r = summands_few layout ms in
    let a = length-append (summand_for layout m) (flat_map (summand_for layout) ms) in
    let o = one (find (is_at m.slot) layout.values) in
    omega (arith, r, a, o)
  where
    one : (o : Option SlotBits) → length {A = Part} (option_map_or (λ v. record { here = m.here; bits = v.bits } ∷ []) o []) ≤ 1
    one None = omega arith
    one (Some v) = omega arith

-- each is no wider than the range
pub summands_narrow : (layout : Layout) (set : List Member) (r : ℕ) → All (λ v. length v.bits ≡ r) layout.values → All (λ p. length p.bits ≤ r) (flat_map (summand_for layout) set)
summands_narrow layout [] r h = λ k d l. absurd (omega (arith, l))
summands_narrow layout (m ∷ ms) r h =
    All-append (λ (p : Part). length p.bits ≤ r) (summand_for layout m) (flat_map (summand_for layout) ms) (by (find (is_at m.slot) layout.values) (found_one (λ v. length v.bits ≡ r) (is_at m.slot) layout.values h)) (summands_narrow layout ms r h)
  where
    by : (o : Option SlotBits) → IfSome o (λ v. length v.bits ≡ r) → All (λ (p : Part). length p.bits ≤ r) (option_map_or (λ v. record { here = m.here; bits = v.bits } ∷ []) o [])
    by None g = λ k d l. absurd (omega (arith, l))
    by (Some v) g = All-cons (λ (p : Part). length p.bits ≤ r) (record { here = m.here; bits = v.bits }) [] (omega (arith, g)) (λ k d l. absurd (omega (arith, l)))

sum-append : (gates : List Gate) (ps qs : List Part) (bits : List Bool) → sum_of_parts gates (ps ++ qs) bits ≡ sum_of_parts gates ps bits +ℤ sum_of_parts gates qs bits
sum-append gates [] qs bits = omega (arith, ints)
sum-append gates (p ∷ ps) qs bits =
    let e = sum-append gates ps qs bits in
    ap (λ z. where_true (wire_value gates p.here bits) (integer_at gates p.bits bits) +ℤ z) e ∙ regroup (where_true (wire_value gates p.here bits) (integer_at gates p.bits bits)) (sum_of_parts gates ps bits) (sum_of_parts gates qs bits)
  where
    regroup : (x y z : ℤ) → x +ℤ (y +ℤ z) ≡ (x +ℤ y) +ℤ z
    regroup x y z = omega (arith, ints)

one_told : (gates : List Gate) (layout : Layout) (m : Member) (bits : List Bool) → All (IsSlotOf gates (length layout.live)) layout.values → sum_of_parts gates (summand_for layout m) bits ≡ where_true (wire_value gates m.here bits) (slot_integer layout bits m.slot)
unfolding slot_integer
one_told gates layout m bits laid = by (find (is_at m.slot) layout.values) (found_one (IsSlotOf gates (length layout.live)) (is_at m.slot) layout.values laid)
  where
    more-none : (x : ℤ) → x +ℤ pos 0 ≡ x
    more-none x = omega (arith, ints)

    no_value : (b : Bool) → pos 0 ≡ where_true b (pos 0)
    no_value true = refl
    no_value false = refl

    by : (o : Option SlotBits) → IfSome o (IsSlotOf gates (length layout.live))
        → sum_of_parts gates (option_map_or (λ v. record { here = m.here; bits = v.bits } ∷ []) o []) bits ≡ where_true (wire_value gates m.here bits) (option_map_or (λ z. z) (option_map (λ v. integer_of (value_bits bits v)) o) (pos 0))
    by None g = no_value (wire_value gates m.here bits)
    by (Some v) g = more-none (where_true (wire_value gates m.here bits) (integer_at gates v.bits bits)) ∙ ap (where_true (wire_value gates m.here bits)) (slot_told gates (length layout.live) v bits g)

pub summands_told : (gates : List Gate) (layout : Layout) (set : List Member) (bits : List Bool) → All (IsSlotOf gates (length layout.live)) layout.values → sum_of_parts gates (flat_map (summand_for layout) set) bits ≡ total (map (slot_integer layout bits) (present_slots gates set bits))
summands_told gates layout [] bits laid = refl
summands_told gates layout (m ∷ ms) bits laid =
    sum-append gates (summand_for layout m) (flat_map (summand_for layout) ms) bits
    ∙ ap (λ z. sum_of_parts gates (summand_for layout m) bits +ℤ z) (summands_told gates layout ms bits laid)
    ∙ ap (λ z. z +ℤ total (map (slot_integer layout bits) (present_slots gates ms bits))) (one_told gates layout m bits laid)
    ∙ by (wire_value gates m.here bits)
  where
    none-more : (x : ℤ) → pos 0 +ℤ x ≡ x
    none-more x = omega (arith, ints)

    by : (b : Bool) → where_true b (slot_integer layout bits m.slot) +ℤ total (map (slot_integer layout bits) (present_slots gates ms bits)) ≡ total (map (slot_integer layout bits) (cond b (m.slot ∷ present_slots gates ms bits) (present_slots gates ms bits)))
    by true = refl
    by false = none-more (total (map (slot_integer layout bits) (present_slots gates ms bits)))

-- ---- in a circuit that grows

pub members_stay : (old new : List Gate) (k : ℕ) (set : List Member) → Extends old new k → All (λ m. IsWireOf old m.here) set → All (λ m. IsWireOf new m.here) set
members_stay old new k [] x h = λ i d l. absurd (omega (arith, l))
members_stay old new k (m ∷ ms) x h =
    let mine : IsWireOf old m.here = All-head (λ (y : Member). IsWireOf old y.here) m ms h in
    All-cons (λ (y : Member). IsWireOf new y.here) m ms (omega (arith, mine, x.at_least)) (members_stay old new k ms x (All-tail (λ (y : Member). IsWireOf old y.here) m ms h))

pub present_slots_stay : (old new : List Gate) (k : ℕ) (set : List Member) (bits : List Bool) → Extends old new k → All (λ m. IsWireOf old m.here) set → present_slots new set bits ≡ present_slots old set bits
present_slots_stay old new k [] bits x h = refl
present_slots_stay old new k (m ∷ ms) bits x h =
    ap (λ b. cond b (m.slot ∷ present_slots new ms bits) (present_slots new ms bits)) (x.keeps m.here (All-head (λ (y : Member). IsWireOf old y.here) m ms h) bits)
    ∙ ap (λ ss. cond (wire_value old m.here bits) (m.slot ∷ ss) ss) (present_slots_stay old new k ms bits x (All-tail (λ (y : Member). IsWireOf old y.here) m ms h))

-- what the parts of a set tell
pub parts_of_told : (old new : List Gate) (layout : Layout) (none : Wire) (set : List Member) (ps : List Part) (k : ℕ) → ps ≡ map (part_for layout none) set → IsSetOf old set → All (IsSlotOf old (length layout.live)) layout.values → Extends old new k → ((bits : List Bool) → wire_value new none bits ≡ false)
    → (bits : List Bool) → AreBelow (length layout.slots) set → present_values new ps bits ≡ map (slot_integer layout bits) (members layout (λ s. is_in old set s bits))
parts_of_told old new layout none set ps k e s laid x n bits b =
    ap (λ qs. present_values new qs bits) e
    ∙ parts_told new layout none set bits (slots_stay old new k (length layout.live) layout.values x laid) (n bits)
    ∙ ap (map (slot_integer layout bits)) (present_slots_stay old new k set bits x s.wires ∙ sym (slots_present old layout set bits s b))

pub parts_of_right : (old new : List Gate) (layout : Layout) (none : Wire) (set : List Member) (ps : List Part) (k : ℕ) → ps ≡ map (part_for layout none) set → IsSetOf old set → All (IsSlotOf old (length layout.live)) layout.values → Extends old new k → IsWireOf new none → ArePartsOf new ps
parts_of_right old new layout none set ps k e s laid x n =
    subst (ArePartsOf new) (sym e) (parts_right new layout none set (slots_stay old new k (length layout.live) layout.values x laid) n (members_stay old new k set x s.wires))

pub parts_of_narrow : (layout : Layout) (none : Wire) (set : List Member) (ps : List Part) (v r : ℕ) → ps ≡ map (part_for layout none) set → 0 < r → v ≡ r → All (λ w. length w.bits ≡ v) layout.values → widest ps ≤ r
parts_of_narrow layout none set ps v r e some same h =
    subst (λ qs. widest qs ≤ r) (sym e) (parts_narrow layout none set r some (subst (λ n. All (λ (w : SlotBits). length w.bits ≡ n) layout.values) same h))

-- what a number as a part tells
pub number_told : (old new : List Gate) (here : Wire) (number : List Wire) (ps : List Part) (k : ℕ) → ps ≡ record { here = here; bits = number } ∷ [] → AreWiresOf old number → Extends old new k → ((bits : List Bool) → wire_value new here bits ≡ true)
    → (bits : List Bool) → present_values new ps bits ≡ integer_at old number bits ∷ []
number_told old new here number ps k e ws x v bits =
    ap (λ qs. present_values new qs bits) e ∙ ap (λ b. cond b (integer_at new number bits ∷ []) []) (v bits) ∙ ap (λ bs. integer_of bs ∷ []) (wire_values_stay old new k number bits x ws)
