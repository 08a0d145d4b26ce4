-- Counts and sums of the members of a set.
use Rattle.std.proofs.Common.{◌≡◌, ℕ, ◌+◌, ◌*◌, ◌<◌, ◌≤◌, Bool, List, length, map, min, sym, ap, ◌∙◌, subst, arith}
use Rattle.std.specs.Prelude.{pos}
use Rattle.std.specs.List.{All, flat_map}
use Rattle.std.proofs.Math.Nat.{min-le_left}
use Rattle.std.proofs.lemmas.Nat.{mul-le}
use Rattle.std.proofs.lemmas.List.{length-map}
use Rattle.bool_circuit.specs.declared.gate.Wire.{Wire}
use Rattle.bool_circuit.specs.declared.gate.Gate.{Gate}
use Rattle.bool_circuit.specs.Circuit.{wire_values, AreWiresOf}
use Rattle.integer_bits.specs.declared.totals.Part.{Part}
use Rattle.integer_bits.specs.Numbers.{integer_at, cut}
use Rattle.integer_bits.specs.Totals.{ArePartsOf, count_true, sum_of_parts}
use Rattle.clf_tree.specs.declared.scopes.Scopes.{Scopes}
use Rattle.clf_tree.specs.CoreWeights.{binary_digits, range_width}
use Rattle.clf_tree.specs.Meaning.{total}
use Rattle.set_bits.specs.declared.sets.Member.{Member}
use Rattle.set_bits.specs.declared.layout.Layout.{Layout}
use Rattle.set_bits.specs.declared.layout.SlotBits.{SlotBits}
use Rattle.set_bits.specs.Sets.{is_in, IsSetOf}
use Rattle.shape_encoder.specs.Reading.{IsSlotOf}
use Rattle.told_constraints.specs.Told.{members, slot_integer}
use Rattle.node_encoder.specs.Listing.{AreBelow}
use Rattle.number_encoder.specs.Values.{present_slots, summand_for}
use Rattle.number_encoder.specs.Costs.{count_width, total_width, count_cost, total_cost}
use Rattle.number_encoder.proofs.Ranges.{range_some}
use Rattle.number_encoder.proofs.Bounded.{cut_to_least, count_fits, sum_fits}
use Rattle.number_encoder.proofs.Membered.{slots_present, count_present, few_present, members_wired, summands_right, summands_few, summands_narrow, summands_told}

-- ---- the width

pub least_some : (width v n : ℕ) → 0 < width → 0 < v → n ≡ min width v → 0 < n
least_some width v n h k e = omega (arith, h, k, e)

pub least_within : (width v n : ℕ) → n ≡ min width v → n ≤ width
least_within width v n e = let m = min-le_left width v in omega (arith, e, m)

-- ---- counts

pub count_room : (width needed : ℕ) (set : List Member) (ws : List Wire) → needed ≡ min width (binary_digits (length set) + 1) → ws ≡ map (λ m. m.here) set → 32 * ((length ws + 1) * (needed + 1)) ≡ count_cost width (length set)
unfolding count_cost count_width
count_room width needed set ws e w = ap (λ n. 32 * ((n + 1) * (needed + 1))) (ap length w ∙ length-map set (λ (m : Member). m.here)) ∙ ap (λ n. 32 * ((length set + 1) * (n + 1))) e

pub count_wired : (gates : List Gate) (set : List Member) (ws : List Wire) → ws ≡ map (λ m. m.here) set → IsSetOf gates set → AreWiresOf gates ws
count_wired gates set ws w s = subst (AreWiresOf gates) (sym w) (members_wired gates set s)

pub count_told : (old new : List Gate) (set : List Member) (ws number : List Wire) (width needed : ℕ) → IsSetOf old set → 0 < width → needed ≡ min width (binary_digits (length set) + 1) → ws ≡ map (λ m. m.here) set
    → ((bits : List Bool) → integer_at new number bits ≡ cut needed (pos (count_true (wire_values old ws bits))))
    → (bits : List Bool) (layout : Layout) → AreBelow (length layout.slots) set → integer_at new number bits ≡ cut width (pos (length (members layout (λ s. is_in old set s bits))))
count_told old new set ws number width needed s some e w v bits layout b =
    let c : count_true (wire_values old ws bits) ≡ length (members layout (λ s. is_in old set s bits)) =
    ap (λ us. count_true (wire_values old us bits)) w ∙ count_present old set bits ∙ ap length (sym (slots_present old layout set bits s b)) in
    let f : count_true (wire_values old ws bits) ≤ length set =
    let k = few_present old set bits in let t : count_true (wire_values old ws bits) ≡ length (present_slots old set bits) = ap (λ us. count_true (wire_values old us bits)) w ∙ count_present old set bits in omega (arith, k, t) in
    v bits ∙ ap (λ n. cut n (pos (count_true (wire_values old ws bits)))) e
    ∙ cut_to_least width (binary_digits (length set) + 1) (pos (count_true (wire_values old ws bits))) some (omega arith) (count_fits (count_true (wire_values old ws bits)) (length set) f)
    ∙ ap (λ n. cut width (pos n)) c

-- ---- sums

pub total_room : (scopes : Scopes) (layout : Layout) (width needed : ℕ) (set : List Member) (ps : List Part) → needed ≡ min width (range_width scopes + binary_digits (length set)) → ps ≡ flat_map (summand_for layout) set → 32 * ((length ps + 1) * (needed + 1)) ≤ total_cost scopes width (length set)
unfolding total_cost total_width
total_room scopes layout width needed set ps e p =
    let f : length ps ≤ length set = subst (λ qs. length qs ≤ length set) (sym p) (summands_few layout set) in
    let m = mul-le (length ps + 1) (needed + 1) (length set + 1) (min width (range_width scopes + binary_digits (length set)) + 1) (omega (arith, f)) (omega (arith, e)) in
    omega (arith, m)

pub total_right : (gates : List Gate) (layout : Layout) (set : List Member) (ps : List Part) → ps ≡ flat_map (summand_for layout) set → IsSetOf gates set → All (IsSlotOf gates (length layout.live)) layout.values → ArePartsOf gates ps
total_right gates layout set ps p s laid = subst (ArePartsOf gates) (sym p) (summands_right gates layout set laid s.wires)

pub total_told : (old new : List Gate) (scopes : Scopes) (layout : Layout) (set : List Member) (ps : List Part) (number : List Wire) (width needed v : ℕ) → IsSetOf old set → All (IsSlotOf old (length layout.live)) layout.values → v ≡ range_width scopes → All (λ w. length w.bits ≡ v) layout.values
    → 0 < width → needed ≡ min width (range_width scopes + binary_digits (length set)) → ps ≡ flat_map (summand_for layout) set
    → ((bits : List Bool) → integer_at new number bits ≡ cut needed (sum_of_parts old ps bits))
    → (bits : List Bool) → AreBelow (length layout.slots) set → integer_at new number bits ≡ cut width (total (map (slot_integer layout bits) (members layout (λ s. is_in old set s bits))))
total_told old new scopes layout set ps number width needed v s laid same narrow some e p told bits b =
    let r = range_some scopes in
    let n : All (λ q. length q.bits ≤ range_width scopes) ps =
    subst (λ qs. All (λ (q : Part). length q.bits ≤ range_width scopes) qs) (sym p) (summands_narrow layout set (range_width scopes) (subst (λ k. All (λ (w : SlotBits). length w.bits ≡ k) layout.values) same narrow)) in
    let f : length ps ≤ length set = subst (λ qs. length qs ≤ length set) (sym p) (summands_few layout set) in
    told bits ∙ ap (λ k. cut k (sum_of_parts old ps bits)) e
    ∙ cut_to_least width (range_width scopes + binary_digits (length set)) (sum_of_parts old ps bits) some (omega (arith, r)) (sum_fits old ps bits (range_width scopes) (length set) r f (total_right old layout set ps p s laid) n)
    ∙ ap (λ qs. cut width (sum_of_parts old qs bits)) p
    ∙ ap (cut width) (summands_told old layout set bits laid ∙ ap (λ ss. total (map (slot_integer layout bits) ss)) (sym (slots_present old layout set bits s b)))
