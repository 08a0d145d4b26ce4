-- At most one list of bits shows an instance.
use Rattle.std.proofs.Common.{◌≡◌, ℕ, ◌+◌, Bool, true, false, List, [], ◌∷◌, ◌++◌, length, map, get_or, Option, Some, None, refl, sym, ap, ◌∙◌, arith, append-nil}
use Rattle.std.specs.Prelude.{not, ℤ, pos, ◌+ℤ◌, ◌*ℤ◌}
use Rattle.std.specs.List.{list_all, range_with_len}
use Rattle.std.proofs.lemmas.Bool.{true≢false}
use Rattle.std.proofs.lemmas.Bool.Decides.{Decides-int_eq}
use Rattle.std.proofs.lemmas.Int.{ints}
use Rattle.std.proofs.lemmas.Simd.{map-map}
use Rattle.std.proofs.lemmas.List.{length-map, map-append}
use Rattle.bool_circuit.specs.declared.gate.Wire.{Wire}
use Rattle.bool_circuit.specs.Circuit.{entry}
use Rattle.integer_bits.specs.Numbers.{bit, integer_of}
use Rattle.clf_tree.specs.declared.model.Clafer.{Clafer}
use Rattle.clf_tree.specs.declared.instance.Entry.{Entry}
use Rattle.clf_tree.specs.declared.scopes.Scopes.{Scopes}
use Rattle.set_bits.specs.declared.layout.Edge.{Edge}
use Rattle.set_bits.specs.declared.layout.SlotBits.{SlotBits}
use Rattle.set_bits.specs.declared.layout.Layout.{Layout}
use Rattle.set_bits.specs.Fitting.{Fits, slot, value_wires, size}
use Rattle.set_bits.specs.Showing.{Shows, is_value, integer_target_in, value_bits}
use Rattle.shown_instance.proofs.Order.{both}
use Rattle.shown_instance.proofs.Reading.{read_range, range-append}

-- ---- bits that spell the same integer

lowest_same : (a b : Bool) (x y : ℤ) → pos (bit a) +ℤ pos 2 *ℤ x ≡ pos (bit b) +ℤ pos 2 *ℤ y → (a ≡ b) × (x ≡ y)
lowest_same true true x y e = (refl, omega (arith, ints, e))
lowest_same false false x y e = (refl, omega (arith, ints, e))
lowest_same true false x y e = absurd (omega (arith, ints, e))
lowest_same false true x y e = absurd (omega (arith, ints, e))

sign_same : (a b : Bool) → integer_of (a ∷ []) ≡ integer_of (b ∷ []) → a ≡ b
sign_same true true e = refl
sign_same false false e = refl
sign_same true false e = absurd (omega (arith, ints, e))
sign_same false true e = absurd (omega (arith, ints, e))

spelled_once : (xs ys : List Bool) → length xs ≡ length ys → integer_of xs ≡ integer_of ys → xs ≡ ys
spelled_once [] [] l e = refl
spelled_once [] (y ∷ ys) l e = absurd (omega (arith, l))
spelled_once (x ∷ xs) [] l e = absurd (omega (arith, l))
spelled_once (x ∷ []) (y ∷ []) l e = ap (λ b. b ∷ []) (sign_same x y e)
spelled_once (x ∷ []) (y ∷ d ∷ ys) l e = absurd (omega (arith, l))
spelled_once (x ∷ c ∷ xs) (y ∷ []) l e = absurd (omega (arith, l))
spelled_once (x ∷ c ∷ xs) (y ∷ d ∷ ys) l e =
    let p = lowest_same x y (integer_of (c ∷ xs)) (integer_of (d ∷ ys)) e in
    ap (λ b. b ∷ c ∷ xs) p.0 ∙ ap (λ bs. y ∷ bs) (spelled_once (c ∷ xs) (d ∷ ys) (omega (arith, l)) p.1)

false_once : (xs ys : List Bool) → length xs ≡ length ys → list_all not xs ≡ true → list_all not ys ≡ true → xs ≡ ys
false_once [] [] l a b = refl
false_once [] (y ∷ ys) l a b = absurd (omega (arith, l))
false_once (x ∷ xs) [] l a b = absurd (omega (arith, l))
false_once (true ∷ xs) (y ∷ ys) l a b = absurd (true≢false (sym a))
false_once (false ∷ xs) (true ∷ ys) l a b = absurd (true≢false (sym b))
false_once (false ∷ xs) (false ∷ ys) l a b = ap (λ bs. false ∷ bs) (false_once xs ys (omega (arith, l)) a b)

value_once : (o : Option ℤ) (xs ys : List Bool) → length xs ≡ length ys → is_value o xs ≡ true → is_value o ys ≡ true → xs ≡ ys
value_once None xs ys l a b = false_once xs ys l a b
value_once (Some z) xs ys l a b = spelled_once xs ys l ((Decides-int_eq (integer_of xs) z).0 a ∙ sym ((Decides-int_eq (integer_of ys) z).0 b))

-- ---- wires of which two lists of bits say the same

abbrev read : List Bool → List ℕ → List Bool
read bits ns = map (λ k. get_or bits k false) ns

part_same : {X : Type 0} (number : X → ℕ) (xs : List X) (some others : List Bool) (ns : List ℕ) → map number xs ≡ ns → map (λ x. get_or some (number x) false) xs ≡ map (λ x. get_or others (number x) false) xs → read some ns ≡ read others ns
part_same number xs some others ns wired said =
    ap (read some) (sym wired) ∙ map-map (λ k. get_or some k false) number xs ∙ said ∙ sym (map-map (λ k. get_or others k false) number xs) ∙ ap (read others) wired

values_same : (of : SlotBits → Option ℤ) (some others : List Bool) (values : List SlotBits) → list_all (λ v. is_value (of v) (value_bits some v)) values ≡ true → list_all (λ v. is_value (of v) (value_bits others v)) values ≡ true
    → read some (value_wires values) ≡ read others (value_wires values)
values_same of some others [] a b = refl
values_same of some others (v ∷ vs) a b =
    let p = both (is_value (of v) (value_bits some v)) (list_all (λ u. is_value (of u) (value_bits some u)) vs) a in
    let q = both (is_value (of v) (value_bits others v)) (list_all (λ u. is_value (of u) (value_bits others u)) vs) b in
    let long : length (value_bits some v) ≡ length (value_bits others v) = length-map v.bits (entry some) ∙ sym (length-map v.bits (entry others)) in
    let here : value_bits some v ≡ value_bits others v = value_once (of v) (value_bits some v) (value_bits others v) long p.0 q.0 in
    let mine : List ℕ = map (λ (w : Wire). w.number) v.bits in
    map-append (λ k. get_or some k false) mine (value_wires vs)
    ∙ ap (λ bs. bs ++ read some (value_wires vs)) (part_same (λ (w : Wire). w.number) v.bits some others mine refl here)
    ∙ ap (λ bs. read others mine ++ bs) (values_same of some others vs p.1 q.1)
    ∙ sym (map-append (λ k. get_or others k false) mine (value_wires vs))

-- ---- all wires of a layout

whole_read : (bits : List Bool) (n : ℕ) → length bits ≡ n → read bits (range_with_len 0 n) ≡ bits
whole_read bits n e =
    ap (λ k. read bits (range_with_len 0 k)) (sym e) ∙ ap (λ bs. read bs (range_with_len 0 (length bits))) (sym (append-nil bits)) ∙ read_range [] bits []

joined : (some others : List Bool) (m n : ℕ) → read some (range_with_len 0 m) ≡ read others (range_with_len 0 m) → read some (range_with_len m n) ≡ read others (range_with_len m n) → read some (range_with_len 0 (m + n)) ≡ read others (range_with_len 0 (m + n))
joined some others m n a b =
    let both_ranges : range_with_len 0 (m + n) ≡ range_with_len 0 m ++ range_with_len m n = range-append 0 m n ∙ ap (λ k. range_with_len 0 m ++ range_with_len k n) zero_more in
    ap (read some) both_ranges ∙ map-append (λ k. get_or some k false) (range_with_len 0 m) (range_with_len m n)
    ∙ ap (λ bs. bs ++ read some (range_with_len m n)) a ∙ ap (λ bs. read others (range_with_len 0 m) ++ bs) b
    ∙ sym (map-append (λ k. get_or others k false) (range_with_len 0 m) (range_with_len m n)) ∙ ap (read others) (sym both_ranges)
  where
    zero_more : 0 + m ≡ m
    zero_more = omega arith

pub shown_once : (clafers : List Clafer) (scopes : Scopes) (layout : Layout) (some others : List Bool) (entries : List Entry) → Fits clafers scopes layout → Shows clafers scopes layout some entries → Shows clafers scopes layout others entries → some ≡ others
shown_once clafers scopes layout some others entries f a b =
    sym (whole_read some (size layout) a.size)
    ∙ joined some others (slots + parents + targets) numbers (joined some others (slots + parents) targets (joined some others slots parents lives_same parents_same) targets_same) numbers_same
    ∙ whole_read others (size layout) b.size
  where
    slots : ℕ
    slots = length layout.slots

    parents : ℕ
    parents = length layout.parents

    targets : ℕ
    targets = length layout.targets

    numbers : ℕ
    numbers = length (value_wires layout.values)

    lives_same : read some (range_with_len 0 slots) ≡ read others (range_with_len 0 slots)
    lives_same = part_same (λ (w : Wire). w.number) layout.live some others (range_with_len 0 slots) f.live (a.live ∙ sym b.live)

    parents_same : read some (range_with_len slots parents) ≡ read others (range_with_len slots parents)
    parents_same = part_same (λ (e : Edge). e.here.number) layout.parents some others (range_with_len slots parents) f.parent_wires (a.parents ∙ sym b.parents)

    targets_same : read some (range_with_len (slots + parents) targets) ≡ read others (range_with_len (slots + parents) targets)
    targets_same = part_same (λ (e : Edge). e.here.number) layout.targets some others (range_with_len (slots + parents) targets) f.target_wires (a.targets ∙ sym b.targets)

    numbers_same : read some (range_with_len (slots + parents + targets) numbers) ≡ read others (range_with_len (slots + parents + targets) numbers)
    numbers_same =
        ap (read some) (sym f.integer_wires) ∙ values_same (λ v. integer_target_in entries (slot layout.slots v.slot)) some others layout.values a.values b.values ∙ ap (read others) f.integer_wires
