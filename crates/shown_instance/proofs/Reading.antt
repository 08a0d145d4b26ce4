-- Bits in their order, read by the wires of a layout.
use Rattle.std.proofs.Common.{◌≡◌, ℕ, zero, suc, ◌+◌, Bool, true, false, ◌&&◌, List, [], ◌∷◌, ◌++◌, length, map, get_or, refl, sym, ap, ◌∙◌, arith, append_assoc}
use Rattle.std.specs.Prelude.{◌==◌}
use Rattle.std.specs.List.{flat_map, list_all, range_with_len}
use Rattle.std.proofs.lemmas.Bool.{true≢false}
use Rattle.std.proofs.lemmas.Grind.{common_steps}
use Rattle.std.proofs.lemmas.Simd.{map-map}
use Rattle.std.proofs.Math.Seq.{get_or-append_seam}
use Rattle.std.proofs.lemmas.List.{length-append, length-map, length_push}
use Rattle.std.proofs.lemmas.List.FromFn.{length-range_with_len}
use Rattle.bool_circuit.specs.declared.gate.Wire.{Wire}
use Rattle.clf_tree.specs.declared.instance.Node.{Node}
use Rattle.clf_tree.specs.declared.instance.Entry.{Entry}
use Rattle.set_bits.specs.declared.layout.SlotBits.{SlotBits}
use Rattle.set_bits.specs.Fitting.{slot, value_wires}
use Rattle.set_bits.specs.Showing.{integer_target_in, is_value, value_bits}
use Rattle.shown_instance.specs.Packed.{are_numbers}
use Rattle.shown_instance.proofs.Order.{both, together}

pub read_range : (front mid back : List Bool) → map (λ k. get_or (front ++ (mid ++ back)) k false) (range_with_len (length front) (length mid)) ≡ mid
read_range front [] back = refl
read_range front (x ∷ mid) back =
    let first : get_or (front ++ (x ∷ mid ++ back)) (length front) false ≡ x = get_or-append_seam front x (mid ++ back) false in
    let moved : (front ++ x ∷ []) ++ (mid ++ back) ≡ front ++ (x ∷ mid ++ back) = append_assoc front (x ∷ []) (mid ++ back) in
    let longer : length (front ++ x ∷ []) ≡ length front + 1 = length_push front x in
    let rest : map (λ k. get_or (front ++ (x ∷ mid ++ back)) k false) (range_with_len (length front + 1) (length mid)) ≡ mid =
    ap (λ bs. map (λ k. get_or bs k false) (range_with_len (length front + 1) (length mid))) (sym moved)
    ∙ ap (λ n. map (λ k. get_or ((front ++ x ∷ []) ++ (mid ++ back)) k false) (range_with_len n (length mid))) (sym longer)
    ∙ read_range (front ++ x ∷ []) mid back in
    ap (λ b. b ∷ map (λ k. get_or (front ++ (x ∷ mid ++ back)) k false) (range_with_len (length front + 1) (length mid))) first ∙ ap (λ bs. x ∷ bs) rest

-- what wires read whose numbers follow those of the bits before
pub read_part : {X : Type 0} (number : X → ℕ) (xs : List X) (front mid back bits : List Bool) → bits ≡ front ++ (mid ++ back) → map number xs ≡ range_with_len (length front) (length mid) → map (λ x. get_or bits (number x) false) xs ≡ mid
read_part number xs front mid back bits e wired =
    sym (map-map (λ k. get_or bits k false) number xs) ∙ ap (map (λ k. get_or bits k false)) wired
    ∙ ap (λ bs. map (λ k. get_or bs k false) (range_with_len (length front) (length mid))) e ∙ read_range front mid back

-- ---- the integers

pub range-append : (a m n : ℕ) → range_with_len a (m + n) ≡ range_with_len a m ++ range_with_len (a + m) n
range-append a zero n = let e : a + 0 ≡ a = omega arith in let z : 0 + n ≡ n = omega arith in rw (e, z) refl
range-append a (suc m) n = let e : a + suc m ≡ (a + 1) + m = omega arith in let z : suc m + n ≡ suc (m + n) = omega arith in rw (e, z) (ap (λ xs. a ∷ xs) (range-append (a + 1) m n))

head_same : (x y : ℕ) (xs ys : List ℕ) → (x ∷ xs) ≡ (y ∷ ys) → (x ≡ y) × (xs ≡ ys)
head_same x y xs ys e = (ap (λ zs. get_or zs 0 x) e, ap tail e)
  where
    tail : List ℕ → List ℕ
    tail [] = []
    tail (z ∷ zs) = zs

split_same : (xs ys zs ws : List ℕ) → length xs ≡ length zs → xs ++ ys ≡ zs ++ ws → (xs ≡ zs) × (ys ≡ ws)
split_same [] ys [] ws l e = (refl, e)
split_same [] ys (z ∷ zs) ws l e = absurd (omega (arith, l))
split_same (x ∷ xs) ys [] ws l e = absurd (omega (arith, l))
split_same (x ∷ xs) ys (z ∷ zs) ws l e =
    let h = head_same x z (xs ++ ys) (zs ++ ws) e in
    let r = split_same xs ys zs ws (omega (arith, l)) h.1 in
    (ap (λ w. w ∷ xs) h.0 ∙ ap (λ ts. z ∷ ts) r.0, r.1)

same_length : (a b : ℕ) → (a == b) ≡ true → a ≡ b
same_length a b h = grind (arith, common_steps)

pub numbers_length : (entries : List Entry) (slots : List Node) (values : List SlotBits) (numbers : List (List Bool)) → are_numbers entries slots values numbers ≡ true → length (flat_map (λ bs. bs) numbers) ≡ length (value_wires values)
numbers_length entries slots [] [] h = refl
numbers_length entries slots [] (bs ∷ ns) h = absurd (true≢false (sym h))
numbers_length entries slots (v ∷ vs) [] h = absurd (true≢false (sym h))
numbers_length entries slots (v ∷ vs) (bs ∷ ns) h =
    let p = both ((length bs == length v.bits) && is_value (integer_target_in entries (slot slots v.slot)) bs) (are_numbers entries slots vs ns) h in
    let q = both (length bs == length v.bits) (is_value (integer_target_in entries (slot slots v.slot)) bs) p.0 in
    length-append bs (flat_map (λ cs. cs) ns)
    ∙ ap (λ n. n + length (flat_map (λ cs. cs) ns)) (same_length (length bs) (length v.bits) q.0 ∙ sym (length-map v.bits (λ (w : Wire). w.number)))
    ∙ ap (λ n. length (map (λ (w : Wire). w.number) v.bits) + n) (numbers_length entries slots vs ns p.1)
    ∙ sym (length-append (map (λ (w : Wire). w.number) v.bits) (value_wires vs))

pub numbers_read : (entries : List Entry) (slots : List Node) (bits front : List Bool) (values : List SlotBits) (numbers : List (List Bool)) → are_numbers entries slots values numbers ≡ true → bits ≡ front ++ flat_map (λ bs. bs) numbers
    → value_wires values ≡ range_with_len (length front) (length (value_wires values)) → list_all (λ v. is_value (integer_target_in entries (slot slots v.slot)) (value_bits bits v)) values ≡ true
numbers_read entries slots bits front [] numbers h e wired = refl
numbers_read entries slots bits front (v ∷ vs) [] h e wired = absurd (true≢false (sym h))
numbers_read entries slots bits front (v ∷ vs) (bs ∷ ns) h e wired =
    let p = both ((length bs == length v.bits) && is_value (integer_target_in entries (slot slots v.slot)) bs) (are_numbers entries slots vs ns) h in
    let q = both (length bs == length v.bits) (is_value (integer_target_in entries (slot slots v.slot)) bs) p.0 in
    let size : length bs ≡ length v.bits = same_length (length bs) (length v.bits) q.0 in
    let here : List ℕ = map (λ (w : Wire). w.number) v.bits in
    let mine : length here ≡ length bs = length-map v.bits (λ (w : Wire). w.number) ∙ sym size in
    let total : length (value_wires (v ∷ vs)) ≡ length bs + length (value_wires vs) = length-append here (value_wires vs) ∙ ap (λ n. n + length (value_wires vs)) mine in
    let parts : here ++ value_wires vs ≡ range_with_len (length front) (length bs) ++ range_with_len (length front + length bs) (length (value_wires vs)) =
    wired ∙ ap (range_with_len (length front)) total ∙ range-append (length front) (length bs) (length (value_wires vs)) in
    let cut = split_same here (value_wires vs) (range_with_len (length front) (length bs)) (range_with_len (length front + length bs) (length (value_wires vs))) (mine ∙ sym (length-range_with_len (length front) (length bs))) parts in
    let told : value_bits bits v ≡ bs = read_part (λ (w : Wire). w.number) v.bits front bs (flat_map (λ cs. cs) ns) bits e cut.0 in
    let onward : length (front ++ bs) ≡ length front + length bs = length-append front bs in
    together (is_value (integer_target_in entries (slot slots v.slot)) (value_bits bits v)) (list_all (λ u. is_value (integer_target_in entries (slot slots u.slot)) (value_bits bits u)) vs)
    (ap (is_value (integer_target_in entries (slot slots v.slot))) told ∙ q.1)
    (numbers_read entries slots bits (front ++ bs) vs ns p.1 (e ∙ sym (append_assoc front bs (flat_map (λ cs. cs) ns))) (cut.1 ∙ ap (λ n. range_with_len n (length (value_wires vs))) (sym onward)))
