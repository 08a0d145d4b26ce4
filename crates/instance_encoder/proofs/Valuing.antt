-- The integers of one slot more, and how many bits they have.
use Rattle.std.proofs.Common.{◌≡◌, ℕ, zero, suc, ◌+◌, ◌*◌, ◌≤◌, Bool, true, false, List, [], ◌∷◌, ◌++◌, length, map, cond, refl, sym, ap, ◌∙◌, arith, append-nil}
use Rattle.std.specs.Prelude.{slice_get, Some}
use Rattle.std.specs.Option.{option_map_or}
use Rattle.std.specs.List.{range_with_len, find}
use Rattle.std.proofs.lemmas.Option.{get_or_from_slice_get}
use Rattle.std.proofs.lemmas.Grind.{flat_map-append}
use Rattle.std.proofs.lemmas.List.{length-append, length-map, map-append}
use Rattle.std.proofs.lemmas.List.Elements.{All-push, All-nil}
use Rattle.std.proofs.lemmas.List.FromFn.{length-range_with_len}
use Rattle.bool_circuit.specs.declared.gate.Wire.{Wire}
use Rattle.bool_circuit.specs.declared.gate.Gate.{Gate}
use Rattle.clf_tree.specs.declared.model.Clafer.{Clafer}
use Rattle.clf_tree.specs.declared.bounds.Bounds.{Bounds}
use Rattle.clf_tree.specs.declared.instance.Node.{Node}
use Rattle.clf_tree.specs.Hierarchy.{refers_to_int}
use Rattle.clf_tree.specs.Widths.{width, is_held}
use Rattle.set_bits.specs.declared.layout.SlotBits.{SlotBits}
use Rattle.set_bits.specs.Fitting.{IsRead, slot, slot_clafer, value_wires}
use Rattle.instance_encoder.specs.Wiring.{IsValuedSoFar}
use Rattle.instance_encoder.proofs.Below.{range-append, filter_kept, filter_dropped}

pub none_valued : (clafers : List Clafer) (slots : List Node) (first bits : ℕ) (gates : List Gate) (values : List SlotBits) → values ≡ [] → IsRead gates (length gates) → length gates ≡ first → IsValuedSoFar clafers slots first bits 0 gates values
none_valued clafers slots first bits gates values none r e = rw none (record {
  read = r;
  size = omega (arith, e);
  few = omega arith;
  slots_so_far = refl;
  widths = All-nil (λ v. length v.bits ≡ bits);
  wires = refl;
})

pub valued_more : (clafers : List Clafer) (slots : List Node) (first bits n : ℕ) (node : Node) (gates new : List Gate) (values more : List SlotBits) (ws : List Wire) → slice_get slots n ≡ Some node → refers_to_int clafers node.clafer ≡ true
    → IsValuedSoFar clafers slots first bits n gates values → map (λ w. w.number) ws ≡ range_with_len (length gates) bits → IsRead new (length new) → length new ≡ length gates + bits → more ≡ values ++ record { slot = n; bits = ws } ∷ []
    → IsValuedSoFar clafers slots first bits (n + 1) new more
valued_more clafers slots first bits n node gates new values more ws at is s wired r size e =
    let x : SlotBits = record { slot = n; bits = ws } in
    let f : slot slots n ≡ node = get_or_from_slice_get slots n node (record { clafer = 0; number = 0 }) at in
    let here : refers_to_int clafers (slot_clafer slots n) ≡ true = ap (λ (m : Node). refers_to_int clafers m.clafer) f ∙ is in
    let v : value_wires more ≡ value_wires values ++ range_with_len (length gates) bits =
    ap value_wires e ∙ flat_map-append (λ (y : SlotBits). map (λ (w : Wire). w.number) y.bits) values (x ∷ []) ∙ ap (λ ks. value_wires values ++ ks) (append-nil (map (λ (w : Wire). w.number) ws) ∙ wired) in
    let l : length (value_wires more) ≡ length (value_wires values) + bits =
    ap length v ∙ length-append (value_wires values) (range_with_len (length gates) bits) ∙ ap (λ k. length (value_wires values) + k) (length-range_with_len (length gates) bits) in
    let z : (n + 1) * bits ≡ n * bits + bits = grind arith in
    let many : length ws ≡ bits = sym (length-map ws (λ (w : Wire). w.number)) ∙ ap length wired ∙ length-range_with_len (length gates) bits in
    record {
      read = r;
      size = omega (arith, size, s.size, l);
      few = omega (arith, s.few, l, z);
      slots_so_far = ap (map (λ (y : SlotBits). y.slot)) e ∙ map-append (λ (y : SlotBits). y.slot) values (x ∷ []) ∙ ap (λ ks. ks ++ n ∷ []) s.slots_so_far ∙ sym (filter_kept (λ i. refers_to_int clafers (slot_clafer slots i)) n here);
      widths = rw e (All-push (λ (y : SlotBits). length y.bits ≡ bits) values x s.widths many);
      wires = v ∙ ap (λ ks. ks ++ range_with_len (length gates) bits) s.wires ∙ ap (λ k. range_with_len first (length (value_wires values)) ++ range_with_len k bits) s.size
          ∙ sym (range-append first (length (value_wires values)) bits) ∙ ap (range_with_len first) (sym l);
    }

pub valued_same : (clafers : List Clafer) (slots : List Node) (first bits n : ℕ) (node : Node) (gates new : List Gate) (values more : List SlotBits) → slice_get slots n ≡ Some node → refers_to_int clafers node.clafer ≡ false
    → IsValuedSoFar clafers slots first bits n gates values → new ≡ gates → more ≡ values → IsValuedSoFar clafers slots first bits (n + 1) new more
valued_same clafers slots first bits n node gates new values more at is s g e =
    let f : slot slots n ≡ node = get_or_from_slice_get slots n node (record { clafer = 0; number = 0 }) at in
    let here : refers_to_int clafers (slot_clafer slots n) ≡ false = ap (λ (m : Node). refers_to_int clafers m.clafer) f ∙ is in
    let z : (n + 1) * bits ≡ n * bits + bits = grind arith in
    rw (g, e) (record {
      read = s.read;
      size = s.size;
      few = omega (arith, s.few, z);
      slots_so_far = s.slots_so_far ∙ sym (filter_dropped (λ i. refers_to_int clafers (slot_clafer slots i)) n here);
      widths = s.widths;
      wires = s.wires;
    })

-- the width of an interval is small
found_few : (p : ℕ → Bool) (a k m : ℕ) → a + k ≤ m + 1 → option_map_or (λ x. x) (find p (range_with_len a k)) m ≤ m
found_few p a zero m h = omega arith
found_few p a (suc k) m h = by (p a) (found_few p (a + 1) k m (omega (arith, h)))
  where
    by : (b : Bool) → option_map_or (λ x. x) (find p (range_with_len (a + 1) k)) m ≤ m → option_map_or (λ x. x) (cond b (Some a) (find p (range_with_len (a + 1) k))) m ≤ m
    by true rest = omega (arith, h)
    by false rest = rest

pub width_few : (b : Bounds) → width b ≤ 127
unfolding width
width_few b = found_few (is_held b) 1 126 127 (omega arith)
