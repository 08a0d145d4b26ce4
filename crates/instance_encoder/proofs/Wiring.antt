-- Edges and wires, one more.
use Rattle.std.proofs.Common.{◌≡◌, ℕ, ◌+◌, ◌*◌, ◌<◌, ◌≤◌, Bool, true, false, List, [], ◌∷◌, ◌++◌, length, map, cond, suc, take, get_or, refl, sym, ap, ◌∙◌, arith, append_assoc, append-nil}
use Rattle.std.specs.Prelude.{slice_get, Some, None, Option}
use Rattle.std.specs.Option.{option_map_or}
use Rattle.std.specs.List.{range_with_len, filter}
use Rattle.std.proofs.lemmas.Option.{get_or_from_slice_get}
use Rattle.std.proofs.lemmas.List.{length_push, map-append, take_more}
use Rattle.std.proofs.lemmas.List.FromFn.{length-range_with_len}
use Rattle.std.proofs.Math.Nat.{mul-le-mul, mul-le-mul_right}
use Rattle.bool_circuit.specs.declared.gate.Wire.{Wire}
use Rattle.bool_circuit.specs.declared.gate.Gate.{Gate}
use Rattle.bool_circuit.specs.declared.gate.Gate.TheVariants.{Input}
use Rattle.bool_circuit.specs.Circuit.{inputs}
use Rattle.clf_tree.specs.declared.model.Clafer.{Clafer}
use Rattle.clf_tree.specs.declared.instance.Node.{Node}
use Rattle.clf_tree.specs.Lists.{numbers_below, has}
use Rattle.clf_tree.specs.Hierarchy.{concrete_below}
use Rattle.set_bits.specs.declared.layout.Edge.{Edge}
use Rattle.set_bits.specs.Fitting.{ends, edge_wires, ends_from, ends_below, slot, slot_clafer}
use Rattle.instance_encoder.specs.declared.near.Tie.{Tie}
use Rattle.instance_encoder.specs.Wiring.{IsWiredSoFar, near_of, near_slots, slots_below, declared_end}
use Rattle.instance_encoder.proofs.Below.{range-more}
use Rattle.instance_encoder.proofs.Reading.{read_more}
use Rattle.instance_encoder.proofs.Slots.{flat-more}

pub wires_more : (first at : ℕ) (wires more : List Wire) (w : Wire) → map (λ x. x.number) wires ≡ range_with_len first at → w.number ≡ first + at → more ≡ wires ++ w ∷ [] → map (λ (x : Wire). x.number) more ≡ range_with_len first (at + 1)
wires_more first at wires more w so last e =
    ap (map (λ (x : Wire). x.number)) e ∙ map-append (λ (x : Wire). x.number) wires (w ∷ []) ∙ ap (λ xs. xs ++ w.number ∷ []) so ∙ ap (λ k. range_with_len first at ++ k ∷ []) last
    ∙ sym (range-more first at (first + at) refl)

edge_more : (first most i j : ℕ) (pairs : List (ℕ × ℕ)) (gates new : List Gate) (edges more : List Edge) (w : Wire) → IsWiredSoFar first most pairs gates edges
    → new ≡ gates ++ Input (inputs gates) ∷ [] → w.number ≡ length gates → more ≡ edges ++ record { from = i; to = j; here = w } ∷ [] → IsWiredSoFar first (most + 1) (pairs ++ (i, j) ∷ []) new more
edge_more first most i j pairs gates new edges more w s g last e =
    let x : Edge = record { from = i; to = j; here = w } in
    let l : length more ≡ length edges + 1 = ap length e ∙ length_push edges x in
    record {
      read = read_more gates new s.read g;
      size = omega (arith, s.size, l, ap length g, length_push gates (Input (inputs gates)));
      few = omega (arith, s.few, l);
      ends_so_far = ap ends e ∙ map-append (λ (y : Edge). (y.from, y.to)) edges (x ∷ []) ∙ ap (λ ps. ps ++ (i, j) ∷ []) s.ends_so_far;
      wires = ap edge_wires e ∙ map-append (λ (y : Edge). y.here.number) edges (x ∷ []) ∙ ap (λ xs. xs ++ w.number ∷ []) s.wires
          ∙ ap (λ k. range_with_len first (length edges) ++ k ∷ []) (last ∙ s.size) ∙ sym (range-more first (length edges) (first + length edges) refl) ∙ ap (range_with_len first) (sym l);
    }

-- the edges from a slot to the listed ones, added to any
abbrev pub IsMore : ℕ → List ℕ → List Gate → List Edge → List Gate → List Edge → Type 0
IsMore from near old before new after =
    (first most : ℕ) (pairs : List (ℕ × ℕ)) → IsWiredSoFar first most pairs old before → IsWiredSoFar first (most + length near) (pairs ++ map (λ j. (from, j)) near) new after

pub none_more : (from : ℕ) (near : List ℕ) (gates : List Gate) (edges : List Edge) → IsMore from (take 0 near) gates edges gates edges
none_more from near gates edges = λ first most pairs s. let e : most + 0 ≡ most = omega arith in rw (e, append-nil pairs) s

pub one_more : (from at to : ℕ) (near : List ℕ) (old gates new : List Gate) (before edges more : List Edge) (w : Wire) → slice_get near at ≡ Some to → at < length near
    → IsMore from (take at near) old before gates edges → new ≡ gates ++ Input (inputs gates) ∷ [] → w.number ≡ length gates → more ≡ edges ++ record { from = from; to = to; here = w } ∷ []
    → IsMore from (take (at + 1) near) old before new more
one_more from at to near old gates new before edges more w found within so g last e = λ first most pairs s.
    let x : get_or near at 0 ≡ to = get_or_from_slice_get near at to 0 found in
    let t : take (at + 1) near ≡ take at near ++ to ∷ [] = take_more near at 0 within ∙ ap (λ j. take at near ++ j ∷ []) x in
    let z : most + length (take at near ++ to ∷ []) ≡ (most + length (take at near)) + 1 = omega (arith, length_push (take at near) to) in
    rw (t, z, map-append {B = ℕ × ℕ} (λ (j : ℕ). (from, j)) (take at near) (to ∷ []), sym (append_assoc pairs (map (λ j. (from, j)) (take at near)) ((from, to) ∷ [])))
    (edge_more first (most + length (take at near)) from to (pairs ++ map (λ j. (from, j)) (take at near)) gates new edges more w (so first most pairs s) g last e)

-- the near slots are those that the edges of a slot lead to
pub near_found : (tie : Tie) (clafers : List Clafer) (slots : List Node) (c i : ℕ) → map (λ j. (i, j)) (near_slots tie clafers slots c) ≡ ends_from (near_of tie clafers c) slots i (length slots)
near_found tie clafers slots c i = by (declared_end tie clafers c)
  where
    none : (ks : List ℕ) → filter (λ j. has [] (slot_clafer slots j)) ks ≡ []
    none [] = refl
    none (k ∷ ks) = none ks

    by : (d : Option ℕ) → map (λ j. (i, j)) (option_map_or (slots_below clafers slots) d []) ≡ ends_from (option_map_or (concrete_below clafers) d []) slots i (length slots)
    by None = ap (map (λ j. (i, j))) (sym (none (numbers_below (length slots))))
    by (Some d) = refl

few : (p : ℕ → Bool) (ks : List ℕ) → length (filter p ks) ≤ length ks
few p [] = omega arith
few p (k ∷ ks) = by (p k) (few p ks)
  where
    by : (b : Bool) → length (filter p ks) ≤ length ks → length (cond b (k ∷ filter p ks) (filter p ks)) ≤ suc (length ks)
    by true h = omega (arith, h)
    by false h = omega (arith, h)

pub near_few : (tie : Tie) (clafers : List Clafer) (slots : List Node) (c : ℕ) → length (near_slots tie clafers slots c) ≤ length slots
near_few tie clafers slots c = by (declared_end tie clafers c)
  where
    by : (d : Option ℕ) → length (option_map_or (slots_below clafers slots) d []) ≤ length slots
    by None = omega arith
    by (Some d) = omega (arith, few (λ j. has (concrete_below clafers d) (slot_clafer slots j)) (numbers_below (length slots)), length-range_with_len 0 (length slots))

-- the edges of one slot more
pub slot_done : (tie : Tie) (clafers : List Clafer) (slots : List Node) (first n : ℕ) (node : Node) (gates new : List Gate) (edges more : List Edge) (ks : List ℕ) → slice_get slots n ≡ Some node → ks ≡ near_slots tie clafers slots node.clafer
    → IsWiredSoFar first (n * length slots) (ends_below (near_of tie clafers) slots n) gates edges → IsMore n ks gates edges new more
    → IsWiredSoFar first ((n + 1) * length slots) (ends_below (near_of tie clafers) slots (n + 1)) new more
slot_done tie clafers slots first n node gates new edges more ks at k s m =
    let e : slot slots n ≡ node = get_or_from_slice_get slots n node (record { clafer = 0; number = 0 }) at in
    let f : map (λ j. (n, j)) ks ≡ ends_from (near_of tie clafers (slot_clafer slots n)) slots n (length slots) =
    ap (map (λ j. (n, j))) (k ∙ ap (λ (x : Node). near_slots tie clafers slots x.clafer) (sym e)) ∙ near_found tie clafers slots (slot_clafer slots n) n in
    let z : (n + 1) * length slots ≡ n * length slots + length slots = grind arith in
    let done = m first (n * length slots) (ends_below (near_of tie clafers) slots n) s in
    let below : length ks ≤ length slots = omega (arith, ap length k, near_few tie clafers slots node.clafer) in
    record {
      read = done.read;
      size = done.size;
      few = omega (arith, z, done.few, below);
      ends_so_far = done.ends_so_far ∙ ap (λ ps. ends_below (near_of tie clafers) slots n ++ ps) f ∙ sym (flat-more (λ i. ends_from (near_of tie clafers (slot_clafer slots i)) slots i (length slots)) n);
      wires = done.wires;
    }

-- a slot's edges have room
pub slot_room : (first n m k : ℕ) (edges : ℕ) → n < m → edges ≤ n * m → k ≤ m → (first + edges) + k ≤ first + m * m
slot_room first n m k edges h f g =
    let a : (n + 1) * m ≤ m * m = mul-le-mul_right m (omega (arith, h)) in
    let z : (n + 1) * m ≡ n * m + m = grind arith in
    omega (arith, f, g, a, z)

pub square_few : (n : ℕ) → n ≤ 2048 → n * n ≤ 4194304
square_few n h = mul-le-mul h h

pub product_few : (n m : ℕ) → n ≤ 2048 → m ≤ 127 → n * m ≤ 260096
product_few n m h k = mul-le-mul h k
