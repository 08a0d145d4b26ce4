-- The wires of a slot and of the one behind it.
use Rattle.std.proofs.Common.{◌≡◌, ◌≢◌, ℕ, zero, suc, ◌+◌, ◌<◌, Bool, true, false, cond, not, ◌&&◌, ◌||◌, min, List, [], ◌∷◌, length, Option, Some, None, refl, sym, ap, ◌∙◌, subst, arith, get_or}
use Rattle.std.specs.Prelude.{slice_get, nat_eq, ◌==◌, is_some}
use Rattle.std.specs.Option.{option_map_or, option_and_then}
use Rattle.std.specs.List.{All, filter}
use Rattle.std.proofs.lemmas.Bool.{true≢false}
use Rattle.std.proofs.lemmas.Grind.{common_steps}
use Rattle.std.proofs.lemmas.List.Elements.{All-head, All-tail}
use Rattle.std.proofs.lemmas.List.{get_or-map, get_or_read}
use Rattle.std.proofs.lemmas.List.FromFn.{get_or-range_with_len}
use Rattle.std.proofs.lemmas.Option.{get_or_from_slice_get, slice_get_within}
use Rattle.bool_circuit.specs.declared.gate.Wire.{Wire}
use Rattle.bool_circuit.specs.declared.gate.Gate.{Gate}
use Rattle.bool_circuit.specs.Circuit.{wire_value, entry, IsWireOf}
use Rattle.clf_tree.specs.declared.model.Clafer.{Clafer}
use Rattle.clf_tree.specs.declared.instance.Node.{Node}
use Rattle.clf_tree.specs.declared.scopes.Scopes.{Scopes}
use Rattle.clf_tree.specs.Hierarchy.{parent_of}
use Rattle.clf_tree.specs.Named.{each, contains_itself}
use Rattle.set_bits.specs.declared.layout.Edge.{Edge}
use Rattle.set_bits.specs.declared.layout.Layout.{Layout}
use Rattle.set_bits.specs.Fitting.{Fits, slot_clafer}
use Rattle.shown_instance.specs.Shown.{is_live}
use Rattle.shown_instance.proofs.Whole.{numbers_at}
use Rattle.node_encoder.specs.Tables.{AreBySlot}
use Rattle.shape_encoder.specs.Reading.{IsBit, IsLaid}
use Rattle.shape_encoder.proofs.Steps.{all_item, and_true}
use Rattle.canonical_instances.specs.Canonical.{follows_parents}
use Rattle.canonical_encoder.specs.Slots.{begins_no_later, edges_of, follows_slot}
use Rattle.canonical_encoder.specs.Comparing.{begins_below}
use Rattle.canonical_encoder.proofs.Ends.{top_has_no_edges}
use Rattle.canonical_encoder.proofs.Edges.{and_assoc}
use Rattle.canonical_encoder.proofs.Placed.{equal_test}

-- the edges of a slot are those of the layout, and stand in the table
pub slot_bits : (gates : List Gate) (layout : Layout) (table : List (List Edge)) (s : ℕ) (list : List Edge) → IsLaid gates layout
    → AreBySlot layout.parents table → s < length table → list ≡ get_or table s list → All (λ e. IsBit gates e.here) list
slot_bits gates layout table s list laid t l e =
    subst (λ es. All (λ (x : Edge). IsBit gates x.here) es) (sym (get_or_read table s list l e [] ∙ t.at s))
    (from layout.parents laid.parents)
  where
    join : (e : Edge) (es : List Edge) → IsBit gates e.here → All (λ (x : Edge). IsBit gates x.here) es
        → All (λ (x : Edge). IsBit gates x.here) (e ∷ es)
    join e es h rest zero d l = h
    join e es h rest (suc k) d l = rest k d (omega (arith, l))

    from : (es : List Edge) → All (λ (e : Edge). IsBit gates e.here) es
        → All (λ (e : Edge). IsBit gates e.here) (filter (λ e. nat_eq e.from s) es)
    from [] h = h
    from (e ∷ es) h = by (nat_eq e.from s) (from es (All-tail (λ (x : Edge). IsBit gates x.here) e es h))
      where
        by : (b : Bool) → All (λ (x : Edge). IsBit gates x.here) (filter (λ x. nat_eq x.from s) es)
            → All (λ (x : Edge). IsBit gates x.here) (cond b (e ∷ filter (λ x. nat_eq x.from s) es) (filter (λ x. nat_eq x.from s) es))
        by true rest = join e (filter (λ x. nat_eq x.from s) es) (All-head (λ (x : Edge). IsBit gates x.here) e es h) rest
        by false rest = rest

-- the wire of a slot's bit tells whether the slot is live
pub live_value : (gates : List Gate) (layout : Layout) (s : ℕ) (w : Wire) → IsLaid gates layout → slice_get layout.live s ≡ Some w
    → (bits : List Bool) → wire_value gates w bits ≡ is_live layout bits s
live_value gates layout s w laid get bits = (all_item (IsBit gates) layout.live s w laid.live get).value bits
    ∙ sym (ap (λ o. option_map_or (entry bits) o false) get)

pub live_wire : (gates : List Gate) (layout : Layout) (s : ℕ) (w : Wire) → IsLaid gates layout → slice_get layout.live s ≡ Some w
    → IsWireOf gates w
live_wire gates layout s w laid get = (all_item (IsBit gates) layout.live s w laid.live get).wire

-- there is a wire for each slot
pub slot_below : (gates : List Gate) (clafers : List Clafer) (scopes : Scopes) (layout : Layout) (s : ℕ) → Fits clafers scopes layout
    → IsLaid gates layout → s < length layout.slots → s < length gates
slot_below gates clafers scopes layout s f laid l =
    let w : Wire = get_or layout.live s (record { number = 0 }) in
    let many = laid.slots in
    let inside : s < length layout.live = omega (arith, many, l) in
    let same : w.number ≡ s =
    sym (get_or-map (λ (x : Wire). x.number) layout.live s (record { number = 0 }) 0 inside) ∙ ap (λ ns. get_or ns s 0) f.live
    ∙ get_or-range_with_len 0 (length layout.slots) s 0 l ∙ from_zero s in
    let wire = (laid.live s (record { number = 0 }) inside).wire in
    omega (arith, same, wire)
  where
    from_zero : (k : ℕ) → 0 + k ≡ k
    from_zero k = omega arith

-- numbers follow parents where no clafer contains itself, and where there are no edges nothing is asked
begun_alone : (clafers : List Clafer) (scopes : Scopes) (layout : Layout) (bits : List Bool) (s : ℕ) → Fits clafers scopes layout
    → s < length layout.slots
    → each clafers (λ c. not (contains_itself clafers c)) ≡ true
    → (not (follows_parents clafers (slot_clafer layout.slots s)) || begins_no_later (edges_of layout s) (edges_of layout (s + 1)) bits)
    ≡ begins_no_later (edges_of layout s) (edges_of layout (s + 1)) bits
begun_alone clafers scopes layout bits s f l acyclic = by (parent_of clafers c) refl
  where
    c : ℕ
    c = slot_clafer layout.slots s

    begins : Bool
    begins = begins_no_later (edges_of layout s) (edges_of layout (s + 1)) bits

    known : (o : Option Clafer) → slice_get clafers c ≡ o → is_some (option_and_then (λ (k : Clafer). k.parent) o) ≡ true
        → c < length clafers
    known None e h = absurd (true≢false (sym h))
    known (Some k) e h = slice_get_within clafers c k e

    by : (o : Option ℕ) → parent_of clafers c ≡ o → (not (follows_parents clafers c) || begins) ≡ begins
    by None e =
        let none = top_has_no_edges clafers scopes layout s f l e in
        let free : begins ≡ true = ap (λ es. begins_no_later es (edges_of layout (s + 1)) bits) none ∙ nothing (edges_of layout (s + 1)) in
        ap (λ b. not (follows_parents clafers c) || b) free ∙ or_true (not (follows_parents clafers c)) ∙ sym free
      where
        or_true : (b : Bool) → (b || true) ≡ true
        or_true true = refl
        or_true false = refl

        nothing : (es : List Edge) → begins_no_later [] es bits ≡ true
        nothing es = let e : min 0 (length es) ≡ 0 = omega arith in ap (begins_below [] es bits) e
    by (Some p) e =
        let nested : is_some (parent_of clafers c) ≡ true = ap is_some e in
        let free = numbers_at (λ k. not (contains_itself clafers k)) 0 (length clafers) c acyclic (omega arith)
        (omega (arith, known (slice_get clafers c) refl nested)) in
        ap (λ b. not (b && not (contains_itself clafers c)) || begins) nested ∙ ap (λ b. not b || begins) free

same_clafers : (layout : Layout) (s : ℕ) (m n : Node) → slice_get layout.slots s ≡ Some m → slice_get layout.slots (s + 1) ≡ Some n
    → (slot_clafer layout.slots s == slot_clafer layout.slots (s + 1)) ≡ (m.clafer == n.clafer)
same_clafers layout s m n get_m get_n =
    ap (λ (x : Node). x.clafer == slot_clafer layout.slots (s + 1))
    (get_or_from_slice_get layout.slots s m (record { clafer = 0; number = 0 }) get_m)
    ∙ ap (λ (x : Node). m.clafer == x.clafer) (get_or_from_slice_get layout.slots (s + 1) n (record { clafer = 0; number = 0 }) get_n)

differ_test : (a b : ℕ) → a ≢ b → (a == b) ≡ false
differ_test a b e = grind (arith, common_steps)

-- slots of two clafers ask for nothing
pub followed_apart : (clafers : List Clafer) (layout : Layout) (bits : List Bool) (s : ℕ) (m n : Node) (so_far : Bool)
    → slice_get layout.slots s ≡ Some m → slice_get layout.slots (s + 1) ≡ Some n → m.clafer ≢ n.clafer
    → so_far ≡ (so_far && follows_slot clafers layout bits s)
unfolding follows_slot
followed_apart clafers layout bits s m n so_far get_m get_n differ =
    sym (ap (λ b. so_far && (not b || asked)) (same_clafers layout s m n get_m get_n ∙ differ_test m.clafer n.clafer differ)
    ∙ and_true so_far)
  where
    asked : Bool
    asked = (not (is_live layout bits (s + 1)) || is_live layout bits s)
        && (not (follows_parents clafers (slot_clafer layout.slots s))
        || begins_no_later (edges_of layout s) (edges_of layout (s + 1)) bits)

-- slots of one clafer
pub followed : (old mid new : List Gate) (clafers : List Clafer) (scopes : Scopes) (layout : Layout) (s : ℕ) (m n : Node)
    (all here behind live wire : Wire) → Fits clafers scopes layout → IsLaid old layout → s + 1 < length layout.slots
    → each clafers (λ c. not (contains_itself clafers c)) ≡ true
    → slice_get layout.slots s ≡ Some m → slice_get layout.slots (s + 1) ≡ Some n → m.clafer ≡ n.clafer
    → slice_get layout.live s ≡ Some here → slice_get layout.live (s + 1) ≡ Some behind
    → ((bits : List Bool) → wire_value mid live bits
    ≡ (wire_value old all bits && (not (wire_value old behind bits) || wire_value old here bits)))
    → ((bits : List Bool) → wire_value new wire bits
    ≡ (wire_value mid live bits && begins_no_later (edges_of layout s) (edges_of layout (s + 1)) bits))
    → (bits : List Bool) → wire_value new wire bits ≡ (wire_value old all bits && follows_slot clafers layout bits s)
unfolding follows_slot
followed old mid new clafers scopes layout s m n all here behind live wire f laid l acyclic get_m get_n same get_here get_behind v w bits =
    w bits ∙ ap (λ b. b && begins) (v bits)
    ∙ ap (λ b. (wire_value old all bits && (not b || wire_value old here bits)) && begins)
    (live_value old layout (s + 1) behind laid get_behind bits)
    ∙ ap (λ b. (wire_value old all bits && (not (is_live layout bits (s + 1)) || b)) && begins)
    (live_value old layout s here laid get_here bits)
    ∙ and_assoc (wire_value old all bits) (not (is_live layout bits (s + 1)) || is_live layout bits s) begins
    ∙ ap (λ b. wire_value old all bits && ((not (is_live layout bits (s + 1)) || is_live layout bits s) && b))
    (sym (begun_alone clafers scopes layout bits s f (omega (arith, l)) acyclic))
    ∙ ap (λ b. wire_value old all bits && (not b || asked))
    (sym (same_clafers layout s m n get_m get_n ∙ equal_test m.clafer n.clafer same))
  where
    begins : Bool
    begins = begins_no_later (edges_of layout s) (edges_of layout (s + 1)) bits

    asked : Bool
    asked = (not (is_live layout bits (s + 1)) || is_live layout bits s)
        && (not (follows_parents clafers (slot_clafer layout.slots s)) || begins)
