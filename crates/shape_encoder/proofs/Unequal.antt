-- Integers that are compared with each other, one after another.
use Rattle.std.proofs.Common.{◌≡◌, ℕ, ◌+◌, ◌*◌, ◌<◌, ◌≤◌, Bool, true, false, cond, not, ◌&&◌, ◌||◌, List, [], ◌∷◌, length, take, Option, Some, None, refl, sym, ap, ◌∙◌, arith}
use Rattle.std.specs.Prelude.{slice_get, ◌==◌, is_some, is_none, ℤ, IsTrue, ◌↔◌}
use Rattle.std.specs.Ordering.{int_eq}
use Rattle.std.specs.Option.{option_map_or}
use Rattle.std.specs.List.{All, list_all, list_any}
use Rattle.std.proofs.lemmas.Bool.Decides.{Decides-int_eq}
use Rattle.std.proofs.lemmas.Grind.{common_steps}
use Rattle.std.proofs.lemmas.Option.{slice_get_within}
use Rattle.std.proofs.lemmas.List.{take_all}
use Rattle.bool_circuit.specs.declared.gate.Wire.{Wire}
use Rattle.bool_circuit.specs.declared.gate.Gate.{Gate}
use Rattle.bool_circuit.specs.Circuit.{wire_value, entry, IsWireOf, AreWiresOf, Extends}
use Rattle.integer_bits.specs.Numbers.{integer_of, integer_at}
use Rattle.clf_tree.specs.declared.model.Clafer.{Clafer}
use Rattle.clf_tree.specs.declared.instance.Node.{Node}
use Rattle.clf_tree.specs.Lists.{numbers_below, each_two}
use Rattle.clf_tree.specs.Hierarchy.{parent_of}
use Rattle.set_bits.specs.declared.layout.Edge.{Edge}
use Rattle.set_bits.specs.declared.layout.SlotBits.{SlotBits}
use Rattle.set_bits.specs.declared.layout.Layout.{Layout}
use Rattle.set_bits.specs.Fitting.{slot_clafer}
use Rattle.set_bits.specs.Showing.{value_bits}
use Rattle.shown_instance.specs.Shown.{is_live}
use Rattle.shown_instance.specs.Distinct.{lead_together, tells_apart, targets_differ, integers_differ, have_sets}
use Rattle.shown_instance.proofs.Placing.{same_truth}
use Rattle.shape_encoder.specs.Reading.{IsBit, IsSlotOf}
use Rattle.shape_encoder.specs.Comparing.{turned_from, joins, IsTiedBy, is_on, are_equal, IntegerDiffersSoFar, IntegersDifferSoFar, equal_cost, integer_pair_cost, integer_pairs_cost, own_value_cost, value_cost, values_cost}
use Rattle.shape_encoder.proofs.Steps.{sum-before, and_true, all_item, take_item, list_all-push, sum-push, bits_stay, bit_wires, bit_values}
use Rattle.shape_encoder.proofs.Taken.{each_two-push}
use Rattle.shape_encoder.proofs.Compared.{cost_step, joined_together, clafer_at, sum_below-push, sum_below-room}

-- ---- two integers

equal_truth : (b : Bool) (x y : ℤ) → IsTrue b ↔ (x ≡ y) → b ≡ int_eq x y
equal_truth b x y i = same_truth b (int_eq x y) (λ t. (Decides-int_eq x y).1 (i.0 t)) (λ t. i.1 ((Decides-int_eq x y).0 t))

pub slot_stays : (old new : List Gate) (n slots : ℕ) (v : SlotBits) → Extends old new n → IsSlotOf old slots v → IsSlotOf new slots v
slot_stays old new n slots v x s = record { known = s.known; some = s.some; bits = bits_stay old new n v.bits x s.bits }

pub slot_wires : (old new : List Gate) (n slots : ℕ) (v : SlotBits) → Extends old new n → IsSlotOf old slots v → AreWiresOf new v.bits
slot_wires old new n slots v x s = bit_wires new v.bits (slot_stays old new n slots v x s).bits

pub live_wire : (old : List Gate) (live : List Wire) (i : ℕ) (w : Wire) → All (IsBit old) live → slice_get live i ≡ Some w → IsWireOf old w
live_wire old live i w all get = (all_item (IsBit old) live i w all get).wire

on_is : (old : List Gate) (live : List Wire) (i : ℕ) (w : Wire) (bits : List Bool) → All (IsBit old) live → slice_get live i ≡ Some w → wire_value old w bits ≡ is_on live bits i
on_is old live i w bits all get = (all_item (IsBit old) live i w all get).value bits ∙ sym (ap (λ o. option_map_or (entry bits) o false) get)

integer_is : (old new : List Gate) (n slots : ℕ) (v : SlotBits) (bits : List Bool) → Extends old new n → IsSlotOf old slots v → integer_at new v.bits bits ≡ integer_of (value_bits bits v)
integer_is old new n slots v bits x s = ap integer_of (bit_values new v.bits bits (slot_stays old new n slots v x s).bits)

pub equal_wire : (old first second new : List Gate) (live : List Wire) (slots n : ℕ) (v w : SlotBits) (a b there same both : Wire) → All (IsBit old) live → slice_get live v.slot ≡ Some a → slice_get live w.slot ≡ Some b → IsSlotOf old slots v → IsSlotOf old slots w
    → Extends old first 1 → Extends first second n → IsWireOf first there → ((bits : List Bool) → wire_value first there bits ≡ (wire_value old a bits && wire_value old b bits))
    → ((bits : List Bool) → IsTrue (wire_value second same bits) ↔ (integer_at first v.bits bits ≡ integer_at first w.bits bits))
    → ((bits : List Bool) → wire_value new both bits ≡ (wire_value second there bits && wire_value second same bits)) → (bits : List Bool) → wire_value new both bits ≡ are_equal live bits v w
equal_wire old first second new live slots n v w a b there same both all ga gb sv sw x y i tv ev bv bits =
    bv bits ∙ ap (λ c. c && wire_value second same bits) (y.keeps there i bits ∙ tv bits ∙ ap (λ c. c && wire_value old b bits) (on_is old live v.slot a bits all ga) ∙ ap (λ c. is_on live bits v.slot && c) (on_is old live w.slot b bits all gb))
    ∙ ap (λ c. (is_on live bits v.slot && is_on live bits w.slot) && c)
    (equal_truth (wire_value second same bits) (integer_at first v.bits bits) (integer_at first w.bits bits) (ev bits)
    ∙ ap (λ z. int_eq z (integer_at first w.bits bits)) (integer_is old first 1 slots v bits x sv) ∙ ap (int_eq (integer_of (value_bits bits v))) (integer_is old first 1 slots w bits x sw))

-- ---- two slots of one clafer

same_is : (a b : ℕ) → a ≡ b → (a == b) ≡ true
same_is a b e = grind (arith, common_steps)

same_number : (a b : ℕ) → (a == b) ≡ true → a ≡ b
same_number a b t = grind (arith, common_steps)

others_differ : (clafers : List Clafer) (layout : Layout) (bits : List Bool) (v w : SlotBits) → (slot_clafer layout.slots v.slot == slot_clafer layout.slots w.slot) ≡ false → integers_differ clafers layout bits v w ≡ true
others_differ clafers layout bits v w e =
    ap (λ b. not ((((b && tells_apart clafers (slot_clafer layout.slots v.slot)) && (is_none (parent_of clafers (slot_clafer layout.slots v.slot)) || lead_together layout.parents bits v.slot w.slot)) && (is_live layout bits v.slot && is_live layout bits w.slot)) && int_eq (integer_of (value_bits bits v)) (integer_of (value_bits bits w)))) e

untold_differ : (clafers : List Clafer) (layout : Layout) (bits : List Bool) (w : SlotBits) → tells_apart clafers (slot_clafer layout.slots w.slot) ≡ false → (vs : List SlotBits) → list_all (λ v. integers_differ clafers layout bits v w) vs ≡ true
untold_differ clafers layout bits w e [] = refl
untold_differ clafers layout bits w e (v ∷ vs) = ap (λ b. b && list_all (λ u. integers_differ clafers layout bits u w) vs) (at (slot_clafer layout.slots v.slot == slot_clafer layout.slots w.slot) refl) ∙ untold_differ clafers layout bits w e vs
  where
    at : (b : Bool) → (slot_clafer layout.slots v.slot == slot_clafer layout.slots w.slot) ≡ b → integers_differ clafers layout bits v w ≡ true
    at false t = others_differ clafers layout bits v w t
    at true t =
        ap (λ b. not ((((b && tells_apart clafers (slot_clafer layout.slots v.slot)) && (is_none (parent_of clafers (slot_clafer layout.slots v.slot)) || lead_together layout.parents bits v.slot w.slot)) && (is_live layout bits v.slot && is_live layout bits w.slot)) && int_eq (integer_of (value_bits bits v)) (integer_of (value_bits bits w)))) t
        ∙ ap (λ b. not (((b && (is_none (parent_of clafers (slot_clafer layout.slots v.slot)) || lead_together layout.parents bits v.slot w.slot)) && (is_live layout bits v.slot && is_live layout bits w.slot)) && int_eq (integer_of (value_bits bits v)) (integer_of (value_bits bits w))))
        (ap (tells_apart clafers) (same_number (slot_clafer layout.slots v.slot) (slot_clafer layout.slots w.slot) t) ∙ e)

pub untold_integer : (clafers : List Clafer) (layout : Layout) (w : SlotBits) (place : ℕ) (n : Node) (all told : Bool) → slice_get layout.slots w.slot ≡ Some n → told ≡ tells_apart clafers n.clafer → told ≡ false → (bits : List Bool)
    → all ≡ (all && list_all (λ v. integers_differ clafers layout bits v w) (take place layout.values))
untold_integer clafers layout w place n all told get t f bits = sym (ap (λ b. all && b) (untold_differ clafers layout bits w (ap (tells_apart clafers) (clafer_at layout w.slot n get) ∙ sym t ∙ f) (take place layout.values)) ∙ and_true all)

pub integer_value : (gates : List Gate) (clafers : List Clafer) (layout : Layout) (v w : SlotBits) (nested : Bool) (table : List (Option Wire)) (ps : List Edge) → slot_clafer layout.slots v.slot ≡ slot_clafer layout.slots w.slot → tells_apart clafers (slot_clafer layout.slots w.slot) ≡ true
    → nested ≡ is_some (parent_of clafers (slot_clafer layout.slots w.slot)) → ps ≡ turned_from layout.parents v.slot → IsTiedBy gates layout.parents w.slot table
    → (bits : List Bool) → not ((not nested || list_any (joins gates table bits) ps) && are_equal layout.live bits v w) ≡ integers_differ clafers layout bits v w
integer_value gates clafers layout v w nested table ps same told n p up bits =
    ap (λ b. not ((not b || list_any (joins gates table bits) ps) && are_equal layout.live bits v w)) n
    ∙ ap (λ b. not ((not (is_some (parent_of clafers (slot_clafer layout.slots w.slot))) || b) && are_equal layout.live bits v w)) (joined_together gates layout.parents v.slot w.slot table ps bits p up)
    ∙ ap (λ b. not ((b || lead_together layout.parents bits v.slot w.slot) && are_equal layout.live bits v w)) (none_some (parent_of clafers (slot_clafer layout.slots w.slot)) ∙ ap (λ c. is_none (parent_of clafers c)) (sym same))
    ∙ ap not (grouped beside (is_live layout bits v.slot && is_live layout bits w.slot) (int_eq (integer_of (value_bits bits v)) (integer_of (value_bits bits w))))
    ∙ sym (ap (λ b. not ((((b && tells_apart clafers (slot_clafer layout.slots v.slot)) && beside) && (is_live layout bits v.slot && is_live layout bits w.slot)) && int_eq (integer_of (value_bits bits v)) (integer_of (value_bits bits w)))) (same_is (slot_clafer layout.slots v.slot) (slot_clafer layout.slots w.slot) same)
    ∙ ap (λ b. not (((b && beside) && (is_live layout bits v.slot && is_live layout bits w.slot)) && int_eq (integer_of (value_bits bits v)) (integer_of (value_bits bits w)))) (ap (tells_apart clafers) same ∙ told))
  where
    beside : Bool
    beside = is_none (parent_of clafers (slot_clafer layout.slots v.slot)) || lead_together layout.parents bits v.slot w.slot

    none_some : (o : Option ℕ) → not (is_some o) ≡ is_none o
    none_some None = refl
    none_some (Some x) = refl

    grouped : (a b c : Bool) → (a && (b && c)) ≡ ((a && b) && c)
    grouped true b c = refl
    grouped false b c = refl

-- ---- costs

pub integer_pair_cost_is : (layout : Layout) (v w : SlotBits) (ps : List Edge) → slot_clafer layout.slots v.slot ≡ slot_clafer layout.slots w.slot → ps ≡ turned_from layout.parents v.slot → (2 * length ps + 1) + equal_cost v w + 3 ≡ integer_pair_cost layout v w
integer_pair_cost_is layout v w ps same p =
    ap (λ xs. (2 * length xs + 1) + equal_cost v w + 3) p
    ∙ sym (ap (λ b. cond b ((2 * length (turned_from layout.parents v.slot) + 1) + equal_cost v w + 3) 0) (same_is (slot_clafer layout.slots v.slot) (slot_clafer layout.slots w.slot) same))

pub own_value_cost_is : (clafers : List Clafer) (layout : Layout) (w : SlotBits) (place : ℕ) (ps : List Edge) → tells_apart clafers (slot_clafer layout.slots w.slot) ≡ true → ps ≡ turned_from layout.parents w.slot
    → (4 * length ps + 1) + (integer_pairs_cost layout w place + 1) + 1 ≡ own_value_cost clafers layout w place
own_value_cost_is clafers layout w place ps told p =
    ap (λ xs. (4 * length xs + 1) + (integer_pairs_cost layout w place + 1) + 1) p
    ∙ sym (ap (λ b. cond b ((4 * length (turned_from layout.parents w.slot) + 1) + (integer_pairs_cost layout w place + 1) + 1) 0) told)

pub value_cost_is : (clafers : List Clafer) (layout : Layout) (place : ℕ) (w : SlotBits) → slice_get layout.values place ≡ Some w → own_value_cost clafers layout w place ≡ value_cost clafers layout place
value_cost_is clafers layout place w get = sym (ap (λ o. option_map_or (λ v. own_value_cost clafers layout v place) o 0) get)

pub integers_room : (layout : Layout) (w : SlotBits) (n place : ℕ) (v : SlotBits) → slice_get layout.values n ≡ Some v → n < place → integer_pairs_cost layout w n + integer_pair_cost layout v w ≤ integer_pairs_cost layout w place
integers_room layout w n place v get l = sum-before (λ u. integer_pair_cost layout u w) layout.values n place v get l

-- ---- the loops

pub none_before : (old new : List Gate) (clafers : List Clafer) (layout : Layout) (w : SlotBits) (wire : Wire) → Extends old new 1 → IsWireOf new wire → ((bits : List Bool) → wire_value new wire bits ≡ true) → IntegerDiffersSoFar old clafers layout w 0 (integer_pairs_cost layout w 0 + 1) new wire
none_before old new clafers layout w wire x i v = record { extends = x; is_wire = i; value = v }

pub integer_more : (old mid new : List Gate) (clafers : List Clafer) (layout : Layout) (w : SlotBits) (n : ℕ) (v : SlotBits) (all wire : Wire) → slice_get layout.values n ≡ Some v → IntegerDiffersSoFar old clafers layout w n (integer_pairs_cost layout w n + 1) mid all
    → Extends mid new (integer_pair_cost layout v w) → IsWireOf new wire → ((bits : List Bool) → wire_value new wire bits ≡ (wire_value mid all bits && integers_differ clafers layout bits v w)) → IntegerDiffersSoFar old clafers layout w (n + 1) (integer_pairs_cost layout w (n + 1) + 1) new wire
integer_more old mid new clafers layout w n v all wire get s x i value = record {
  extends = cost_step old mid new (integer_pairs_cost layout w n) (integer_pair_cost layout v w) (integer_pairs_cost layout w (n + 1)) (let e = sum-push (λ u. integer_pair_cost layout u w) layout.values n v get in omega (arith, e)) s.extends x;
  is_wire = i;
  value = λ bits.
      value bits ∙ ap (λ b. b && integers_differ clafers layout bits v w) (s.value bits)
      ∙ sym (ap (list_all (λ u. integers_differ clafers layout bits u w)) (take_item layout.values n v get) ∙ list_all-push (λ u. integers_differ clafers layout bits u w) (take n layout.values) v);
}

pub none_differ : (old new : List Gate) (clafers : List Clafer) (layout : Layout) (wire : Wire) → Extends old new 1 → IsWireOf new wire → ((bits : List Bool) → wire_value new wire bits ≡ true) → IntegersDifferSoFar old clafers layout 0 (values_cost clafers layout 0 + 1) new wire
none_differ old new clafers layout wire x i v = record { extends = x; is_wire = i; value = v }

pub integers_more : (old mid new : List Gate) (clafers : List Clafer) (layout : Layout) (n : ℕ) (w : SlotBits) (all wire : Wire) → slice_get layout.values n ≡ Some w → IntegersDifferSoFar old clafers layout n (values_cost clafers layout n + 1) mid all → Extends mid new (own_value_cost clafers layout w n)
    → IsWireOf new wire → ((bits : List Bool) → wire_value new wire bits ≡ (wire_value mid all bits && list_all (λ v. integers_differ clafers layout bits v w) (take n layout.values))) → IntegersDifferSoFar old clafers layout (n + 1) (values_cost clafers layout (n + 1) + 1) new wire
integers_more old mid new clafers layout n w all wire get s x i value = record {
  extends = cost_step old mid new (values_cost clafers layout n) (own_value_cost clafers layout w n) (values_cost clafers layout (n + 1)) (let e = sum_below-push (value_cost clafers layout) n in let f = value_cost_is clafers layout n w get in omega (arith, e, f)) s.extends x;
  is_wire = i;
  value = λ bits.
      value bits ∙ ap (λ b. b && list_all (λ v. integers_differ clafers layout bits v w) (take n layout.values)) (s.value bits)
      ∙ sym (ap (each_two (integers_differ clafers layout bits)) (take_item layout.values n w get) ∙ each_two-push (integers_differ clafers layout bits) (take n layout.values) w);
}

pub values_room : (clafers : List Clafer) (layout : Layout) (n : ℕ) (w : SlotBits) → slice_get layout.values n ≡ Some w → values_cost clafers layout n + own_value_cost clafers layout w n ≤ values_cost clafers layout (length layout.values)
values_room clafers layout n w get =
    let r = sum_below-room (value_cost clafers layout) n (length layout.values) (slice_get_within layout.values n w get) in
    let e = value_cost_is clafers layout n w get in
    omega (arith, r, e)

pub whole_sets : (first second new : List Gate) (clafers : List Clafer) (layout : Layout) (n : ℕ) (nodes integers wire : Wire) → IsWireOf first nodes → ((bits : List Bool) → wire_value first nodes bits ≡ each_two (targets_differ clafers layout bits) (numbers_below (length layout.slots)))
    → IntegersDifferSoFar first clafers layout (length layout.values) n second integers → ((bits : List Bool) → wire_value new wire bits ≡ (wire_value second nodes bits && wire_value second integers bits)) → (bits : List Bool) → wire_value new wire bits ≡ have_sets clafers layout bits
whole_sets first second new clafers layout n nodes integers wire w d e v bits =
    v bits ∙ ap (λ b. b && wire_value second integers bits) (e.extends.keeps nodes w bits ∙ d bits)
    ∙ ap (λ b. each_two (targets_differ clafers layout bits) (numbers_below (length layout.slots)) && b) (e.value bits ∙ ap (each_two (integers_differ clafers layout bits)) (take_all (length layout.values) layout.values (omega arith)))

-- the premises of each integer
pub slot_of : (gates : List Gate) (layout : Layout) (n : ℕ) (v : SlotBits) → All (IsSlotOf gates (length layout.live)) layout.values → slice_get layout.values n ≡ Some v → IsSlotOf gates (length layout.live) v
slot_of gates layout n v h get = all_item (IsSlotOf gates (length layout.live)) layout.values n v h get
