-- Bounds of slots and of clafers, one after another.
use Rattle.std.proofs.Common.{◌≡◌, ℕ, zero, suc, ◌+◌, ◌<◌, ◌≤◌, Bool, true, false, cond, not, ◌&&◌, ◌||◌, List, [], ◌∷◌, ◌++◌, length, map, get_or, Option, Some, None, is_none, refl, sym, ap, ◌∙◌, subst, arith}
use Rattle.std.specs.Prelude.{slice_get, ◌==◌, nat_le}
use Rattle.std.specs.Option.{option_map_or}
use Rattle.std.specs.List.{All, list_all, range_with_len, sum_by}
use Rattle.std.proofs.lemmas.Bool.{true≢false}
use Rattle.std.proofs.lemmas.Bool.Decides.{nat_tests}
use Rattle.std.proofs.lemmas.Option.{get_or_from_slice_get, slice_get_within}
use Rattle.std.proofs.lemmas.List.{map-append}
use Rattle.std.proofs.lemmas.List.Elements.{All-append, All-cons, All-nil}
use Rattle.std.proofs.lemmas.List.Sums.{sum_by-append, sum_by-cons}
use Rattle.bool_circuit.specs.declared.gate.Wire.{Wire}
use Rattle.bool_circuit.specs.declared.gate.Gate.{Gate}
use Rattle.bool_circuit.specs.Circuit.{wire_values, entry, AreWiresOf, Extends}
use Rattle.bool_circuit.proofs.Extending.{extends_trans, extends_within}
use Rattle.integer_bits.specs.Totals.{count_true}
use Rattle.clf_tree.specs.declared.model.Clafer.{Clafer}
use Rattle.clf_tree.specs.declared.module.Interval.{Interval}
use Rattle.clf_tree.specs.declared.instance.Node.{Node}
use Rattle.clf_tree.specs.Lists.{numbers_below}
use Rattle.clf_tree.specs.Hierarchy.{is_a}
use Rattle.clf_tree.specs.Shape.{allows}
use Rattle.int_widths.specs.Weight.{is_any}
use Rattle.set_bits.specs.declared.layout.Edge.{Edge}
use Rattle.set_bits.specs.declared.layout.Layout.{Layout}
use Rattle.set_bits.specs.Fitting.{slot_clafer}
use Rattle.shown_instance.specs.Shown.{is_live}
use Rattle.shown_instance.specs.Bounds.{is_declared_under, children_below, live_slots, have_times, have_group}
use Rattle.shown_instance.proofs.Order.{both}
use Rattle.shape_encoder.specs.Reading.{IsBit}
use Rattle.shape_encoder.specs.declared.amounts.Allowed.{Allowed}
use Rattle.shape_encoder.specs.declared.children.Child.{Child}
use Rattle.shape_encoder.specs.declared.demands.Demands.{Demands}
use Rattle.shape_encoder.specs.Counting.{children_at, AreChildren, counted_wires, AreCountedLive, counted_cost, most_counted, slot_cost, child_slots, each_cost, counted_slots, whole_cost, times_cost, group_cost, clafer_cost, bounds_room}
use Rattle.shape_encoder.specs.Demanding.{tells, IsDemanded, slot_test, owner_cost, slots_test, clafer_test, clafers_test, EachDemandedSoFar, AllDemandedSoFar}
use Rattle.shape_encoder.proofs.Steps.{all_item, list_all-push, numbers-push, bit_values, bit_wires}
use Rattle.shape_encoder.proofs.Tabling.{child_bits, counted_kept, child_slots_counted, children_counted}
use Rattle.shape_encoder.proofs.Demanded.{demanded_same, demanded_both}

-- ---- sums over numbers

numbers_sum : (f : ℕ → ℕ) (n : ℕ) → sum_by f (numbers_below (n + 1)) ≡ sum_by f (numbers_below n) + f n
numbers_sum f n =
    let one = sum_by-cons f n [] in
    let more = sum_by-append f (numbers_below n) (n ∷ []) in
    let whole = ap (sum_by f) (numbers-push n) in
    omega (arith, one, more, whole)

sum_more : (f : ℕ → ℕ) (a n m : ℕ) → n ≤ m → sum_by f (range_with_len a n) ≤ sum_by f (range_with_len a m)
sum_more f a zero m h = omega arith
sum_more f a (suc n) zero h = absurd (omega (arith, h))
sum_more f a (suc n) (suc m) h =
    let l = sum_by-cons f a (range_with_len (a + 1) n) in
    let r = sum_by-cons f a (range_with_len (a + 1) m) in
    let rest = sum_more f (a + 1) n m (omega (arith, h)) in
    omega (arith, l, r, rest)

numbers_room : (f : ℕ → ℕ) (n m : ℕ) → n < m → sum_by f (numbers_below n) + f n ≤ sum_by f (numbers_below m)
numbers_room f n m h = let next = numbers_sum f n in let less = sum_more f 0 (n + 1) m (omega (arith, h)) in omega (arith, next, less)

-- ---- the children of one slot

pub table_read : (slots : List Node) (edges : List Edge) (table : List (List Child)) (s : ℕ) (below : List Child) → AreChildren slots edges table → s < length slots → below ≡ get_or table s below → below ≡ children_at slots edges s
table_read slots edges table s below t l is = is ∙ default table s (omega (arith, t.len, l)) ∙ t.at s l
  where
    default : (xs : List (List Child)) (i : ℕ) → i < length xs → get_or xs i below ≡ get_or xs i []
    default [] i h = absurd (omega (arith, h))
    default (x ∷ xs) zero h = refl
    default (x ∷ xs) (suc i) h = default xs i (omega (arith, h))

-- the wires of the children that are counted
children_told : (gates : List Gate) (layout : Layout) (asked : ℕ → Bool) (s : ℕ) (below : List Child) (wires : List Wire) (bits : List Bool) → All (λ e. IsBit gates e.here) layout.parents → below ≡ children_at layout.slots layout.parents s → wires ≡ counted_wires asked below
    → count_true (wire_values gates wires bits) ≡ children_below layout bits asked s
children_told gates layout asked s below wires bits parents is w =
    ap (λ ws. count_true (wire_values gates ws bits)) (w ∙ ap (counted_wires asked) is)
    ∙ ap count_true (bit_values gates (counted_wires asked (children_at layout.slots layout.parents s)) bits (counted_kept (IsBit gates) asked (children_at layout.slots layout.parents s) (child_bits gates layout.slots layout.parents s parents)))
    ∙ children_counted layout bits asked s

pub children_sized : (layout : Layout) (asked : ℕ → Bool) (s : ℕ) (below : List Child) (wires : List Wire) → below ≡ children_at layout.slots layout.parents s → wires ≡ counted_wires asked below → length wires ≡ child_slots layout asked s
children_sized layout asked s below wires is w = ap (λ ws. length ws) (w ∙ ap (counted_wires asked) is) ∙ child_slots_counted layout asked s

pub children_wires : (gates : List Gate) (layout : Layout) (asked : ℕ → Bool) (s : ℕ) (below : List Child) (wires : List Wire) → All (λ e. IsBit gates e.here) layout.parents → below ≡ children_at layout.slots layout.parents s → wires ≡ counted_wires asked below → AreWiresOf gates wires
children_wires gates layout asked s below wires parents is w =
    subst (AreWiresOf gates) (sym (w ∙ ap (counted_wires asked) is)) (bit_wires gates (counted_wires asked (children_at layout.slots layout.parents s)) (counted_kept (IsBit gates) asked (children_at layout.slots layout.parents s) (child_bits gates layout.slots layout.parents s parents)))

-- what an answer on them tells, where the slot is live
pub children_allowed : (old mid : List Gate) (layout : Layout) (asked : ℕ → Bool) (interval : Interval) (s : ℕ) (below : List Child) (wires : List Wire) (a : Allowed) → All (λ e. IsBit old e.here) layout.parents → below ≡ children_at layout.slots layout.parents s → wires ≡ counted_wires asked below
    → ((bits : List Bool) → tells mid a bits ≡ allows interval (count_true (wire_values old wires bits))) → (bits : List Bool) → (not (is_live layout bits s) || tells mid a bits) ≡ (not (is_live layout bits s) || allows interval (children_below layout bits asked s))
children_allowed old mid layout asked interval s below wires a parents is w v bits = ap (λ b. not (is_live layout bits s) || b) (v bits ∙ ap (allows interval) (children_told old layout asked s below wires bits parents is w))

-- ---- each slot

each_sum : (layout : Layout) (of asked : ℕ → Bool) (interval : Interval) (n : ℕ) → each_cost layout of asked interval (n + 1) ≡ each_cost layout of asked interval n + owner_cost layout of asked interval n
each_sum layout of asked interval n = numbers_sum (owner_cost layout of asked interval) n

each_room : (layout : Layout) (of asked : ℕ → Bool) (interval : Interval) (n : ℕ) → n < length layout.slots → each_cost layout of asked interval n + owner_cost layout of asked interval n ≤ each_cost layout of asked interval (length layout.slots)
each_room layout of asked interval n l = numbers_room (owner_cost layout of asked interval) n (length layout.slots) l

pub each_fits : (old mid : List Gate) (layout : Layout) (before d : Demands) (of asked : ℕ → Bool) (interval : Interval) (n : ℕ) → n < length layout.slots → EachDemandedSoFar old layout before of asked interval n mid d
    → length mid + owner_cost layout of asked interval n ≤ length old + each_cost layout of asked interval (length layout.slots)
each_fits old mid layout before d of asked interval n l s = let r = each_room layout of asked interval n l in let m = s.extends.at_most in omega (arith, r, m)

pub each_within : (old mid new : List Gate) (layout : Layout) (before d : Demands) (of asked : ℕ → Bool) (interval : Interval) (n : ℕ) → n < length layout.slots → EachDemandedSoFar old layout before of asked interval n mid d
    → Extends mid new (owner_cost layout of asked interval n) → Extends old new (each_cost layout of asked interval (length layout.slots))
each_within old mid new layout before d of asked interval n l s x =
    extends_within old new (each_cost layout of asked interval n + owner_cost layout of asked interval n) (each_cost layout of asked interval (length layout.slots)) (each_room layout of asked interval n l)
    (extends_trans old mid new (each_cost layout of asked interval n) (owner_cost layout of asked interval n) s.extends x)

pub each_more : (old mid new : List Gate) (layout : Layout) (before d e : Demands) (of asked : ℕ → Bool) (interval : Interval) (n : ℕ) → EachDemandedSoFar old layout before of asked interval n mid d
    → Extends mid new (owner_cost layout of asked interval n) → IsDemanded mid layout d (slot_test layout of asked interval n) new e → EachDemandedSoFar old layout before of asked interval (n + 1) new e
each_more old mid new layout before d e of asked interval n s x h = record {
  extends = subst (Extends old new) (sym (each_sum layout of asked interval n)) (extends_trans old mid new (each_cost layout of asked interval n) (owner_cost layout of asked interval n) s.extends x);
  demanded = demanded_same old new layout before e (λ bits. slots_test layout of asked interval n bits && slot_test layout of asked interval n bits) (slots_test layout of asked interval (n + 1))
      (λ bits. sym (ap (list_all (λ i. slot_test layout of asked interval i bits)) (numbers-push n) ∙ list_all-push (λ i. slot_test layout of asked interval i bits) (numbers_below n) n))
      (demanded_both old mid new layout before d e (slots_test layout of asked interval n) (slot_test layout of asked interval n) s.demanded h);
}

-- ---- slots that are counted themselves

abbrev weigh : Bool → ℕ
weigh b = cond b 1 0

slot_is : (layout : Layout) (asked : ℕ → Bool) (n : ℕ) (node : Node) (b : Bool) → slice_get layout.slots n ≡ Some node → asked node.clafer ≡ b → asked (slot_clafer layout.slots n) ≡ b
slot_is layout asked n node b at e = ap (λ (m : Node). asked m.clafer) (get_or_from_slice_get layout.slots n node (record { clafer = 0; number = 0 }) at) ∙ e

pub live_skips : (layout : Layout) (asked : ℕ → Bool) (n : ℕ) (node : Node) (wires : List Wire) → slice_get layout.slots n ≡ Some node → asked node.clafer ≡ false → AreCountedLive layout asked n wires → AreCountedLive layout asked (n + 1) wires
live_skips layout asked n node wires at fail s = record {
  bits_of = s.bits_of;
  size = let t = numbers_sum (λ i. weigh (asked (slot_clafer layout.slots i))) n in let z : weigh (asked (slot_clafer layout.slots n)) ≡ 0 = ap weigh (slot_is layout asked n node false at fail) in omega (arith, t, z, s.size);
  count = λ bits.
      let t = numbers_sum (λ i. weigh (is_live layout bits i && asked (slot_clafer layout.slots i))) n in
      let z : weigh (is_live layout bits n && asked (slot_clafer layout.slots n)) ≡ 0 = ap (λ b. weigh (is_live layout bits n && b)) (slot_is layout asked n node false at fail) ∙ nothing (is_live layout bits n) in
      let c = s.count bits in
      omega (arith, t, z, c);
}
  where
    nothing : (b : Bool) → weigh (b && false) ≡ 0
    nothing true = refl
    nothing false = refl

count_push : (bs : List Bool) (b : Bool) → count_true (bs ++ b ∷ []) ≡ count_true bs + weigh b
count_push [] true = refl
count_push [] false = refl
count_push (x ∷ bs) b = let r = count_push bs b in omega (arith, r)

length_push : (ws : List Wire) (w : Wire) → length (ws ++ w ∷ []) ≡ length ws + 1
length_push [] w = refl
length_push (x ∷ ws) w = let r = length_push ws w in omega (arith, r)

pub live_more : (layout : Layout) (asked : ℕ → Bool) (n : ℕ) (node : Node) (live : Wire) (wires : List Wire) → slice_get layout.slots n ≡ Some node → asked node.clafer ≡ true → slice_get layout.live n ≡ Some live
    → AreCountedLive layout asked n wires → AreCountedLive layout asked (n + 1) (wires ++ live ∷ [])
live_more layout asked n node live wires at pass get s = record {
  bits_of = λ gates h. All-append (IsBit gates) wires (live ∷ []) (s.bits_of gates h) (All-cons (IsBit gates) live [] (all_item (IsBit gates) layout.live n live h get) (All-nil (IsBit gates)));
  size = let t = numbers_sum (λ i. weigh (asked (slot_clafer layout.slots i))) n in let z : weigh (asked (slot_clafer layout.slots n)) ≡ 1 = ap weigh (slot_is layout asked n node true at pass) in let p = length_push wires live in omega (arith, t, z, s.size, p);
  count = λ bits.
      let t = numbers_sum (λ i. weigh (is_live layout bits i && asked (slot_clafer layout.slots i))) n in
      let p : count_true (map (entry bits) (wires ++ live ∷ [])) ≡ count_true (map (entry bits) wires) + weigh (entry bits live) = ap count_true (map-append (entry bits) wires (live ∷ [])) ∙ count_push (map (entry bits) wires) (entry bits live) in
      let z : weigh (is_live layout bits n && asked (slot_clafer layout.slots n)) ≡ weigh (entry bits live) =
      ap (λ b. weigh (is_live layout bits n && b)) (slot_is layout asked n node true at pass) ∙ ap weigh (and_true (is_live layout bits n) ∙ ap (λ o. option_map_or (entry bits) o false) get) in
      let c = s.count bits in
      omega (arith, t, p, z, c);
}
  where
    and_true : (b : Bool) → (b && true) ≡ b
    and_true true = refl
    and_true false = refl

pub whole_told : (old mid : List Gate) (layout : Layout) (asked : ℕ → Bool) (interval : Interval) (wires : List Wire) (a : Allowed) → All (IsBit old) layout.live → AreCountedLive layout asked (length layout.slots) wires
    → ((bits : List Bool) → tells mid a bits ≡ allows interval (count_true (wire_values old wires bits))) → (bits : List Bool) → tells mid a bits ≡ allows interval (live_slots layout bits asked)
whole_told old mid layout asked interval wires a lives s v bits = v bits ∙ ap (allows interval) (ap count_true (bit_values old wires bits (s.bits_of old lives)) ∙ s.count bits)

-- ---- one clafer

-- any number is allowed
any_allowed : (interval : Interval) (n : ℕ) → is_any interval ≡ true → allows interval n ≡ true
any_allowed interval n h = by (both (interval.low == 0) (is_none interval.high) h)
  where
    low : (l m : ℕ) → (l == 0) ≡ true → nat_le l m ≡ true
    low l m e = grind (arith, nat_tests)

    high : (o : Option ℕ) → is_none o ≡ true → option_map_or (λ x. nat_le n x) o true ≡ true
    high None e = refl
    high (Some x) e = absurd (true≢false (sym e))

    by : ((interval.low == 0) ≡ true) × (is_none interval.high ≡ true) → allows interval n ≡ true
    by p = ap (λ b. b && option_map_or (λ x. nat_le n x) interval.high true) (low interval.low n p.0) ∙ high interval.high p.1

any_each : (layout : Layout) (of asked : ℕ → Bool) (interval : Interval) (bits : List Bool) (n : ℕ) → is_any interval ≡ true → slots_test layout of asked interval n bits ≡ true
any_each layout of asked interval bits n h = passes (numbers_below n)
  where
    free : (a : Bool) → (a || true) ≡ true
    free true = refl
    free false = refl

    passes : (xs : List ℕ) → list_all (λ s. slot_test layout of asked interval s bits) xs ≡ true
    passes [] = refl
    passes (x ∷ xs) = ap (λ b. b && list_all (λ s. slot_test layout of asked interval s bits) xs) (ap (λ b. not (is_live layout bits x && of (slot_clafer layout.slots x)) || b) (any_allowed interval (children_below layout bits asked x) h) ∙ free (not (is_live layout bits x && of (slot_clafer layout.slots x)))) ∙ passes xs

pub any_times : (clafers : List Clafer) (layout : Layout) (bits : List Bool) (c : ℕ) (k : Clafer) → is_any k.times ≡ true → have_times clafers layout bits c k ≡ true
any_times clafers layout bits c k h = by k.parent
  where
    by : (o : Option ℕ) → option_map_or (λ p. slots_test layout (λ d. is_a clafers d p) (λ d. is_a clafers d c) k.times (length layout.slots) bits) o (allows k.times (live_slots layout bits (λ d. is_a clafers d c))) ≡ true
    by (Some p) = any_each layout (λ d. is_a clafers d p) (λ d. is_a clafers d c) k.times bits (length layout.slots) h
    by None = any_allowed k.times (live_slots layout bits (λ d. is_a clafers d c)) h

pub any_group : (clafers : List Clafer) (layout : Layout) (bits : List Bool) (c : ℕ) (k : Clafer) → is_any k.group ≡ true → have_group clafers layout bits c k ≡ true
any_group clafers layout bits c k h = any_each layout (λ d. is_a clafers d c) (is_declared_under clafers c) k.group bits (length layout.slots) h

pub nested_told : (clafers : List Clafer) (layout : Layout) (c p : ℕ) (k : Clafer) (of asked : ℕ → Bool) (bits : List Bool) → k.parent ≡ Some p → of ≡ (λ d. is_a clafers d p) → asked ≡ (λ d. is_a clafers d c)
    → slots_test layout of asked k.times (length layout.slots) bits ≡ have_times clafers layout bits c k
nested_told clafers layout c p k of asked bits up e f =
    ap (λ (g : ℕ → Bool). slots_test layout g asked k.times (length layout.slots) bits) e
    ∙ ap (λ (g : ℕ → Bool). slots_test layout (λ d. is_a clafers d p) g k.times (length layout.slots) bits) f
    ∙ sym (ap (λ o. option_map_or (λ q. slots_test layout (λ d. is_a clafers d q) (λ d. is_a clafers d c) k.times (length layout.slots) bits) o (allows k.times (live_slots layout bits (λ d. is_a clafers d c)))) up)

pub nested_cost : (clafers : List Clafer) (layout : Layout) (c p : ℕ) (k : Clafer) (of asked : ℕ → Bool) → k.parent ≡ Some p → of ≡ (λ d. is_a clafers d p) → asked ≡ (λ d. is_a clafers d c)
    → each_cost layout of asked k.times (length layout.slots) ≡ times_cost clafers layout c k
nested_cost clafers layout c p k of asked up e f =
    ap (λ (g : ℕ → Bool). each_cost layout g asked k.times (length layout.slots)) e ∙ ap (λ (g : ℕ → Bool). each_cost layout (λ d. is_a clafers d p) g k.times (length layout.slots)) f
    ∙ sym (ap (λ o. option_map_or (λ q. each_cost layout (λ d. is_a clafers d q) (λ d. is_a clafers d c) k.times (length layout.slots)) o (whole_cost layout (λ d. is_a clafers d c) k.times)) up)

pub top_told : (clafers : List Clafer) (layout : Layout) (c : ℕ) (k : Clafer) (asked : ℕ → Bool) (bits : List Bool) → k.parent ≡ None → asked ≡ (λ d. is_a clafers d c)
    → allows k.times (live_slots layout bits asked) ≡ have_times clafers layout bits c k
top_told clafers layout c k asked bits up e =
    ap (λ (g : ℕ → Bool). allows k.times (live_slots layout bits g)) e
    ∙ sym (ap (λ o. option_map_or (λ q. slots_test layout (λ d. is_a clafers d q) (λ d. is_a clafers d c) k.times (length layout.slots) bits) o (allows k.times (live_slots layout bits (λ d. is_a clafers d c)))) up)

-- an interval that is not 0 to any
bounded_cost : (interval : Interval) (n : ℕ) → is_any interval ≡ false → slot_cost interval n ≡ counted_cost n (most_counted interval n)
bounded_cost interval n h = ap (λ b. cond b 0 (counted_cost n (most_counted interval n))) h

pub top_cost : (clafers : List Clafer) (layout : Layout) (c : ℕ) (k : Clafer) (asked : ℕ → Bool) → is_any k.times ≡ false → k.parent ≡ None → asked ≡ (λ d. is_a clafers d c)
    → counted_cost (counted_slots layout asked) (most_counted k.times (counted_slots layout asked)) ≡ times_cost clafers layout c k
top_cost clafers layout c k asked bounded up e =
    sym (bounded_cost k.times (counted_slots layout asked) bounded) ∙ ap (λ (g : ℕ → Bool). whole_cost layout g k.times) e
    ∙ sym (ap (λ o. option_map_or (λ q. each_cost layout (λ d. is_a clafers d q) (λ d. is_a clafers d c) k.times (length layout.slots)) o (whole_cost layout (λ d. is_a clafers d c) k.times)) up)

pub group_told : (clafers : List Clafer) (layout : Layout) (c : ℕ) (k : Clafer) (of asked : ℕ → Bool) (bits : List Bool) → of ≡ (λ d. is_a clafers d c) → asked ≡ is_declared_under clafers c
    → slots_test layout of asked k.group (length layout.slots) bits ≡ have_group clafers layout bits c k
group_told clafers layout c k of asked bits e f =
    ap (λ (g : ℕ → Bool). slots_test layout g asked k.group (length layout.slots) bits) e ∙ ap (λ (g : ℕ → Bool). slots_test layout (λ d. is_a clafers d c) g k.group (length layout.slots) bits) f

pub group_cost_same : (clafers : List Clafer) (layout : Layout) (c : ℕ) (k : Clafer) (of asked : ℕ → Bool) → of ≡ (λ d. is_a clafers d c) → asked ≡ is_declared_under clafers c
    → each_cost layout of asked k.group (length layout.slots) ≡ group_cost clafers layout c k
group_cost_same clafers layout c k of asked e f =
    ap (λ (g : ℕ → Bool). each_cost layout g asked k.group (length layout.slots)) e ∙ ap (λ (g : ℕ → Bool). each_cost layout (λ d. is_a clafers d c) g k.group (length layout.slots)) f

-- ---- each clafer

clafer_more : List Clafer → Layout → ℕ → ℕ
clafer_more clafers layout c = option_map_or (clafer_cost clafers layout c) (slice_get clafers c) 0

bounds_next : (clafers : List Clafer) (layout : Layout) (n : ℕ) (k : Clafer) → slice_get clafers n ≡ Some k → n < length clafers → bounds_room clafers layout n + clafer_cost clafers layout n k ≤ bounds_room clafers layout (length clafers)
unfolding clafer_more
bounds_next clafers layout n k at l =
    let r = numbers_room (clafer_more clafers layout) n (length clafers) l in
    let c : clafer_more clafers layout n ≡ clafer_cost clafers layout n k = ap (λ o. option_map_or (clafer_cost clafers layout n) o 0) at in
    omega (arith, r, c)

pub bounds_fit : (old mid : List Gate) (clafers : List Clafer) (layout : Layout) (before d : Demands) (n : ℕ) (k : Clafer) → slice_get clafers n ≡ Some k → AllDemandedSoFar old clafers layout before n mid d
    → length mid + clafer_cost clafers layout n k ≤ length old + bounds_room clafers layout (length clafers)
bounds_fit old mid clafers layout before d n k at s = let r = bounds_next clafers layout n k at (slice_get_within clafers n k at) in let m = s.extends.at_most in omega (arith, r, m)

pub bounds_within : (old mid new : List Gate) (clafers : List Clafer) (layout : Layout) (before d : Demands) (n : ℕ) (k : Clafer) → slice_get clafers n ≡ Some k → AllDemandedSoFar old clafers layout before n mid d
    → Extends mid new (clafer_cost clafers layout n k) → Extends old new (bounds_room clafers layout (length clafers))
bounds_within old mid new clafers layout before d n k at s x =
    extends_within old new (bounds_room clafers layout n + clafer_cost clafers layout n k) (bounds_room clafers layout (length clafers)) (bounds_next clafers layout n k at (slice_get_within clafers n k at))
    (extends_trans old mid new (bounds_room clafers layout n) (clafer_cost clafers layout n k) s.extends x)

pub bounds_more : (old mid new : List Gate) (clafers : List Clafer) (layout : Layout) (before d e : Demands) (n : ℕ) (k : Clafer) → slice_get clafers n ≡ Some k → AllDemandedSoFar old clafers layout before n mid d
    → Extends mid new (clafer_cost clafers layout n k) → IsDemanded mid layout d (clafer_test clafers layout n k) new e → AllDemandedSoFar old clafers layout before (n + 1) new e
unfolding clafer_more
bounds_more old mid new clafers layout before d e n k at s x h = record {
  extends = subst (Extends old new) (sym sum) (extends_trans old mid new (bounds_room clafers layout n) (clafer_cost clafers layout n k) s.extends x);
  demanded = demanded_same old new layout before e (λ bits. clafers_test clafers layout n bits && clafer_test clafers layout n k bits) (clafers_test clafers layout (n + 1))
      (λ bits.
      ap (λ b. clafers_test clafers layout n bits && b) (sym (ap (λ o. option_map_or (λ j. have_times clafers layout bits n j && have_group clafers layout bits n j) o true) at))
      ∙ sym (ap (list_all (met bits)) (numbers-push n) ∙ list_all-push (met bits) (numbers_below n) n))
      (demanded_both old mid new layout before d e (clafers_test clafers layout n) (clafer_test clafers layout n k) s.demanded h);
}
  where
    met : List Bool → ℕ → Bool
    met bits c = option_map_or (λ j. have_times clafers layout bits c j && have_group clafers layout bits c j) (slice_get clafers c) true

    sum : bounds_room clafers layout (n + 1) ≡ bounds_room clafers layout n + clafer_cost clafers layout n k
    sum = numbers_sum (clafer_more clafers layout) n ∙ ap (λ m. bounds_room clafers layout n + m) (ap (λ o. option_map_or (clafer_cost clafers layout n) o 0) at)
