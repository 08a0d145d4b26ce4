-- Integers in a range, one after another.
use Rattle.std.proofs.Common.{◌≡◌, ℕ, zero, suc, ◌+◌, ◌-◌, ◌^◌, ◌<◌, ◌≤◌, Bool, true, false, cond, not, ◌&&◌, ◌||◌, List, [], ◌∷◌, length, take, Option, Some, refl, sym, ap, ◌∙◌, subst, arith, ◌⊎◌, inl, inr, ◌≢◌}
use Rattle.std.specs.Prelude.{slice_get, ◌==◌, ℤ, pos, negsuc, neg_ℤ, ◌+ℤ◌, ◌≤ℤ◌, ◌<ℤ◌, int_le, int_lt}
use Rattle.std.specs.Option.{option_map_or}
use Rattle.std.specs.List.{All, list_all, find, range_with_len}
use Rattle.std.proofs.Common.{to_z, of_z}
use mir.Syntax.{w64}
use mir.Val.{SFits}
use mir.Syntax.{w128}
use Rattle.std.proofs.lemmas.Int.{ints, to_z-of_z}
use Rattle.std.proofs.Math.Facts.{sfits_widen}
use Rattle.std.proofs.lemmas.Bool.{true≢false}
use Rattle.std.proofs.lemmas.Bool.Decides.{eqb_tells}
use Rattle.std.proofs.lemmas.List.{take_all, map-append}
use Rattle.bool_circuit.specs.declared.gate.Wire.{Wire}
use Rattle.bool_circuit.specs.declared.gate.Gate.{Gate}
use Rattle.bool_circuit.specs.Circuit.{wire_value, wire_values, entry, IsWireOf, AreWiresOf, Extends}
use Rattle.bool_circuit.proofs.Extending.{extends_trans, extends_within, wires_stay, wire_values_stay}
use Rattle.integer_bits.specs.Numbers.{integer_of, integer_at, FitsBits}
use Rattle.clf_tree.specs.declared.scopes.Scopes.{Scopes}
use Rattle.clf_tree.specs.Widths.{width, is_held}
use Rattle.set_bits.specs.declared.layout.SlotBits.{SlotBits}
use Rattle.set_bits.specs.declared.layout.Layout.{Layout}
use Rattle.set_bits.specs.Showing.{value_bits}
use Rattle.shown_instance.specs.Shown.{is_live}
use Rattle.shown_instance.specs.Consistent.{is_integer, are_integers}
use Rattle.shown_instance.proofs.Order.{both}
use Rattle.shape_encoder.specs.Reading.{IsBit, IsSlotOf, own_width, integer_cost, integers_room}
use Rattle.shape_encoder.specs.Taking.{IsEnd, IsSome, AreRanged}
use Rattle.shape_encoder.proofs.Steps.{all_item, take_item, list_all-push, sum-push, sum-room, bits_stay, bit_values, bit_wires}

-- ---- how many bits an integer needs

-- a number that passes is found
record FoundNumber (p : ℕ → Bool) (o : Option ℕ) : Type 0 where
  it : ℕ
  found : o ≡ Some it
  passes : p it ≡ true
  positive : 0 < it

number_found : (p : ℕ → Bool) (a k m : ℕ) → 0 < a → a ≤ m → m < a + k → p m ≡ true → FoundNumber p (find p (range_with_len a k))
number_found p a zero m some low high pass = absurd (omega (arith, low, high))
number_found p a (suc k) m some low high pass = by (p a) refl (eqb_tells a m) (number_found p (a + 1) k m)
  where
    by : (b : Bool) → p a ≡ b → ((a == m) ≡ true × a ≡ m) ⊎ ((a == m) ≡ false × a ≢ m) → (0 < a + 1 → a + 1 ≤ m → m < (a + 1) + k → p m ≡ true → FoundNumber p (find p (range_with_len (a + 1) k))) → FoundNumber p (cond (p a) (Some a) (find p (range_with_len (a + 1) k)))
    by true e s rest = record { it = a; found = ap (λ b. cond b (Some a) (find p (range_with_len (a + 1) k))) e; passes = e; positive = some }
    by false e (inl s) rest = absurd (true≢false (sym pass ∙ ap p (sym s.1) ∙ e))
    by false e (inr s) rest =
        let r = rest (omega arith) (omega (arith, low, s.1)) (omega (arith, high)) pass in
        record { it = r.it; found = ap (λ b. cond b (Some a) (find p (range_with_len (a + 1) k))) e ∙ r.found; passes = r.passes; positive = r.positive }

below : (a b : ℤ) → a ≤ℤ b → int_le a b ≡ true
below a b h = grind (arith, ints)

above : (a b : ℤ) → a <ℤ b → int_lt a b ≡ true
above a b h = grind (arith, ints)

shifted : (m : ℕ) (z : ℤ) → int_le (neg_ℤ (pos m)) z ≡ true → pos 0 ≤ℤ (z +ℤ pos m)
shifted m z h = grind (arith, ints)

under : (m : ℕ) (z : ℤ) → int_lt z (pos m) ≡ true → z <ℤ pos m
under m z h = grind (arith, ints)

fits_bounds : (z : ℤ) → SFits w64 z → (neg_ℤ (pos (2 ^ 63)) ≤ℤ z) × (z <ℤ pos (2 ^ 63))
fits_bounds (pos n) f = (omega (arith, ints), omega (arith, ints, f.sfits))
fits_bounds (negsuc n) f = (omega (arith, ints, f.sfits), omega (arith, ints))

pub own_fits : (z : ℤ) → SFits w64 z → (0 < own_width z) × FitsBits (own_width z) z
unfolding width
own_fits z f =
    let b = fits_bounds z f in
    let held : (int_le (neg_ℤ (pos (2 ^ 63))) z && int_lt z (pos (2 ^ 63))) ≡ true = ap (λ c. c && int_lt z (pos (2 ^ 63))) (below (neg_ℤ (pos (2 ^ 63))) z b.0) ∙ above z (pos (2 ^ 63)) b.1 in
    let r = number_found (is_held (record { low = z; high = z })) 1 126 64 (omega arith) (omega arith) (omega arith) held in
    let w : option_map_or (λ bits. bits) (find (is_held (record { low = z; high = z })) (range_with_len 1 126)) 127 ≡ r.it = ap (λ o. option_map_or (λ bits. bits) o 127) r.found in
    let q = both (int_le (neg_ℤ (pos (2 ^ (r.it - 1)))) z) (int_lt z (pos (2 ^ (r.it - 1)))) r.passes in
    (subst (λ n. 0 < n) (sym w) r.positive, subst (λ n. FitsBits n z) (sym w) (record { low = shifted (2 ^ (r.it - 1)) z q.0; high = under (2 ^ (r.it - 1)) z q.1 }))

-- an integer that is passed on
pub passed : (z : ℤ) → SFits w64 z → to_z w128 (of_z w128 (to_z w64 (of_z w64 z))) ≡ z
passed z f = ap (λ y. to_z w128 (of_z w128 y)) (to_z-of_z w64 z f) ∙ to_z-of_z w128 z (sfits_widen {w = w64} {w' = w128} tt f)

-- ---- tests

pub between : (l n h : ℤ) → not (int_lt n l || int_lt h n) ≡ (int_le l n && int_le n h)
between l n h = ap (λ b. not (b || int_lt h n)) (other n l) ∙ ap (λ b. not (not (int_le l n) || b)) (other h n) ∙ twice (int_le l n) (int_le n h)
  where
    other : (a b : ℤ) → int_lt a b ≡ not (int_le b a)
    other a b = grind (arith, ints)

    twice : (a b : Bool) → not (not a || not b) ≡ (a && b)
    twice true true = refl
    twice true false = refl
    twice false b = refl

pub between_wire : (old first second third new : List Gate) (number low high : List Wire) (m n : ℕ) (under over outside inside : Wire) → AreWiresOf old number → AreWiresOf old high → Extends old first m → Extends first second n → IsWireOf first under
    → ((bits : List Bool) → wire_value first under bits ≡ int_lt (integer_at old number bits) (integer_at old low bits))
    → ((bits : List Bool) → wire_value second over bits ≡ int_lt (integer_at first high bits) (integer_at first number bits))
    → ((bits : List Bool) → wire_value third outside bits ≡ (wire_value second under bits || wire_value second over bits))
    → ((bits : List Bool) → wire_value new inside bits ≡ not (wire_value third outside bits))
    → (bits : List Bool) → wire_value new inside bits ≡ (int_le (integer_at old low bits) (integer_at old number bits) && int_le (integer_at old number bits) (integer_at old high bits))
between_wire old first second third new number low high m n under over outside inside ns hs x y u uv ov tv nv bits =
    nv bits ∙ ap not (tv bits ∙ ap (λ b. b || wire_value second over bits) (y.keeps under u bits ∙ uv bits) ∙ ap (λ b. int_lt (integer_at old number bits) (integer_at old low bits) || b)
    (ov bits ∙ ap (λ bs. int_lt (integer_of bs) (integer_at first number bits)) (wire_values_stay old first m high bits x hs) ∙ ap (λ bs. int_lt (integer_at old high bits) (integer_of bs)) (wire_values_stay old first m number bits x ns)))
    ∙ between (integer_at old low bits) (integer_at old number bits) (integer_at old high bits)

pub integer_wire : (old first second new : List Gate) (ws : List Wire) (test : List Bool → Bool) (m n : ℕ) (live inside none wire : Wire) → IsWireOf old live → AreWiresOf old ws → Extends old first m → Extends first second n → IsWireOf first inside
    → ((bits : List Bool) → wire_value first inside bits ≡ test bits)
    → ((bits : List Bool) → wire_value second none bits ≡ list_all not (wire_values first ws bits))
    → ((bits : List Bool) → wire_value new wire bits ≡ cond (wire_value second live bits) (wire_value second inside bits) (wire_value second none bits))
    → (bits : List Bool) → wire_value new wire bits ≡ cond (wire_value old live bits) (test bits) (list_all not (wire_values old ws bits))
integer_wire old first second new ws test m n live inside none wire l all x y i iv nv v bits =
    v bits ∙ ap (λ b. cond b (wire_value second inside bits) (wire_value second none bits)) ((extends_trans old first second m n x y).keeps live l bits)
    ∙ ap (λ b. cond (wire_value old live bits) b (wire_value second none bits)) (y.keeps inside i bits ∙ iv bits)
    ∙ ap (λ b. cond (wire_value old live bits) (test bits) b) (nv bits ∙ ap (list_all not) (wire_values_stay old first m ws bits x all))

pub none_some : (old new : List Gate) (ws : List Wire) (wire : Wire) → Extends old new 1 → IsWireOf new wire → ((bits : List Bool) → wire_value new wire bits ≡ false) → IsSome old ws 0 new wire
none_some old new ws wire x w v = record { extends = x; is_wire = w; value = v }

pub some_more : (old mid new : List Gate) (ws : List Wire) (n : ℕ) (w some wire : Wire) → AreWiresOf old ws → slice_get ws n ≡ Some w → IsSome old ws n mid some → Extends mid new 1 → IsWireOf new wire → ((bits : List Bool) → wire_value new wire bits ≡ (wire_value mid some bits || wire_value mid w bits))
    → IsSome old ws (n + 1) new wire
some_more old mid new ws n w some wire all get s x i v = record {
  extends = extends_within old new ((n + 1) + 1) ((n + 1) + 1) (omega arith) (extends_trans old mid new (n + 1) 1 s.extends x);
  is_wire = i;
  value = λ bits.
      v bits ∙ ap (λ b. b || wire_value mid w bits) (s.value bits) ∙ ap (λ b. not (list_all not (wire_values old (take n ws) bits)) || b) (s.extends.keeps w (all_item (IsWireOf old) ws n w all get) bits)
      ∙ sym (ap (λ xs. not (list_all not (wire_values old xs bits))) (take_item ws n w get)
      ∙ ap (λ bs. not (list_all not bs)) (map-append (λ y. wire_value old y bits) (take n ws) (w ∷ []))
      ∙ ap not (list_all-push not (wire_values old (take n ws) bits) (wire_value old w bits)) ∙ join (list_all not (wire_values old (take n ws) bits)) (wire_value old w bits));
}
  where
    join : (a b : Bool) → not (a && not b) ≡ (not a || b)
    join false b = refl
    join true true = refl
    join true false = refl

pub all_false : (old mid new : List Gate) (ws : List Wire) (some wire : Wire) → IsSome old ws (length ws) mid some → ((bits : List Bool) → wire_value new wire bits ≡ not (wire_value mid some bits)) → (bits : List Bool) → wire_value new wire bits ≡ list_all not (wire_values old ws bits)
all_false old mid new ws some wire s v bits = v bits ∙ ap not (s.value bits ∙ ap (λ xs. not (list_all not (wire_values old xs bits))) (take_all (length ws) ws (omega arith))) ∙ twice (list_all not (wire_values old ws bits))
  where
    twice : (b : Bool) → not (not b) ≡ b
    twice true = refl
    twice false = refl

-- ---- the loop

pub end_stays : (old new : List Gate) (n : ℕ) (z : ℤ) (ws : List Wire) → Extends old new n → IsEnd old z ws → IsEnd new z ws
end_stays old new n z ws x e = record {
  wires = wires_stay old new n ws x e.wires;
  some = e.some;
  width = e.width;
  value = λ bits. ap integer_of (wire_values_stay old new n ws bits x e.wires) ∙ e.value bits;
}

pub none_ranged : (old first new : List Gate) (scopes : Scopes) (layout : Layout) (low high : List Wire) (wire : Wire) → Extends old first 4 → Extends first new 1 → IsEnd first scopes.low low → IsEnd first scopes.high high
    → IsWireOf new wire → ((bits : List Bool) → wire_value new wire bits ≡ true) → AreRanged old scopes layout 0 new low high wire
none_ranged old first new scopes layout low high wire x y l h w v = record {
  extends = extends_within old new (4 + 1) (0 + 5) (omega arith) (extends_trans old first new 4 1 x y);
  least = end_stays first new 1 scopes.low low y l;
  most = end_stays first new 1 scopes.high high y h;
  is_wire = w;
  value = v;
}

pub cost_same : (gates : List Gate) (scopes : Scopes) (low high : List Wire) (v : SlotBits) → IsEnd gates scopes.low low → IsEnd gates scopes.high high → integer_cost (length low) (length high) (length v.bits) ≡ integer_cost (own_width scopes.low) (own_width scopes.high) (length v.bits)
cost_same gates scopes low high v l h = ap (λ n. integer_cost n (length high) (length v.bits)) l.width ∙ ap (λ n. integer_cost (own_width scopes.low) n (length v.bits)) h.width

pub ranged_room : (scopes : Scopes) (layout : Layout) (n : ℕ) (v : SlotBits) → slice_get layout.values n ≡ Some v → integers_room scopes (take n layout.values) + (integer_cost (own_width scopes.low) (own_width scopes.high) (length v.bits) + 1) ≤ integers_room scopes layout.values
ranged_room scopes layout n v get = sum-room (λ (x : SlotBits). integer_cost (own_width scopes.low) (own_width scopes.high) (length x.bits) + 1) layout.values n v get

pub ranged_more : (old mid next new : List Gate) (scopes : Scopes) (layout : Layout) (n : ℕ) (v : SlotBits) (live : Wire) (low high : List Wire) (all right wire : Wire) → All (IsBit old) layout.live → All (IsSlotOf old (length layout.live)) layout.values → slice_get layout.values n ≡ Some v → slice_get layout.live v.slot ≡ Some live
    → AreRanged old scopes layout n mid low high all → Extends mid next (integer_cost (length low) (length high) (length v.bits)) → Extends next new 1 → IsWireOf new wire
    → ((bits : List Bool) → wire_value next right bits ≡ cond (wire_value mid live bits) (int_le (integer_at mid low bits) (integer_at mid v.bits bits) && int_le (integer_at mid v.bits bits) (integer_at mid high bits)) (list_all not (wire_values mid v.bits bits)))
    → ((bits : List Bool) → wire_value new wire bits ≡ (wire_value next all bits && wire_value next right bits)) → AreRanged old scopes layout (n + 1) new low high wire
ranged_more old mid next new scopes layout n v live low high all right wire lives slots get at s x y w rv wv = record {
  extends = extends_within old new ((integers_room scopes (take n layout.values) + 5) + (integer_cost (length low) (length high) (length v.bits) + 1)) (integers_room scopes (take (n + 1) layout.values) + 5)
      (let c = cost_same mid scopes low high v s.least s.most in let m = sum-push (λ (u : SlotBits). integer_cost (own_width scopes.low) (own_width scopes.high) (length u.bits) + 1) layout.values n v get in omega (arith, c, m))
      (extends_trans old mid new (integers_room scopes (take n layout.values) + 5) (integer_cost (length low) (length high) (length v.bits) + 1) s.extends further);
  least = end_stays mid new (integer_cost (length low) (length high) (length v.bits) + 1) scopes.low low further s.least;
  most = end_stays mid new (integer_cost (length low) (length high) (length v.bits) + 1) scopes.high high further s.most;
  is_wire = w;
  value = λ bits.
      wv bits ∙ ap (λ b. b && wire_value next right bits) (x.keeps all s.is_wire bits ∙ s.value bits) ∙ ap (λ b. list_all (is_integer scopes layout bits) (take n layout.values) && b) (rv bits ∙ told bits)
      ∙ sym (ap (list_all (is_integer scopes layout bits)) (take_item layout.values n v get) ∙ list_all-push (is_integer scopes layout bits) (take n layout.values) v);
}
  where
    further : Extends mid new (integer_cost (length low) (length high) (length v.bits) + 1)
    further = extends_trans mid next new (integer_cost (length low) (length high) (length v.bits)) 1 x y

    mine : IsSlotOf old (length layout.live) v
    mine = all_item (IsSlotOf old (length layout.live)) layout.values n v slots get

    spelled : (bits : List Bool) → wire_values mid v.bits bits ≡ value_bits bits v
    spelled bits = bit_values mid v.bits bits (bits_stay old mid (integers_room scopes (take n layout.values) + 5) v.bits s.extends mine.bits)

    alive : (bits : List Bool) → wire_value mid live bits ≡ is_live layout bits v.slot
    alive bits = let b = all_item (IsBit old) layout.live v.slot live lives at in s.extends.keeps live b.wire bits ∙ b.value bits ∙ sym (ap (λ o. option_map_or (entry bits) o false) at)

    told : (bits : List Bool) → cond (wire_value mid live bits) (int_le (integer_at mid low bits) (integer_at mid v.bits bits) && int_le (integer_at mid v.bits bits) (integer_at mid high bits)) (list_all not (wire_values mid v.bits bits)) ≡ is_integer scopes layout bits v
    told bits =
        ap (λ b. cond b (int_le (integer_at mid low bits) (integer_at mid v.bits bits) && int_le (integer_at mid v.bits bits) (integer_at mid high bits)) (list_all not (wire_values mid v.bits bits))) (alive bits)
        ∙ ap (λ z. cond (is_live layout bits v.slot) (int_le z (integer_at mid v.bits bits) && int_le (integer_at mid v.bits bits) (integer_at mid high bits)) (list_all not (wire_values mid v.bits bits))) (s.least.value bits)
        ∙ ap (λ z. cond (is_live layout bits v.slot) (int_le scopes.low (integer_at mid v.bits bits) && int_le (integer_at mid v.bits bits) z) (list_all not (wire_values mid v.bits bits))) (s.most.value bits)
        ∙ ap (λ bs. cond (is_live layout bits v.slot) (int_le scopes.low (integer_of bs) && int_le (integer_of bs) scopes.high) (list_all not bs)) (spelled bits)

-- ---- what a step of the loop owes

pub slot_of : (old : List Gate) (layout : Layout) (n : ℕ) (v : SlotBits) → All (IsSlotOf old (length layout.live)) layout.values → slice_get layout.values n ≡ Some v → IsSlotOf old (length layout.live) v
slot_of old layout n v all get = all_item (IsSlotOf old (length layout.live)) layout.values n v all get

pub live_wire : (old mid : List Gate) (n : ℕ) (live : List Wire) (k : ℕ) (w : Wire) → All (IsBit old) live → slice_get live k ≡ Some w → Extends old mid n → IsWireOf mid w
live_wire old mid n live k w all get x = let i = (all_item (IsBit old) live k w all get).wire in omega (arith, i, x.at_least)

pub value_wires_in : (old mid : List Gate) (m : ℕ) (layout : Layout) (n : ℕ) (v : SlotBits) → All (IsSlotOf old (length layout.live)) layout.values → slice_get layout.values n ≡ Some v → Extends old mid m → AreWiresOf mid v.bits
value_wires_in old mid m layout n v all get x = bit_wires mid v.bits (bits_stay old mid m v.bits x (slot_of old layout n v all get).bits)

pub ranged_fits : (old mid : List Gate) (scopes : Scopes) (layout : Layout) (n : ℕ) (v : SlotBits) (low high : List Wire) (all : Wire) → slice_get layout.values n ≡ Some v → AreRanged old scopes layout n mid low high all
    → length mid + (integer_cost (length low) (length high) (length v.bits) + 1) ≤ length old + (integers_room scopes layout.values + 5)
ranged_fits old mid scopes layout n v low high all get s =
    let c = cost_same mid scopes low high v s.least s.most in
    let r = ranged_room scopes layout n v get in
    let m = s.extends.at_most in
    subst (λ k. length mid + (k + 1) ≤ length old + (integers_room scopes layout.values + 5)) (sym c) (omega (arith, r, m))

pub ranged_within : (old mid new : List Gate) (scopes : Scopes) (layout : Layout) (n : ℕ) (v : SlotBits) (low high : List Wire) (all : Wire) → slice_get layout.values n ≡ Some v → AreRanged old scopes layout n mid low high all
    → Extends mid new (integer_cost (length low) (length high) (length v.bits) + 1) → Extends old new (integers_room scopes layout.values + 5)
ranged_within old mid new scopes layout n v low high all get s x =
    let c = cost_same mid scopes low high v s.least s.most in
    let r = ranged_room scopes layout n v get in
    extends_within old new ((integers_room scopes (take n layout.values) + 5) + (integer_cost (own_width scopes.low) (own_width scopes.high) (length v.bits) + 1)) (integers_room scopes layout.values + 5) (omega (arith, r))
    (extends_trans old mid new (integers_room scopes (take n layout.values) + 5) (integer_cost (own_width scopes.low) (own_width scopes.high) (length v.bits) + 1) s.extends (subst (λ k. Extends mid new (k + 1)) c x))

pub one_more : (a b : List Gate) (n : ℕ) → Extends a b n → Extends a b (n + 1)
one_more a b n x = extends_within a b n (n + 1) (omega arith) x

pub ranged_all : (old new : List Gate) (scopes : Scopes) (layout : Layout) (low high : List Wire) (wire : Wire) → AreRanged old scopes layout (length layout.values) new low high wire → (bits : List Bool) → wire_value new wire bits ≡ are_integers scopes layout bits
ranged_all old new scopes layout low high wire s bits = s.value bits ∙ ap (list_all (is_integer scopes layout bits)) (take_all (length layout.values) layout.values (omega arith))
