-- One step of each loop, and what each ends with.
use Rattle.std.proofs.Common.{◌≡◌, ℕ, zero, suc, ◌+◌, ◌*◌, ◌^◌, ◌<◌, ◌≤◌, Bool, true, false, not, ◌&&◌, ◌||◌, List, [], ◌∷◌, ◌++◌, length, map, take, get_or, Some, refl, sym, ap, ◌∙◌, subst, arith, append_assoc}
use Rattle.std.specs.Prelude.{◌==◌, nat_eq, nat_le, slice_get}
use Rattle.std.specs.List.{All, filter, list_all, flat_map}
use Rattle.std.proofs.lemmas.Bool.Decides.{nat_tests}
use Rattle.std.proofs.lemmas.Option.{get_or_from_slice_get, slice_get-get_or, slice_get_within}
use Rattle.std.proofs.lemmas.List.{length-map, length-take-le, length_push, map-append, take_more, flat_map_more}
use Rattle.std.proofs.lemmas.List.Elements.{All-head, All-tail, All-push, filter-append}
use Rattle.bool_circuit.specs.declared.gate.Wire.{Wire}
use Rattle.bool_circuit.specs.declared.gate.Gate.{Gate}
use Rattle.bool_circuit.specs.Circuit.{wire_value, wire_values, IsWireOf, AreWiresOf, Extends}
use Rattle.bool_circuit.proofs.Extending.{extends_trans, extends_within, wires_stay, wire_values_stay}
use Rattle.integer_bits.specs.Totals.{count_true}
use Rattle.clf_tree.specs.declared.core_expr.Quantifier.{Quantifier}
use Rattle.clf_tree.specs.declared.core_expr.Quantifier.TheVariants as word
use Rattle.set_bits.specs.declared.sets.Member.{Member}
use Rattle.set_bits.specs.Sets.{is_in, AscendFrom, IsSetOf}
use Rattle.set_bits.proofs.Combining.{is_in_stays, members_stay, or_false}
use Rattle.told_constraints.specs.Told.{tried_slots}
use Rattle.quantifier_encoder.specs.declared.tuples.Tuple.{Tuple}
use Rattle.quantifier_encoder.specs.Tuples.{slots_of, slots_each, guards, longer_tuples, may_follow, IsGuarded, AreTuples, AreLongerSoFar, AreExtendedSoFar, AreTuplesSoFar}
use Rattle.quantifier_encoder.specs.Passing.{all_pass, some_passes, passing, passes_present, IsToldSoFar, ArePassingSoFar}
use Rattle.quantifier_encoder.proofs.Behind.{tried-behind, tried_none, list_all-push}
use Rattle.quantifier_encoder.proofs.Weighed.{one_round, rounds_grow, tried_few}

all_item : {X : Type 0} (P : X → Type 0) (xs : List X) (i : ℕ) (x : X) → All P xs → slice_get xs i ≡ Some x → P x
all_item P xs i x a e = subst P (get_or_from_slice_get xs i x x e) (a i x (slice_get_within xs i x e))

take_item : {X : Type 0} (xs : List X) (i : ℕ) (x : X) → slice_get xs i ≡ Some x → take (i + 1) xs ≡ take i xs ++ x ∷ []
take_item xs i x e = take_more xs i x (slice_get_within xs i x e) ∙ ap (λ y. take i xs ++ y ∷ []) (get_or_from_slice_get xs i x x e)

map_item : {X Y : Type 0} (f : X → Y) (xs : List X) (i : ℕ) (x : X) → slice_get xs i ≡ Some x → map f (take (i + 1) xs) ≡ map f (take i xs) ++ f x ∷ []
map_item f xs i x e = ap (map f) (take_item xs i x e) ∙ map-append f (take i xs) (x ∷ [])

list_all_same : {X : Type 0} (p q : X → Bool) → ((x : X) → p x ≡ q x) → (xs : List X) → list_all p xs ≡ list_all q xs
list_all_same p q h [] = refl
list_all_same p q h (x ∷ xs) = (let a = h x in let b = list_all_same p q h xs in cc)

-- ---- sets and tuples in a circuit that grows

set_stays : (old new : List Gate) (n : ℕ) (set : List Member) → Extends old new n → IsSetOf old set → IsSetOf new set
set_stays old new n set x s = record { ascending = s.ascending; wires = members_stay n old new set x s.wires }

still_in : (old new : List Gate) (n : ℕ) (set : List Member) (bits : List Bool) → Extends old new n → IsSetOf old set → (slots : List ℕ) → list_all (λ s. is_in old set s bits) slots ≡ list_all (λ s. is_in new set s bits) slots
still_in old new n set bits x s slots = list_all_same (λ k. is_in old set k bits) (λ k. is_in new set k bits) (λ k. sym (is_in_stays n old new set k bits x s.wires)) slots

guard_stays : (old new : List Gate) (n : ℕ) (set : List Member) (t : Tuple) → Extends old new n → IsSetOf old set → IsGuarded old set t → IsGuarded new set t
guard_stays old new n set t x s g = record {
  wire = (let w = g.wire in let l = x.at_least in omega arith);
  value = λ bits. x.keeps t.present g.wire bits ∙ g.value bits ∙ still_in old new n set bits x s t.slots;
}

guards_kept : (old new : List Gate) (n : ℕ) (set : List Member) (ts : List Tuple) → Extends old new n → IsSetOf old set → All (IsGuarded old set) ts → All (IsGuarded new set) ts
guards_kept old new n set ts x s h = λ k d l. guard_stays old new n set (get_or ts k d) x s (h k d l)

-- a slot is in a set where the wire of its member is true
own_wire : (gates : List Gate) (set : List Member) (n i : ℕ) (m : Member) (bits : List Bool) → AscendFrom n set → slice_get set i ≡ Some m → (n ≤ m.slot) × (is_in gates set m.slot bits ≡ wire_value gates m.here bits)
own_wire gates [] n i m bits h e = absurd cc
own_wire gates (x ∷ xs) n zero m bits h e =
    let d : x ≡ m = the_same e in
    subst (λ y. (n ≤ y.slot) × (is_in gates (x ∷ xs) y.slot bits ≡ wire_value gates y.here bits)) d (h.0, own)
  where
    the_same : {x y : Member} → Some x ≡ Some y → x ≡ y
    the_same e = cc

    equal : (a : ℕ) → nat_eq a a ≡ true
    equal a = grind (arith, nat_tests)

    below : (n a : ℕ) (xs : List Member) → a < n → AscendFrom n xs → is_in gates xs a bits ≡ false
    below n a [] l h = refl
    below n a (y ∷ ys) l h = (let k = h.0 in ap (λ b. (b && wire_value gates y.here bits) || is_in gates ys a bits) (differ y.slot a (omega arith)) ∙ below (y.slot + 1) a ys (omega arith) h.1)
      where
        differ : (a b : ℕ) → b < a → nat_eq a b ≡ false
        differ a b h = grind (arith, nat_tests)

    own : is_in gates (x ∷ xs) x.slot bits ≡ wire_value gates x.here bits
    own =
        ap (λ b. (b && wire_value gates x.here bits) || is_in gates xs x.slot bits) (equal x.slot)
        ∙ ap (λ b. wire_value gates x.here bits || b) (below (x.slot + 1) x.slot xs (omega arith) h.1) ∙ or_false (wire_value gates x.here bits)
own_wire gates (x ∷ xs) n (suc i) m bits h e =
    let r = own_wire gates xs (x.slot + 1) i m bits h.1 e in
    let l = h.0 in
    let k = r.0 in
    (omega arith, ap (λ b. (b && wire_value gates x.here bits) || is_in gates xs m.slot bits) (differ x.slot m.slot (omega arith)) ∙ r.1)
  where
    differ : (a b : ℕ) → a < b → nat_eq a b ≡ false
    differ a b h = grind (arith, nat_tests)

-- ---- a tuple that is one longer

longer_guarded : (old new : List Gate) (set : List Member) (i : ℕ) (m : Member) (t r : Tuple) → IsSetOf old set → slice_get set i ≡ Some m → IsGuarded old set t → Extends old new 1
    → r.slots ≡ t.slots ++ m.slot ∷ [] → IsWireOf new r.present → ((bits : List Bool) → wire_value new r.present bits ≡ (wire_value old t.present bits && wire_value old m.here bits)) → IsGuarded new set r
longer_guarded old new set i m t r s e g x slots w v = record {
  wire = w;
  value = λ bits. v bits ∙ (let a = g.value bits in let b = (own_wire old set 0 i m bits s.ascending e).1 in joined bits a (sym b))
      ∙ sym (list_all-push (λ k. is_in old set k bits) t.slots m.slot) ∙ ap (list_all (λ k. is_in old set k bits)) (sym slots) ∙ still_in old new 1 set bits x s r.slots;
}
  where
    joined : (bits : List Bool) {a b c d : Bool} → a ≡ c → b ≡ d → (a && b) ≡ (c && d)
    joined bits e f = cc

pub guarded_pushed : (old new : List Gate) (set : List Member) (i : ℕ) (m : Member) (t r : Tuple) (longer more : List Tuple) → IsSetOf old set → slice_get set i ≡ Some m → IsGuarded old set t → All (IsGuarded old set) longer
    → Extends old new 1 → r.slots ≡ t.slots ++ m.slot ∷ [] → IsWireOf new r.present → ((bits : List Bool) → wire_value new r.present bits ≡ (wire_value old t.present bits && wire_value old m.here bits))
    → more ≡ longer ++ r ∷ [] → All (IsGuarded new set) more
guarded_pushed old new set i m t r longer more s e g all x slots w v p =
    subst (λ ts. All (IsGuarded new set) ts) (sym p)
    (All-push (IsGuarded new set) longer r (guards_kept old new 1 set longer x s all) (longer_guarded old new set i m t r s e g x slots w v))

longer_tuples-push : (disj : Bool) (xs : List ℕ) (x : ℕ) (t : List ℕ) → longer_tuples disj (xs ++ x ∷ []) t ≡ longer_tuples disj xs t ++ longer_tuples disj (x ∷ []) t
longer_tuples-push disj xs x t =
    ap (map (λ y. t ++ y ∷ [])) (filter-append (may_follow disj t) xs (x ∷ [])) ∙ map-append (λ y. t ++ y ∷ []) (filter (may_follow disj t) xs) (filter (may_follow disj t) (x ∷ []))

abbrev pub no_member : Member
no_member = record { slot = 0; here = record { number = 0 } }

pub longer_more : (old mid new : List Gate) (set : List Member) (disj : Bool) (t : Tuple) (before longer more : List Tuple) (i : ℕ) → AreLongerSoFar old set disj t before i mid longer → i < length set → Extends mid new 1
    → All (IsGuarded new set) more → ((m : Member) → slice_get set i ≡ Some m → slots_each more ≡ slots_each longer ++ longer_tuples disj (m.slot ∷ []) t.slots) → AreLongerSoFar old set disj t before (i + 1) new more
longer_more old mid new set disj t before longer more i s l x g e = record {
  extends = extends_trans old mid new i 1 s.extends x;
  in_set = set_stays mid new 1 set x s.in_set;
  tuple = guard_stays mid new 1 set t x s.in_set s.tuple;
  guarded = g;
  slots = at (get_or set i no_member) (slice_get-get_or set i no_member l);
}
  where
    at : (m : Member) → slice_get set i ≡ Some m → slots_each more ≡ slots_each before ++ longer_tuples disj (slots_of (take (i + 1) set)) t.slots
    at m f =
        e m f ∙ ap (λ ts. ts ++ longer_tuples disj (m.slot ∷ []) t.slots) s.slots
        ∙ append_assoc (slots_each before) (longer_tuples disj (slots_of (take i set)) t.slots) (longer_tuples disj (m.slot ∷ []) t.slots)
        ∙ ap (λ ts. slots_each before ++ ts) (sym (longer_tuples-push disj (slots_of (take i set)) m.slot t.slots))
        ∙ ap (λ xs. slots_each before ++ longer_tuples disj xs t.slots) (sym (map_item (λ (m : Member). m.slot) set i m f))

pub extended_more : (old mid new : List Gate) (set : List Member) (disj : Bool) (ts longer more : List Tuple) (i : ℕ) (t : Tuple) → AreExtendedSoFar old set disj ts i mid longer → slice_get ts i ≡ Some t → Extends mid new (length set)
    → All (IsGuarded new set) more → slots_each more ≡ slots_each longer ++ longer_tuples disj (slots_of set) t.slots → AreExtendedSoFar old set disj ts (i + 1) new more
extended_more old mid new set disj ts longer more i t s e x g f = record {
  extends = extends_within old new (i * length set + length set) ((i + 1) * length set) (omega arith) (extends_trans old mid new (i * length set) (length set) s.extends x);
  in_set = set_stays mid new (length set) set x s.in_set;
  tuples = guards_kept mid new (length set) set ts x s.in_set s.tuples;
  guarded = g;
  slots =
      f ∙ ap (λ l. l ++ longer_tuples disj (slots_of set) t.slots) s.slots ∙ flat_map_more (longer_tuples disj (slots_of set)) [] (slots_each (take i ts)) t.slots
      ∙ ap (flat_map (longer_tuples disj (slots_of set))) (sym (map_item (λ (t : Tuple). t.slots) ts i t e));
}

-- ---- rounds

pub first_tuples : (old new : List Gate) (set : List Member) (disj : Bool) (ts : List Tuple) → IsSetOf old set → Extends old new 1 → All (IsGuarded new set) ts → slots_each ts ≡ [] ∷ [] → AreTuplesSoFar old set disj 0 new ts
first_tuples old new set disj ts s x g e = record {
  extends = extends_within old new 1 (0 * length set ^ 0 + 1) (omega arith) x;
  in_set = set_stays old new 1 set x s;
  guarded = g;
  slots = e ∙ sym (tried_none disj (slots_of set));
}

so_many : (set : List Member) (disj : Bool) (i : ℕ) (ts : List Tuple) → slots_each ts ≡ tried_slots disj i (slots_of set) → length ts ≤ length set ^ i
so_many set disj i ts e =
    let a = length-map ts (λ (t : Tuple). t.slots) in
    let b : length (slots_each ts) ≡ length (tried_slots disj i (slots_of set)) = ap length e in
    let d = tried_few disj i (slots_of set) in
    let f : length (slots_of set) ^ i ≡ length set ^ i = ap (λ k. k ^ i) (length-map set (λ (m : Member). m.slot)) in
    omega (arith, a, b, d, f)

after : (i : ℕ) → suc i ≡ i + 1
after i = omega arith

one_more : (n i t : ℕ) → t ≤ n ^ i → (i * n ^ i + 1) + t * n ≤ (i + 1) * n ^ (i + 1) + 1
one_more n i t h = subst (λ k. (i * n ^ i + 1) + t * n ≤ k * n ^ k + 1) (after i) (one_round n i t h)

pub round_more : (old mid new : List Gate) (set : List Member) (disj : Bool) (i : ℕ) (ts longer : List Tuple) → AreTuplesSoFar old set disj i mid ts → Extends mid new (length ts * length set) → All (IsGuarded new set) longer
    → slots_each longer ≡ flat_map (longer_tuples disj (slots_of set)) (slots_each ts) → AreTuplesSoFar old set disj (i + 1) new longer
round_more old mid new set disj i ts longer s x g e = record {
  extends = extends_within old new ((i * length set ^ i + 1) + length ts * length set) ((i + 1) * length set ^ (i + 1) + 1) (one_more (length set) i (length ts) (so_many set disj i ts s.slots))
      (extends_trans old mid new (i * length set ^ i + 1) (length ts * length set) s.extends x);
  in_set = set_stays mid new (length ts * length set) set x s.in_set;
  guarded = g;
  slots = e ∙ ap (flat_map (longer_tuples disj (slots_of set))) s.slots ∙ sym (tried-behind disj i (slots_of set)) ∙ ap (λ k. tried_slots disj k (slots_of set)) (after i);
}

-- a round has room
pub round_room : (old mid : List Gate) (set : List Member) (disj : Bool) (i names most : ℕ) (ts : List Tuple) → AreTuplesSoFar old set disj i mid ts → i < names → length old + (names * length set ^ names + 1) ≤ most
    → length mid + length ts * length set ≤ most
round_room old mid set disj i names most ts s l r =
    let a = one_more (length set) i (length ts) (so_many set disj i ts s.slots) in
    let b = rounds_grow (length set) (i + 1) names (omega arith) in
    let m = s.extends.at_most in
    omega (arith, a, b, m, r)

-- so does one on the way to an error
pub round_within : (old mid new : List Gate) (set : List Member) (disj : Bool) (i names : ℕ) (ts : List Tuple) → AreTuplesSoFar old set disj i mid ts → i < names → Extends mid new (length ts * length set)
    → Extends old new (names * length set ^ names + 1)
round_within old mid new set disj i names ts s l x =
    let a = one_more (length set) i (length ts) (so_many set disj i ts s.slots) in
    let b = rounds_grow (length set) (i + 1) names (omega arith) in
    extends_within old new ((i * length set ^ i + 1) + length ts * length set) (names * length set ^ names + 1) (omega (arith, a, b))
    (extends_trans old mid new (i * length set ^ i + 1) (length ts * length set) s.extends x)

guards_are : (gates : List Gate) (set : List Member) (ts : List Tuple) (bits : List Bool) → All (IsGuarded gates set) ts → guards gates ts bits ≡ map (list_all (λ s. is_in gates set s bits)) (slots_each ts)
guards_are gates set [] bits h = refl
guards_are gates set (t ∷ ts) bits h =
    let a = (All-head (IsGuarded gates set) t ts h).value bits in
    let b = guards_are gates set ts bits (All-tail (IsGuarded gates set) t ts h) in
    cc

pub rounds_end : (old new : List Gate) (set : List Member) (disj : Bool) (i names : ℕ) (ts : List Tuple) → IsSetOf old set → AreTuplesSoFar old set disj i new ts → i ≡ names → AreTuples new old set disj names ts
rounds_end old new set disj i names ts h s e = subst (λ k. AreTuples new old set disj k ts) e (record {
  slots = s.slots;
  wires = λ k d l. (s.guarded k d l).wire;
  present = λ bits. guards_are new set ts bits s.guarded ∙ ap (map (list_all (λ k. is_in new set k bits))) s.slots
      ∙ each_same bits (tried_slots disj i (slots_of set));
})
  where
    each_same : (bits : List Bool) (tt : List (List ℕ)) → map (list_all (λ k. is_in new set k bits)) tt ≡ map (list_all (λ k. is_in old set k bits)) tt
    each_same bits [] = refl
    each_same bits (t ∷ rest) = (let a = still_in old new (i * length set ^ i + 1) set bits s.extends h t in let b = each_same bits rest in cc)

pub rounds_few : (old new : List Gate) (set : List Member) (disj : Bool) (i names : ℕ) (ts : List Tuple) → AreTuplesSoFar old set disj i new ts → i ≡ names → length ts ≤ length set ^ names
rounds_few old new set disj i names ts s e = subst (λ k. length ts ≤ length set ^ k) e (so_many set disj i ts s.slots)

-- ---- passing

guard_item : (gates : List Gate) (ts : List Tuple) (i : ℕ) (t : Tuple) (bits : List Bool) → slice_get ts i ≡ Some t → guards gates (take (i + 1) ts) bits ≡ guards gates (take i ts) bits ++ wire_value gates t.present bits ∷ []
guard_item gates ts i t bits e = map_item (λ (t : Tuple). wire_value gates t.present bits) ts i t e

value_item : (gates : List Gate) (ws : List Wire) (i : ℕ) (w : Wire) (bits : List Bool) → slice_get ws i ≡ Some w → wire_values gates (take (i + 1) ws) bits ≡ wire_values gates (take i ws) bits ++ wire_value gates w bits ∷ []
value_item gates ws i w bits e = map_item (λ (w : Wire). wire_value gates w bits) ws i w e

equally_long : (gates : List Gate) (ts : List Tuple) (ws : List Wire) (i : ℕ) (t : Tuple) (w : Wire) (bits : List Bool) → slice_get ts i ≡ Some t → slice_get ws i ≡ Some w → length (guards gates (take i ts) bits) ≡ length (wire_values gates (take i ws) bits)
equally_long gates ts ws i t w bits e f =
    let a = length-map (take i ts) (λ (t : Tuple). wire_value gates t.present bits) in
    let b = length-map (take i ws) (λ (w : Wire). wire_value gates w bits) in
    let l = slice_get_within ts i t e in
    let k = slice_get_within ws i w f in
    let m = length-take-le i ts (omega arith) in
    let n = length-take-le i ws (omega arith) in
    omega (arith, a, b, m, n)

-- the guard and the test at a place are wires, which keep their values
guard_keeps : (old mid : List Gate) (n : ℕ) (ts : List Tuple) (i : ℕ) (t : Tuple) (bits : List Bool) → All (λ t. IsWireOf old t.present) ts → slice_get ts i ≡ Some t → Extends old mid n → wire_value mid t.present bits ≡ wire_value old t.present bits
guard_keeps old mid n ts i t bits h e x = x.keeps t.present (all_item (λ (t : Tuple). IsWireOf old t.present) ts i t h e) bits

test_keeps : (old mid : List Gate) (n : ℕ) (ws : List Wire) (i : ℕ) (w : Wire) (bits : List Bool) → AreWiresOf old ws → slice_get ws i ≡ Some w → Extends old mid n → wire_value mid w bits ≡ wire_value old w bits
test_keeps old mid n ws i w bits h e x = x.keeps w (all_item (IsWireOf old) ws i w h e) bits

pub guard_wire : (old mid : List Gate) (n : ℕ) (ts : List Tuple) (i : ℕ) (t : Tuple) → All (λ t. IsWireOf old t.present) ts → slice_get ts i ≡ Some t → Extends old mid n → IsWireOf mid t.present
guard_wire old mid n ts i t h e x = (let w = all_item (λ (t : Tuple). IsWireOf old t.present) ts i t h e in let l = x.at_least in omega arith)

pub test_wire : (old mid : List Gate) (n : ℕ) (ws : List Wire) (i : ℕ) (w : Wire) → AreWiresOf old ws → slice_get ws i ≡ Some w → Extends old mid n → IsWireOf mid w
test_wire old mid n ws i w h e x = (let k = all_item (IsWireOf old) ws i w h e in let l = x.at_least in omega arith)

module _ (whole : List Bool → List Bool → Bool) (step : Bool → Bool → Bool → Bool)
    (push : (ps qs : List Bool) (p q : Bool) → length ps ≡ length qs → whole (ps ++ p ∷ []) (qs ++ q ∷ []) ≡ step (whole ps qs) p q) where
  told_more : (cost : ℕ) (old mid new : List Gate) (ts : List Tuple) (ws : List Wire) (i : ℕ) (t : Tuple) (x w more : Wire) → IsToldSoFar whole cost old ts ws i mid w → slice_get ts i ≡ Some t → slice_get ws i ≡ Some x
      → All (λ t. IsWireOf old t.present) ts → AreWiresOf old ws → Extends mid new cost → IsWireOf new more
      → ((bits : List Bool) → wire_value new more bits ≡ step (wire_value mid w bits) (wire_value mid t.present bits) (wire_value mid x bits)) → IsToldSoFar whole cost old ts ws (i + 1) new more
  told_more cost old mid new ts ws i t x w more s e f h k ext wi v = record {
    extends = extends_within old new ((cost * i + 1) + cost) (cost * (i + 1) + 1) (omega arith) (extends_trans old mid new (cost * i + 1) cost s.extends ext);
    wire = wi;
    value = λ bits.
        v bits ∙ three (s.value bits) (guard_keeps old mid (cost * i + 1) ts i t bits h e s.extends) (test_keeps old mid (cost * i + 1) ws i x bits k f s.extends)
        ∙ sym (push (guards old (take i ts) bits) (wire_values old (take i ws) bits) (wire_value old t.present bits) (wire_value old x bits) (equally_long old ts ws i t x bits e f))
        ∙ sym (two (guard_item old ts i t bits e) (value_item old ws i x bits f));
  }
    where
      three : {a b c d e f : Bool} → a ≡ d → b ≡ e → c ≡ f → step a b c ≡ step d e f
      three p q r = cc

      two : {a b c d : List Bool} → a ≡ c → b ≡ d → whole a b ≡ whole c d
      two p q = cc

abbrev pub each_step : Bool → Bool → Bool → Bool
each_step a p q = a && (not p || q)

abbrev pub one_step : Bool → Bool → Bool → Bool
one_step a p q = a || (p && q)

no_empty : (n : ℕ) → 0 ≡ suc n → ⊥
no_empty n e = omega arith

all_pass-push : (ps qs : List Bool) (p q : Bool) → length ps ≡ length qs → all_pass (ps ++ p ∷ []) (qs ++ q ∷ []) ≡ each_step (all_pass ps qs) p q
all_pass-push [] [] p q e = last (not p || q)
  where
    last : (b : Bool) → (b && true) ≡ (true && b)
    last true = refl
    last false = refl
all_pass-push [] (b ∷ qs) p q e = absurd (no_empty (length qs) e)
all_pass-push (a ∷ ps) [] p q e = absurd (no_empty (length ps) (sym e))
all_pass-push (a ∷ ps) (b ∷ qs) p q e = ap (λ r. (not a || b) && r) (all_pass-push ps qs p q (omega arith)) ∙ regroup (not a || b) (all_pass ps qs) (not p || q)
  where
    regroup : (x y z : Bool) → (x && (y && z)) ≡ ((x && y) && z)
    regroup true y z = refl
    regroup false y z = refl

some_passes-push : (ps qs : List Bool) (p q : Bool) → length ps ≡ length qs → some_passes (ps ++ p ∷ []) (qs ++ q ∷ []) ≡ one_step (some_passes ps qs) p q
some_passes-push [] [] p q e = or_false (p && q)
some_passes-push [] (b ∷ qs) p q e = absurd (no_empty (length qs) e)
some_passes-push (a ∷ ps) [] p q e = absurd (no_empty (length ps) (sym e))
some_passes-push (a ∷ ps) (b ∷ qs) p q e = ap (λ r. (a && b) || r) (some_passes-push ps qs p q (omega arith)) ∙ regroup (a && b) (some_passes ps qs) (p && q)
  where
    regroup : (x y z : Bool) → (x || (y || z)) ≡ ((x || y) || z)
    regroup true y z = refl
    regroup false y z = refl

passing-push : (ps qs : List Bool) (p q : Bool) → length ps ≡ length qs → passing (ps ++ p ∷ []) (qs ++ q ∷ []) ≡ passing ps qs ++ (p && q) ∷ []
passing-push [] [] p q e = refl
passing-push [] (b ∷ qs) p q e = absurd (no_empty (length qs) e)
passing-push (a ∷ ps) [] p q e = absurd (no_empty (length ps) (sym e))
passing-push (a ∷ ps) (b ∷ qs) p q e = ap (λ r. (a && b) ∷ r) (passing-push ps qs p q (omega arith))

pub each_more : (old mid new : List Gate) (ts : List Tuple) (ws : List Wire) (i : ℕ) (t : Tuple) (x w more : Wire) → IsToldSoFar all_pass 3 old ts ws i mid w → slice_get ts i ≡ Some t → slice_get ws i ≡ Some x
    → All (λ t. IsWireOf old t.present) ts → AreWiresOf old ws → Extends mid new 3 → IsWireOf new more
    → ((bits : List Bool) → wire_value new more bits ≡ (wire_value mid w bits && (not (wire_value mid t.present bits) || wire_value mid x bits))) → IsToldSoFar all_pass 3 old ts ws (i + 1) new more
each_more = told_more all_pass each_step all_pass-push 3

pub one_found : (old mid new : List Gate) (ts : List Tuple) (ws : List Wire) (i : ℕ) (t : Tuple) (x w more : Wire) → IsToldSoFar some_passes 2 old ts ws i mid w → slice_get ts i ≡ Some t → slice_get ws i ≡ Some x
    → All (λ t. IsWireOf old t.present) ts → AreWiresOf old ws → Extends mid new 2 → IsWireOf new more
    → ((bits : List Bool) → wire_value new more bits ≡ (wire_value mid w bits || (wire_value mid t.present bits && wire_value mid x bits))) → IsToldSoFar some_passes 2 old ts ws (i + 1) new more
one_found = told_more some_passes one_step some_passes-push 2

pub passing_more : (old mid new : List Gate) (ts : List Tuple) (ws : List Wire) (i : ℕ) (t : Tuple) (x w : Wire) (found more : List Wire) → ArePassingSoFar old ts ws i mid found → slice_get ts i ≡ Some t → slice_get ws i ≡ Some x
    → All (λ t. IsWireOf old t.present) ts → AreWiresOf old ws → Extends mid new 1 → IsWireOf new w
    → ((bits : List Bool) → wire_value new w bits ≡ (wire_value mid t.present bits && wire_value mid x bits)) → more ≡ found ++ w ∷ [] → ArePassingSoFar old ts ws (i + 1) new more
passing_more old mid new ts ws i t x w found more s e f h k ext wi v p = subst (λ ws2. ArePassingSoFar old ts ws (i + 1) new ws2) (sym p) (record {
  extends = extends_trans old mid new i 1 s.extends ext;
  size = ap length (sym p) ∙ ap length p ∙ pushed;
  wires = All-push (IsWireOf new) found w (wires_stay mid new 1 found ext s.wires) wi;
  values = λ bits.
      map-append (λ (w : Wire). wire_value new w bits) found (w ∷ [])
      ∙ two (wire_values_stay mid new 1 found bits ext s.wires ∙ s.values bits) (v bits ∙ both (guard_keeps old mid i ts i t bits h e s.extends) (test_keeps old mid i ws i x bits k f s.extends))
      ∙ sym (passing-push (guards old (take i ts) bits) (wire_values old (take i ws) bits) (wire_value old t.present bits) (wire_value old x bits) (equally_long old ts ws i t x bits e f))
      ∙ sym (whole (guard_item old ts i t bits e) (value_item old ws i x bits f));
})
  where
    pushed : length (found ++ w ∷ []) ≡ i + 1
    pushed = (let a = length_push found w in let b = s.size in omega (arith, a, b))

    both : {a b c d : Bool} → a ≡ c → b ≡ d → (a && b) ≡ (c && d)
    both p q = cc

    two : {a b : List Bool} {c d : Bool} → a ≡ b → c ≡ d → a ++ c ∷ [] ≡ b ++ d ∷ []
    two p q = cc

    whole : {a b c d : List Bool} → a ≡ c → b ≡ d → passing a b ≡ passing c d
    whole p q = cc

-- ---- counted, and each word

pub one_is : (n : ℕ) → (nat_le 1 n && nat_le n 1) ≡ (n == 1)
one_is n = grind (arith, nat_tests)

module _ (w : Quantifier) (ps qs : List Bool) where
  pub for_all : w ≡ word.All → all_pass ps qs ≡ passes_present w ps qs
  unfolding passes_present
  for_all e = rw e refl

  pub for_some : w ≡ word.Some → some_passes ps qs ≡ passes_present w ps qs
  unfolding passes_present
  for_some e = rw e refl

  pub for_one : w ≡ word.One → (count_true (passing ps qs) == 1) ≡ passes_present w ps qs
  unfolding passes_present
  for_one e = rw e refl

  pub for_lone : w ≡ word.Lone → nat_le (count_true (passing ps qs)) 1 ≡ passes_present w ps qs
  unfolding passes_present
  for_lone e = rw e refl
