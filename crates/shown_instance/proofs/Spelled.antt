-- The bits of an instance, which are there for each one.
use Rattle.std.proofs.Common.{◌≡◌, ℕ, zero, suc, ◌<◌, Bool, true, false, cond, ◌&&◌, List, [], ◌∷◌, ◌++◌, length, map, get_or, replicate, Option, Some, None, refl, sym, ap, ◌∙◌, subst, arith}
use Rattle.std.specs.Prelude.{◌==◌, ℤ, ◌≤ℤ◌, int_le, is_some, not}
use Rattle.std.specs.Ordering.{int_eq}
use Rattle.std.specs.Option.{option_map_or, option_and_then}
use Rattle.std.specs.List.{list_all, flat_map}
use Rattle.std.proofs.lemmas.Bool.{true≢false}
use Rattle.std.proofs.lemmas.Int.{ints}
use Rattle.clf_tree.specs.declared.model.Clafer.{Clafer}
use Rattle.clf_tree.specs.declared.instance.Node.{Node}
use Rattle.clf_tree.specs.declared.instance.Entry.{Entry}
use Rattle.clf_tree.specs.declared.instance.Target.{Target}
use Rattle.clf_tree.specs.declared.instance.Target.TheVariants as target
use Rattle.clf_tree.specs.declared.scopes.Scopes.{Scopes}
use Rattle.clf_tree.specs.Lists.{each_pair}
use Rattle.clf_tree.specs.Nodes.{same_node, entry_of, has_node, nodes_of, parent_in, fits_range, is_in_range}
use Rattle.integer_bits.specs.Numbers.{spelled, integer_of, FitsBits}
use Rattle.set_bits.specs.declared.layout.SlotBits.{SlotBits}
use Rattle.set_bits.specs.declared.layout.Layout.{Layout}
use Rattle.set_bits.specs.Fitting.{slot, value_width}
use Rattle.set_bits.specs.Showing.{ties, target_in, is_value, integer_in, integer_target_in, target_integer}
use Rattle.shown_instance.specs.Packed.{IsPacked}
use Rattle.shown_instance.specs.Shaped.{HasBits}
use Rattle.shown_instance.proofs.Order.{both}
use Rattle.shown_instance.proofs.Packing.{packed_shows, shaped_in_range}
use Rattle.shown_instance.proofs.Widths.{width_between}

same_inside : {X : Type 0} (x y : X) → Some x ≡ Some y → x ≡ y
same_inside x y e = ap (λ o. option_map_or (λ z. z) o x) e

-- what a test says of all entries it says of the one that is found
pub entry_passes : (p : Entry → Bool) (es : List Entry) (n : Node) (e : Entry) → list_all p es ≡ true → entry_of es n ≡ Some e → p e ≡ true
entry_passes p [] n e a f = absurd (true≢false (sym (ap is_some f)))
entry_passes p (x ∷ xs) n e a f = by (same_node n x.node) refl (entry_passes p xs n e (both (p x) (list_all p xs) a).1)
  where
    by : (b : Bool) → same_node n x.node ≡ b → (entry_of xs n ≡ Some e → p e ≡ true) → p e ≡ true
    by true s rest = ap p (sym (same_inside x e (sym (ap (λ b. cond b (Some x) (entry_of xs n)) s) ∙ f))) ∙ (both (p x) (list_all p xs) a).0
    by false s rest = rest (sym (ap (λ b. cond b (Some x) (entry_of xs n)) s) ∙ f)

pub ranged : (scopes : Scopes) (x : Entry) (z : ℤ) → option_map_or (fits_range scopes) x.target true ≡ true → target_integer x ≡ Some z → (int_le scopes.low z && int_le z scopes.high) ≡ true
ranged scopes x z p e = by x.target refl
  where
    by : (t : Option Target) → x.target ≡ t → (int_le scopes.low z && int_le z scopes.high) ≡ true
    by None s = absurd (true≢false (sym (ap is_some (sym (ap (option_and_then integer_in) s) ∙ e))))
    by (Some (target.Node n)) s = absurd (true≢false (sym (ap is_some (sym (ap (option_and_then integer_in) s) ∙ e))))
    by (Some (target.Int y)) s =
        ap (λ w. int_le scopes.low w && int_le w scopes.high) (sym (same_inside y z (sym (ap (option_and_then integer_in) s) ∙ e))) ∙ sym (ap (λ t. option_map_or (fits_range scopes) t true) s) ∙ p

pub from_le : (a b : ℤ) → int_le a b ≡ true → a ≤ℤ b
from_le a b h = grind (arith, ints)

-- the integers of an instance in the range are in the range
target_ranged : (scopes : Scopes) (entries : List Entry) (n : Node) (z : ℤ) → is_in_range scopes entries ≡ true → integer_target_in entries n ≡ Some z → (int_le scopes.low z && int_le z scopes.high) ≡ true
target_ranged scopes entries n z r e = by (entry_of entries n) refl
  where
    by : (o : Option Entry) → entry_of entries n ≡ o → (int_le scopes.low z && int_le z scopes.high) ≡ true
    by None f = absurd (true≢false (sym (ap is_some (sym (ap (option_and_then target_integer) f) ∙ e))))
    by (Some x) f = ranged scopes x z (entry_passes (λ (y : Entry). option_map_or (fits_range scopes) y.target true) entries n x r f) (sym (ap (option_and_then target_integer) f) ∙ e)

-- the bits of an integer, or so many false bits
number_bits : ℕ → Option ℤ → List Bool
number_bits w None = replicate w false
number_bits w (Some z) = spelled w z

false_bits : (w : ℕ) → (length (replicate w false) ≡ w) × (list_all not (replicate w false) ≡ true)
false_bits zero = (refl, refl)
false_bits (suc w) = let r = false_bits w in (ap suc r.0, r.1)

equal_itself : (x z : ℤ) → x ≡ z → int_eq x z ≡ true
equal_itself x z e = grind (arith, ints)

is_many : (a b : ℕ) → a ≡ b → (a == b) ≡ true
is_many a b e = grind arith

pairs_made : {X Y : Type 0} (t : X → Y → Bool) (f : X → Y) (xs : List X) → ((k : ℕ) (d : X) → k < length xs → t (get_or xs k d) (f (get_or xs k d)) ≡ true) → each_pair t xs (map f xs) ≡ true
pairs_made t f [] h = refl
pairs_made t f (x ∷ xs) h = ap (λ b. b && each_pair t xs (map f xs)) (h 0 x (omega arith)) ∙ pairs_made t f xs (λ k d l. h (suc k) d (omega (arith, l)))

-- each instance has bits that show it, where integers that fit have spellings
pub bits_there : ((w : ℕ) (z : ℤ) → length (spelled w z) ≡ w) → ((w : ℕ) (z : ℤ) → 0 < w → FitsBits w z → integer_of (spelled w z) ≡ z)
    → (clafers : List Clafer) (scopes : Scopes) (layout : Layout) (entries : List Entry) → HasBits clafers scopes layout entries
unfolding number_bits
bits_there size spells clafers scopes layout entries fit low high within ordered tree shape = (bits, packed_shows clafers scopes layout bits entries fit within ordered tree shape packed)
  where
    told : SlotBits → Option ℤ
    told v = integer_target_in entries (slot layout.slots v.slot)

    numbers : List (List Bool)
    numbers = map (λ v. number_bits (length v.bits) (told v)) layout.values

    bits : List Bool
    bits = map (has_node (nodes_of entries)) layout.slots ++ (ties (parent_in entries) layout.slots layout.parents ++ (ties (target_in entries) layout.slots layout.targets ++ flat_map (λ bs. bs) numbers))

    fits : (z : ℤ) → (int_le scopes.low z && int_le z scopes.high) ≡ true → FitsBits (value_width scopes) z
    fits z h =
        let p = both (int_le scopes.low z) (int_le z scopes.high) h in
        (width_between scopes.low scopes.high low high).1 z (from_le scopes.low z p.0) (from_le z scopes.high p.1)

    spelling : (v : SlotBits) (o : Option ℤ) → length v.bits ≡ value_width scopes → told v ≡ o → ((length (number_bits (length v.bits) o) == length v.bits) && is_value o (number_bits (length v.bits) o)) ≡ true
    spelling v None w e =
        let r = false_bits (length v.bits) in
        ap (λ b. b && list_all not (replicate (length v.bits) false)) (is_many (length (replicate (length v.bits) false)) (length v.bits) r.0) ∙ r.1
    spelling v (Some z) w e =
        let many = is_many (length (spelled (length v.bits) z)) (length v.bits) (size (length v.bits) z) in
        let some : 0 < length v.bits = subst (λ n. 0 < n) (sym w) (width_between scopes.low scopes.high low high).0 in
        let fitting : FitsBits (length v.bits) z = subst (λ n. FitsBits n z) (sym w) (fits z (target_ranged scopes entries (slot layout.slots v.slot) z (shaped_in_range clafers scopes entries shape) e)) in
        ap (λ b. b && int_eq (integer_of (spelled (length v.bits) z)) z) many ∙ equal_itself (integer_of (spelled (length v.bits) z)) z (spells (length v.bits) z some fitting)

    packed : IsPacked layout entries bits
    packed = record {
      numbers = numbers;
      integers = pairs_made (λ v bs. (length bs == length v.bits) && is_value (told v) bs) (λ v. number_bits (length v.bits) (told v)) layout.values (λ k d l. spelling (get_or layout.values k d) (told (get_or layout.values k d)) (fit.widths k d l) refl);
      whole = refl;
    }
