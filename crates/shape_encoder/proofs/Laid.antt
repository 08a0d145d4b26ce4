-- The wires of a layout that fits, in a circuit whose inputs it has.
use Rattle.std.proofs.Common.{◌≡◌, ◌&&◌, ℕ, zero, suc, ◌+◌, ◌<◌, ◌≤◌, Bool, true, false, cond, List, [], ◌∷◌, length, map, get_or, Some, refl, sym, ap, ◌∙◌, subst, arith}
use Rattle.std.specs.Prelude.{nat_lt}
use Rattle.std.specs.Option.{option_map_or}
use Rattle.std.specs.List.{All, list_all, find, range_with_len}
use Rattle.std.proofs.lemmas.Bool.Decides.{nat_tests}
use Rattle.std.proofs.lemmas.List.{length-map}
use Rattle.std.proofs.lemmas.List.FromFn.{length-range_with_len}
use Rattle.std.proofs.lemmas.List.Folds.{list_all-append, list_all-map}
use Rattle.bool_circuit.specs.declared.gate.Wire.{Wire}
use Rattle.bool_circuit.specs.declared.gate.Gate.{Gate}
use Rattle.clf_tree.specs.declared.bounds.Bounds.{Bounds}
use Rattle.clf_tree.specs.declared.model.Clafer.{Clafer}
use Rattle.clf_tree.specs.declared.scopes.Scopes.{Scopes}
use Rattle.clf_tree.specs.Widths.{width, is_held}
use Rattle.set_bits.specs.declared.layout.Edge.{Edge}
use Rattle.set_bits.specs.declared.layout.SlotBits.{SlotBits}
use Rattle.set_bits.specs.declared.layout.Layout.{Layout}
use Rattle.clf_tree.specs.Hierarchy.{owners}
use Rattle.set_bits.specs.Fitting.{Fits, IsRead, size, value_wires, ends, all_ends, referred}
use Rattle.shown_instance.proofs.Order.{both, together}
use Rattle.shown_instance.proofs.Adapting.{all_pass}
use Rattle.shown_instance.proofs.Fitted.{values_inside, edges_between}
use Rattle.shape_encoder.specs.Reading.{IsBit, IsLaid}

less : (a b : ℕ) → nat_lt a b ≡ true → a < b
less a b h = grind (arith, nat_tests)

lt : (a b : ℕ) → a < b → nat_lt a b ≡ true
lt a b h = grind (arith, nat_tests)

range_below : (s a m : ℕ) → a + m ≤ s → list_all (λ k. nat_lt k s) (range_with_len a m) ≡ true
range_below s a zero h = refl
range_below s a (suc m) h = together (nat_lt a s) (list_all (λ k. nat_lt k s) (range_with_len (a + 1) m)) (lt a s (omega (arith, h))) (range_below s (a + 1) m (omega (arith, h)))

-- items whose numbers follow each other have numbers below the last
all_below : {X : Type 0} (number : X → ℕ) (xs : List X) (s a m : ℕ) → map number xs ≡ range_with_len a m → a + m ≤ s → All (λ x. number x < s) xs
all_below number xs s a m e h = λ k d l.
    less (number (get_or xs k d)) s (all_pass (λ x. nat_lt (number x) s) xs (sym (list_all-map (λ n. nat_lt n s) number xs) ∙ ap (list_all (λ n. nat_lt n s)) e ∙ range_below s a m h) k d l)

bit_of : (gates : List Gate) (n : ℕ) (w : Wire) → IsRead gates n → w.number < n → IsBit gates w
bit_of gates n w r l = record { wire = omega (arith, l, r.within); value = r.reads w l }

values_below : (s : ℕ) (values : List SlotBits) → list_all (λ k. nat_lt k s) (value_wires values) ≡ true → list_all (λ v. list_all (λ (w : Wire). nat_lt w.number s) v.bits) values ≡ true
values_below s [] h = refl
values_below s (v ∷ vs) h =
    let numbers : List ℕ = map (λ (w : Wire). w.number) v.bits in
    let p = both (list_all (λ k. nat_lt k s) numbers) (list_all (λ k. nat_lt k s) (value_wires vs)) (sym (list_all-append (λ k. nat_lt k s) numbers (value_wires vs)) ∙ h) in
    together (list_all (λ (w : Wire). nat_lt w.number s) v.bits) (list_all (λ (u : SlotBits). list_all (λ (w : Wire). nat_lt w.number s) u.bits) vs)
    (sym (list_all-map (λ k. nat_lt k s) (λ (w : Wire). w.number) v.bits) ∙ p.0) (values_below s vs p.1)

found_positive : (p : ℕ → Bool) (a k d : ℕ) → 0 < a → 0 < d → 0 < option_map_or (λ x. x) (find p (range_with_len a k)) d
found_positive p a zero d h l = l
found_positive p a (suc k) d h l = by (p a) (found_positive p (a + 1) k d (omega arith) l)
  where
    by : (b : Bool) → 0 < option_map_or (λ x. x) (find p (range_with_len (a + 1) k)) d → 0 < option_map_or (λ x. x) (cond b (Some a) (find p (range_with_len (a + 1) k))) d
    by true rest = h
    by false rest = rest

width_positive : (b : Bounds) → 0 < width b
unfolding width
width_positive b = found_positive (is_held b) 1 126 127 (omega arith) (omega arith)

-- the wires of a layout that fits are those of its bits
pub fitting_laid : (clafers : List Clafer) (scopes : Scopes) (layout : Layout) (gates : List Gate) → Fits clafers scopes layout → IsRead gates (size layout) → IsLaid gates layout
fitting_laid clafers scopes layout gates f r = record {
  slots = sized;
  live = λ k d l. bit_of gates (size layout) (get_or layout.live k d) r (all_below (λ (w : Wire). w.number) layout.live (size layout) 0 (length layout.slots) f.live (omega arith) k d l);
  parents = λ k d l. bit_of gates (size layout) (get_or layout.parents k d).here r (all_below (λ (e : Edge). e.here.number) layout.parents (size layout) (length layout.slots) (length layout.parents) f.parent_wires (omega arith) k d l);
  targets = λ k d l. bit_of gates (size layout) (get_or layout.targets k d).here r (all_below (λ (e : Edge). e.here.number) layout.targets (size layout) (length layout.slots + length layout.parents) (length layout.targets) f.target_wires (omega arith) k d l);
  values = λ k d l. record {
    known = subst (λ n. (get_or layout.values k d).slot < n) (sym sized) (less (get_or layout.values k d).slot (length layout.slots) (all_pass (λ (v : SlotBits). nat_lt v.slot (length layout.slots)) layout.values (values_inside clafers layout.slots layout.values f.values) k d l));
    some = subst (λ n. 0 < n) (sym (f.widths k d l)) (width_positive (record { low = scopes.low; high = scopes.high }));
    bits = λ j c m. bit_of gates (size layout) (get_or (get_or layout.values k d).bits j c) r
        (less (get_or (get_or layout.values k d).bits j c).number (size layout) (all_pass (λ (w : Wire). nat_lt w.number (size layout)) (get_or layout.values k d).bits
        (all_pass (λ v. list_all (λ (w : Wire). nat_lt w.number (size layout)) v.bits) layout.values
        (values_below (size layout) layout.values (ap (list_all (λ k. nat_lt k (size layout))) f.integer_wires ∙ range_below (size layout) (length layout.slots + length layout.parents + length layout.targets) (length (value_wires layout.values)) (omega arith))) k d l) j c m));
  };
}
  where
    sized : length layout.live ≡ length layout.slots
    sized = sym (length-map layout.live (λ (w : Wire). w.number)) ∙ ap length f.live ∙ length-range_with_len 0 (length layout.slots)

-- the edges of a layout that fits lead to slots
edges_known : (near : ℕ → List ℕ) (layout : Layout) (edges : List Edge) → length layout.live ≡ length layout.slots → ends edges ≡ all_ends near layout.slots → All (λ e. e.to < length layout.live) edges
edges_known near layout edges size e = λ k d l.
    subst (λ n. (get_or edges k d).to < n) (sym size)
    (less (get_or edges k d).to (length layout.slots) (both (nat_lt (get_or edges k d).from (length layout.slots)) (nat_lt (get_or edges k d).to (length layout.slots))
    (all_pass (λ (x : Edge). nat_lt x.from (length layout.slots) && nat_lt x.to (length layout.slots)) edges (edges_between near layout.slots edges e) k d l)).1)

pub live_sized : (clafers : List Clafer) (scopes : Scopes) (layout : Layout) → Fits clafers scopes layout → length layout.live ≡ length layout.slots
live_sized clafers scopes layout f = sym (length-map layout.live (λ (w : Wire). w.number)) ∙ ap length f.live ∙ length-range_with_len 0 (length layout.slots)

pub parents_known : (clafers : List Clafer) (scopes : Scopes) (layout : Layout) → Fits clafers scopes layout → All (λ e. e.to < length layout.live) layout.parents
parents_known clafers scopes layout f = edges_known (owners clafers) layout layout.parents (live_sized clafers scopes layout f) f.parents

pub targets_known : (clafers : List Clafer) (scopes : Scopes) (layout : Layout) → Fits clafers scopes layout → All (λ e. e.to < length layout.live) layout.targets
targets_known clafers scopes layout f = edges_known (referred clafers) layout layout.targets (live_sized clafers scopes layout f) f.targets

-- edges to parents lead from slots to slots
between : (clafers : List Clafer) (scopes : Scopes) (layout : Layout) → Fits clafers scopes layout → All (λ e. (nat_lt e.from (length layout.slots) && nat_lt e.to (length layout.slots)) ≡ true) layout.parents
between clafers scopes layout f = all_pass (λ (x : Edge). nat_lt x.from (length layout.slots) && nat_lt x.to (length layout.slots)) layout.parents (edges_between (owners clafers) layout.slots layout.parents f.parents)

pub children_known : (clafers : List Clafer) (scopes : Scopes) (layout : Layout) → Fits clafers scopes layout → All (λ e. e.from < length layout.slots) layout.parents
children_known clafers scopes layout f = λ k d l.
    less (get_or layout.parents k d).from (length layout.slots) (both (nat_lt (get_or layout.parents k d).from (length layout.slots)) (nat_lt (get_or layout.parents k d).to (length layout.slots)) (between clafers scopes layout f k d l)).0

pub owners_known : (clafers : List Clafer) (scopes : Scopes) (layout : Layout) → Fits clafers scopes layout → All (λ e. e.to < length layout.slots) layout.parents
owners_known clafers scopes layout f = λ k d l.
    less (get_or layout.parents k d).to (length layout.slots) (both (nat_lt (get_or layout.parents k d).from (length layout.slots)) (nat_lt (get_or layout.parents k d).to (length layout.slots)) (between clafers scopes layout f k d l)).1
