-- What is made of the operands of a form tells what the form tells.
use Rattle.std.proofs.Common.{◌≡◌, ℕ, ◌+◌, ◌<◌, ◌≤◌, Bool, true, not, ◌&&◌, List}
use Rattle.std.proofs.Common.{length, map, ap, ◌∙◌, arith}
use Rattle.std.proofs.Math.Path.{fun_ext}
use Rattle.std.specs.Prelude.{ℤ, pos, ◌+ℤ◌, ◌*ℤ◌, nat_le, nat_lt, ◌==◌, if◌then◌else◌}
use Rattle.std.specs.List.{list_all, filter}
use Rattle.std.specs.Ordering.{int_eq}
use Rattle.bool_circuit.specs.declared.gate.Wire.{Wire}
use Rattle.bool_circuit.specs.declared.gate.Gate.{Gate}
use Rattle.bool_circuit.specs.Circuit.{wire_value, IsWireOf, AreWiresOf, bool_xor}
use Rattle.integer_bits.specs.Numbers.{integer_at, cut}
use Rattle.clf_tree.specs.declared.scopes.Scopes.{Scopes}
use Rattle.clf_tree.specs.Lists.{numbers_below}
use Rattle.clf_tree.specs.Meaning.{total, same_set, all_in}
use Rattle.clf_tree.specs.CoreSoundness.{Nodes, clafers_in, sort}
use Rattle.clf_tree.specs.CoreWeights.{most_nodes}
use Rattle.integer_bits.specs.declared.totals.Part.{Part}
use Rattle.node_encoder.specs.Listing.{AreBelow, AreListed}
use Rattle.number_encoder.specs.Values.{present_values}
use Rattle.clf_tree.specs.Core as c
use Rattle.clf_tree.specs.Core.{Core}
use Rattle.set_bits.specs.declared.layout.Edge.{Edge}
use Rattle.set_bits.specs.declared.layout.Layout.{Layout}
use Rattle.set_bits.specs.declared.sets.Member.{Member}
use Rattle.set_bits.specs.Sets.{IsSetOf, is_in}
use Rattle.told_constraints.specs.Told.{is_listed, turned, values_of, told, told_number, told_set, told_truth}
use Rattle.told_constraints.specs.Told.{is_led_to, members, all_slots, slot_integer}
use Rattle.constraint_encoder.specs.Encoded.{IsNodesOf, IsNumberOf, IsSideOf, IsTruthOf}

-- ---- the set of a form as a test of slots

pub same_test : (gates : List Gate) (scopes : Scopes) (layout : Layout) (e : Core) (slots : List ℕ)
    (set : List Member) (bits : List Bool) → IsNodesOf gates scopes layout e slots set →
    let q : ℕ → Bool = told_set (told layout bits e slots) in (λ s. is_in gates set s bits) ≡ q
same_test gates scopes layout e slots set bits t = fun_ext (λ s. t.value bits s)

pub at_test : {A : Type 0} (f : (ℕ → Bool) → A) (gates : List Gate) (scopes : Scopes) (layout : Layout) (e : Core)
    (slots : List ℕ) (set : List Member) (bits : List Bool) → IsNodesOf gates scopes layout e slots set →
    f (λ s. is_in gates set s bits) ≡ f (told_set (told layout bits e slots))
at_test f gates scopes layout e slots set bits t = ap f (same_test gates scopes layout e slots set bits t)

pub at_tests : {A : Type 0} (f : (ℕ → Bool) → (ℕ → Bool) → A) (gates : List Gate) (scopes : Scopes) (layout : Layout)
    (a b : Core) (slots : List ℕ) (x y : List Member) (bits : List Bool) → IsNodesOf gates scopes layout a slots x →
    IsNodesOf gates scopes layout b slots y →
    f (λ s. is_in gates x s bits) (λ s. is_in gates y s bits)
    ≡ f (told_set (told layout bits a slots)) (told_set (told layout bits b slots))
at_tests f gates scopes layout a b slots x y bits t u =
    ap (λ p. f p (λ s. is_in gates y s bits)) (same_test gates scopes layout a slots x bits t)
    ∙ ap (λ q. f (told_set (told layout bits a slots)) q) (same_test gates scopes layout b slots y bits u)

-- ---- two truths

-- ---- members counted

pub at_least_told : (gates new : List Gate) (scopes : Scopes) (layout : Layout) (e : Core) (k : ℕ) (slots : List ℕ)
    (set : List Member) (w : Wire) → IsNodesOf gates scopes layout e slots set → IsWireOf new w →
    ((bits : List Bool) (n : ℕ) → list_all (λ m. nat_lt m.slot n) set ≡ true →
    wire_value new w bits ≡ nat_le k (length (filter (λ s. is_in gates set s bits) (numbers_below n)))) →
    IsTruthOf new layout (c.AtLeast k e) slots w
unfolding members
at_least_told gates new scopes layout e k slots set w t i v = record {
  wire = i;
  value = λ bits. v bits (length layout.slots) t.below
      ∙ at_test (λ p. nat_le k (length (filter p (all_slots layout)))) gates scopes layout e slots set bits t;
}

pub at_most_told : (gates new : List Gate) (scopes : Scopes) (layout : Layout) (e : Core) (k : ℕ) (slots : List ℕ)
    (set : List Member) (w : Wire) → IsNodesOf gates scopes layout e slots set → IsWireOf new w →
    ((bits : List Bool) (n : ℕ) → list_all (λ m. nat_lt m.slot n) set ≡ true →
    wire_value new w bits ≡ nat_le (length (filter (λ s. is_in gates set s bits) (numbers_below n))) k) →
    IsTruthOf new layout (c.AtMost k e) slots w
unfolding members
at_most_told gates new scopes layout e k slots set w t i v = record {
  wire = i;
  value = λ bits. v bits (length layout.slots) t.below
      ∙ at_test (λ p. nat_le (length (filter p (all_slots layout))) k) gates scopes layout e slots set bits t;
}

pub exactly_told : (gates new : List Gate) (scopes : Scopes) (layout : Layout) (e : Core) (k : ℕ) (slots : List ℕ)
    (set : List Member) (w : Wire) → IsNodesOf gates scopes layout e slots set → IsWireOf new w →
    ((bits : List Bool) (n : ℕ) → list_all (λ m. nat_lt m.slot n) set ≡ true →
    wire_value new w bits ≡ (length (filter (λ s. is_in gates set s bits) (numbers_below n)) == k)) →
    IsTruthOf new layout (c.Exactly k e) slots w
unfolding members
exactly_told gates new scopes layout e k slots set w t i v = record {
  wire = i;
  value = λ bits. v bits (length layout.slots) t.below
      ∙ at_test (λ p. (length (filter p (all_slots layout)) == k)) gates scopes layout e slots set bits t;
}

-- ---- two sets compared

pub same_told : (gates new : List Gate) (scopes : Scopes) (layout : Layout) (a b : Core) (slots : List ℕ)
    (x y : List Member) (w : Wire) → IsNodesOf gates scopes layout a slots x →
    IsNodesOf gates scopes layout b slots y → IsWireOf new w →
    ((bits : List Bool) (n : ℕ) → list_all (λ m. nat_lt m.slot n) x ≡ true →
    list_all (λ m. nat_lt m.slot n) y ≡ true →
    wire_value new w bits ≡ list_all (λ s. not (bool_xor (is_in gates x s bits) (is_in gates y s bits)))
    (numbers_below n)) → IsTruthOf new layout (c.SameNodes a b) slots w
same_told gates new scopes layout a b slots x y w t u i v = record {
  wire = i;
  value = λ bits. v bits (length layout.slots) t.below u.below
      ∙ at_tests (λ p q. list_all (λ s. not (bool_xor (p s) (q s))) (all_slots layout)) gates scopes layout a b slots
      x y bits t u;
}

pub within_told : (gates new : List Gate) (scopes : Scopes) (layout : Layout) (a b : Core) (slots : List ℕ)
    (x y : List Member) (w : Wire) → IsNodesOf gates scopes layout a slots x →
    IsNodesOf gates scopes layout b slots y → IsWireOf new w →
    ((bits : List Bool) (n : ℕ) → list_all (λ m. nat_lt m.slot n) x ≡ true →
    list_all (λ m. nat_lt m.slot n) y ≡ true →
    wire_value new w bits ≡ list_all (λ s. not ((is_in gates x s bits) && not (is_in gates y s bits)))
    (numbers_below n)) → IsTruthOf new layout (c.WithinNodes a b) slots w
within_told gates new scopes layout a b slots x y w t u i v = record {
  wire = i;
  value = λ bits. v bits (length layout.slots) t.below u.below
      ∙ at_tests (λ p q. list_all (λ s. not ((p s) && not (q s))) (all_slots layout)) gates scopes layout a b slots x
      y bits t u;
}

-- ---- steps

pub step_told : (gates new : List Gate) (scopes : Scopes) (layout : Layout) (e : Core) (slots : List ℕ)
    (set : List Member) (edges : List Edge) (bits : List Bool) (s : ℕ) (l v : Bool) →
    IsNodesOf gates scopes layout e slots set → v ≡ (l && is_led_to bits edges (λ t. is_in gates set t bits) s) →
    v ≡ (l && is_led_to bits edges (told_set (told layout bits e slots)) s)
step_told gates new scopes layout e slots set edges bits s l v t e' = e'
    ∙ at_test (λ p. l && is_led_to bits edges p s) gates scopes layout e slots set bits t

-- ---- counts and sums

pub count_told : (gates : List Gate) (scopes : Scopes) (layout : Layout) (e : Core) (w : ℕ) (slots : List ℕ)
    (set : List Member) (bits : List Bool) (z : ℤ) → IsNodesOf gates scopes layout e slots set →
    z ≡ cut w (pos (length (members layout (λ s. is_in gates set s bits)))) →
    z ≡ cut w (pos (length (members layout (told_set (told layout bits e slots)))))
count_told gates scopes layout e w slots set bits z t h = h
    ∙ at_test (λ p. cut w (pos (length (members layout p)))) gates scopes layout e slots set bits t

pub total_told : (gates : List Gate) (scopes : Scopes) (layout : Layout) (e : Core) (w : ℕ) (slots : List ℕ)
    (set : List Member) (bits : List Bool) (z : ℤ) → IsNodesOf gates scopes layout e slots set →
    z ≡ cut w (total (map (slot_integer layout bits) (members layout (λ s. is_in gates set s bits)))) →
    z ≡ cut w (total (map (slot_integer layout bits) (members layout (told_set (told layout bits e slots)))))
total_told gates scopes layout e w slots set bits z t h = h
    ∙ at_test (λ p. cut w (total (map (slot_integer layout bits) (members layout p)))) gates scopes layout e slots set
    bits t

-- ---- truths

pub same_values_told : {gates new : List Gate} {scopes : Scopes} {layout : Layout} {a b : Core} {slots : List ℕ}
    {xs ys : List Part} {w : Wire} → IsSideOf gates scopes layout a slots xs →
    IsSideOf gates scopes layout b slots ys → IsWireOf new w →
    ((bits : List Bool) → wire_value new w bits
    ≡ same_set int_eq (present_values gates xs bits) (present_values gates ys bits)) →
    IsTruthOf new layout (c.SameValues a b) slots w
same_values_told {gates} {new} {scopes} {layout} {a} {b} {slots} {xs} {ys} {w} t u i v = record {
  wire = i;
  value = λ bits. v bits ∙ ap (λ zs. same_set int_eq zs (present_values gates ys bits)) (t.value bits)
      ∙ ap (λ zs. same_set int_eq (values_of layout bits (told layout bits a slots)) zs) (u.value bits);
}

pub within_values_told : {gates new : List Gate} {scopes : Scopes} {layout : Layout} {a b : Core} {slots : List ℕ}
    {xs ys : List Part} {w : Wire} → IsSideOf gates scopes layout a slots xs →
    IsSideOf gates scopes layout b slots ys → IsWireOf new w →
    ((bits : List Bool) → wire_value new w bits
    ≡ all_in int_eq (present_values gates xs bits) (present_values gates ys bits)) →
    IsTruthOf new layout (c.WithinValues a b) slots w
within_values_told {gates} {new} {scopes} {layout} {a} {b} {slots} {xs} {ys} {w} t u i v = record {
  wire = i;
  value = λ bits. v bits ∙ ap (λ zs. all_in int_eq zs (present_values gates ys bits)) (t.value bits)
      ∙ ap (λ zs. all_in int_eq (values_of layout bits (told layout bits a slots)) zs) (u.value bits);
}

-- ---- sets

-- what is known of each set that keeps to the clafers of its form
pub nodes_told : {gates : List Gate} {scopes : Scopes} {layout : Layout} {e : Core} {slots : List ℕ}
    {set : List Member} → IsSetOf gates set → AreListed layout (clafers_in (sort e)) set →
    AreBelow (length layout.slots) set → length set ≤ most_nodes scopes (sort e) →
    ((bits : List Bool) (s : ℕ) → is_in gates set s bits ≡ told_set (told layout bits e slots) s) →
    IsNodesOf gates scopes layout e slots set
nodes_told s l b f v = record { set = s; listed = l; below = b; few = f; value = v }

pub down_told : {gates new : List Gate} {scopes : Scopes} {layout : Layout} {ks : List ℕ} {e : Core} {slots : List ℕ}
    {xs set : List Member} → IsNodesOf gates scopes layout e slots xs → IsSetOf new set → AreListed layout ks set →
    AreBelow (length layout.slots) set → length set ≤ most_nodes scopes (Nodes ks) →
    ((bits : List Bool) (s : ℕ) →
    is_in new set s bits ≡ (is_listed layout ks s
    && is_led_to bits (map turned layout.parents) (λ t. is_in gates xs t bits) s)) →
    IsNodesOf new scopes layout (c.Down ks e) slots set
down_told {gates} {new} {scopes} {layout} {ks} {e} {slots} {xs} {set} t o l d f v = record {
  set = o;
  listed = l;
  below = d;
  few = f;
  value = λ bits s. v bits s
      ∙ at_test (λ p. is_listed layout ks s && is_led_to bits (map turned layout.parents) p s) gates scopes layout e
      slots xs bits t;
}

pub up_told : {gates new : List Gate} {scopes : Scopes} {layout : Layout} {ks : List ℕ} {e : Core} {slots : List ℕ}
    {xs set : List Member} → IsNodesOf gates scopes layout e slots xs → IsSetOf new set → AreListed layout ks set →
    AreBelow (length layout.slots) set → length set ≤ most_nodes scopes (Nodes ks) →
    ((bits : List Bool) (s : ℕ) →
    is_in new set s bits ≡ (is_listed layout ks s && is_led_to bits layout.parents (λ t. is_in gates xs t bits) s)) →
    IsNodesOf new scopes layout (c.Up ks e) slots set
up_told {gates} {new} {scopes} {layout} {ks} {e} {slots} {xs} {set} t o l d f v = record {
  set = o;
  listed = l;
  below = d;
  few = f;
  value = λ bits s. v bits s
      ∙ at_test (λ p. is_listed layout ks s && is_led_to bits layout.parents p s) gates scopes layout e slots xs bits
      t;
}

pub follow_told : {gates new : List Gate} {scopes : Scopes} {layout : Layout} {ks : List ℕ} {e : Core}
    {slots : List ℕ} {xs set : List Member} → IsNodesOf gates scopes layout e slots xs → IsSetOf new set →
    AreListed layout ks set → AreBelow (length layout.slots) set → length set ≤ most_nodes scopes (Nodes ks) →
    ((bits : List Bool) (s : ℕ) →
    is_in new set s bits ≡ (is_listed layout ks s && is_led_to bits layout.targets (λ t. is_in gates xs t bits) s)) →
    IsNodesOf new scopes layout (c.Follow ks e) slots set
follow_told {gates} {new} {scopes} {layout} {ks} {e} {slots} {xs} {set} t o l d f v = record {
  set = o;
  listed = l;
  below = d;
  few = f;
  value = λ bits s. v bits s
      ∙ at_test (λ p. is_listed layout ks s && is_led_to bits layout.targets p s) gates scopes layout e slots xs bits
      t;
}

-- ---- numbers

pub counted : {gates new : List Gate} {scopes : Scopes} {layout : Layout} {w : ℕ} {e : Core} {slots : List ℕ}
    {set : List Member} {ws : List Wire} → IsNodesOf gates scopes layout e slots set → AreWiresOf new ws →
    0 < length ws → length ws ≤ w →
    ((bits : List Bool) (l : Layout) → AreBelow (length l.slots) set →
    integer_at new ws bits ≡ cut w (pos (length (members l (λ s. is_in gates set s bits))))) →
    IsNumberOf new scopes layout (c.Count w e) slots ws
counted {gates} {new} {scopes} {layout} {w} {e} {slots} {set} {ws} t i o f v = record {
  wires = i;
  some = o;
  few = f;
  value =
      λ bits. count_told gates scopes layout e w slots set bits (integer_at new ws bits) t (v bits layout t.below);
}

pub summed : {gates new : List Gate} {scopes : Scopes} {layout : Layout} {w : ℕ} {e : Core} {slots : List ℕ}
    {set : List Member} {ws : List Wire} → IsNodesOf gates scopes layout e slots set → AreWiresOf new ws →
    0 < length ws → length ws ≤ w →
    ((bits : List Bool) → AreBelow (length layout.slots) set →
    integer_at new ws bits ≡ cut w
    (total (map (slot_integer layout bits) (members layout (λ s. is_in gates set s bits))))) →
    IsNumberOf new scopes layout (c.Total w e) slots ws
summed {gates} {new} {scopes} {layout} {w} {e} {slots} {set} {ws} t i o f v = record {
  wires = i;
  some = o;
  few = f;
  value = λ bits. total_told gates scopes layout e w slots set bits (integer_at new ws bits) t (v bits t.below);
}

pub added : {gates new : List Gate} {scopes : Scopes} {layout : Layout} {w : ℕ} {a b : Core} {slots : List ℕ}
    {xs ys ws : List Wire} → IsNumberOf gates scopes layout a slots xs → IsNumberOf gates scopes layout b slots ys →
    AreWiresOf new ws → 0 < w → length ws ≡ w →
    ((bits : List Bool) → integer_at new ws bits ≡ cut w (integer_at gates xs bits +ℤ integer_at gates ys bits)) →
    IsNumberOf new scopes layout (c.Add w a b) slots ws
added {gates} {new} {scopes} {layout} {w} {a} {b} {slots} {xs} {ys} {ws} t u i o f v = record {
  wires = i;
  some = omega (arith, o, f);
  few = omega (arith, f);
  value = λ bits. v bits ∙ ap (λ z. cut w (z +ℤ integer_at gates ys bits)) (t.value bits)
      ∙ ap (λ z. cut w (told_number (told layout bits a slots) +ℤ z)) (u.value bits);
}

pub multiplied : {gates new : List Gate} {scopes : Scopes} {layout : Layout} {w : ℕ} {a b : Core} {slots : List ℕ}
    {xs ys ws : List Wire} → IsNumberOf gates scopes layout a slots xs → IsNumberOf gates scopes layout b slots ys →
    AreWiresOf new ws → 0 < w → length ws ≡ w →
    ((bits : List Bool) → integer_at new ws bits ≡ cut w (integer_at gates xs bits *ℤ integer_at gates ys bits)) →
    IsNumberOf new scopes layout (c.Mul w a b) slots ws
multiplied {gates} {new} {scopes} {layout} {w} {a} {b} {slots} {xs} {ys} {ws} t u i o f v = record {
  wires = i;
  some = omega (arith, o, f);
  few = omega (arith, f);
  value = λ bits. v bits ∙ ap (λ z. cut w (z *ℤ integer_at gates ys bits)) (t.value bits)
      ∙ ap (λ z. cut w (told_number (told layout bits a slots) *ℤ z)) (u.value bits);
}

pub number_choice_told : {gates new : List Gate} {scopes : Scopes} {layout : Layout} {w : ℕ} {p a b : Core}
    {slots : List ℕ} {z : Wire} {xs ys ws : List Wire} → IsTruthOf gates layout p slots z →
    IsNumberOf gates scopes layout a slots xs → IsNumberOf gates scopes layout b slots ys → AreWiresOf new ws →
    0 < w → length ws ≡ w → ((bits : List Bool) →
    integer_at new ws bits ≡ cut w
    (if wire_value gates z bits then integer_at gates xs bits else integer_at gates ys bits)) →
    IsNumberOf new scopes layout (c.ChooseNumber w p a b) slots ws
number_choice_told {gates} {new} {scopes} {layout} {w} {p} {a} {b} {slots} {z} {xs} {ys} {ws} r t u i o f v = record {
  wires = i;
  some = omega (arith, o, f);
  few = omega (arith, f);
  value = λ bits.
      v bits
      ∙ ap (λ h. cut w (if h then integer_at gates xs bits else integer_at gates ys bits)) (r.value bits)
      ∙ ap (λ h. cut w (if told_truth (told layout bits p slots) then h else integer_at gates ys bits)) (t.value bits)
      ∙ ap (λ h. cut w (if told_truth (told layout bits p slots) then told_number (told layout bits a slots) else h))
      (u.value bits);
}
