-- The values of a side are its one integer, or the integers of its nodes.
use Rattle.std.proofs.Common.{◌≡◌, ℕ, ◌≤◌, Bool, true, false, not, List, [], ◌∷◌, length, map, refl, sym, ◌∙◌, arith}
use Rattle.bool_circuit.specs.declared.gate.Gate.{Gate}
use Rattle.integer_bits.specs.declared.totals.Part.{Part}
use Rattle.integer_bits.specs.Totals.{ArePartsOf}
use Rattle.clf_tree.specs.declared.scopes.Scopes.{Scopes}
use Rattle.clf_tree.specs.CoreWeights.{range_width}
use Rattle.set_bits.specs.declared.sets.Member.{Member}
use Rattle.set_bits.specs.Sets.{is_in}
use Rattle.node_encoder.specs.Listing.{AreBelow}
use Rattle.number_encoder.specs.Values.{present_values, widest}
use Rattle.constraint_encoder.specs.Encoded.{IsNodesOf, IsSideOf}
use Rattle.constraint_encoder.proofs.Forms.{at_test}
use Rattle.clf_tree.specs.CoreSoundness.{Sort, Nodes, Number, Truth, sort, is_number, is_set, is_test}
use Rattle.clf_tree.specs.Core as c
use Rattle.clf_tree.specs.Core.{Core}
use Rattle.set_bits.specs.declared.layout.Layout.{Layout}
use Rattle.told_constraints.specs.Told.{told, told_number, told_set, members, slot_integer, values_of}

pub one_value : (layout : Layout) (bits : List Bool) (e : Core) (slots : List ℕ) → is_number (sort e) ≡ true →
    values_of layout bits (told layout bits e slots) ≡ told_number (told layout bits e slots) ∷ []
one_value layout bits (c.Const w z) slots h = refl
one_value layout bits (c.Count w a) slots h = refl
one_value layout bits (c.Total w a) slots h = refl
one_value layout bits (c.Neg w a) slots h = refl
one_value layout bits (c.Add w a b) slots h = refl
one_value layout bits (c.Mul w a b) slots h = refl
one_value layout bits (c.ChooseNumber w t a b) slots h = refl
one_value layout bits _ slots h = absurd (cc)

pub node_values : (layout : Layout) (bits : List Bool) (e : Core) (slots : List ℕ) → is_set (sort e) ≡ true →
    values_of layout bits (told layout bits e slots)
    ≡ map (slot_integer layout bits) (members layout (told_set (told layout bits e slots)))
node_values layout bits (c.Bound ks i) slots h = refl
node_values layout bits (c.Every ks) slots h = refl
node_values layout bits (c.Down ks a) slots h = refl
node_values layout bits (c.Up ks a) slots h = refl
node_values layout bits (c.Follow ks a) slots h = refl
node_values layout bits (c.Union ks a b) slots h = refl
node_values layout bits (c.Minus ks a b) slots h = refl
node_values layout bits (c.Meet ks a b) slots h = refl
node_values layout bits (c.ChooseNodes ks t a b) slots h = refl
node_values layout bits _ slots h = absurd (cc)

-- a form that is no truth and no number is a set of nodes
pub else_set : (e : Core) → not (is_test (sort e)) ≡ true → is_number (sort e) ≡ false → is_set (sort e) ≡ true
else_set e = by (sort e)
  where
    by : (k : Sort) → not (is_test k) ≡ true → is_number k ≡ false → is_set k ≡ true
    by (Nodes ks) t n = refl
    by (Number w) t n = absurd (cc)
    by Truth t n = absurd (cc)

pub node_side : {gates new : List Gate} {scopes : Scopes} {layout : Layout} {e : Core} {slots : List ℕ}
    {set : List Member} {ps : List Part} → IsNodesOf gates scopes layout e slots set → is_set (sort e) ≡ true →
    ArePartsOf new ps → widest ps ≤ range_width scopes → length ps ≡ length set →
    ((bits : List Bool) → AreBelow (length layout.slots) set →
    present_values new ps bits ≡ map (slot_integer layout bits) (members layout (λ s. is_in gates set s bits))) →
    IsSideOf new scopes layout e slots ps
node_side {gates} {new} {scopes} {layout} {e} {slots} {set} {ps} t h i n f v = record {
  parts = i;
  few = let few = t.few in omega (arith, few, f);
  narrow = omega (arith, n);
  value = λ bits. v bits t.below
      ∙ at_test (λ p. map (slot_integer layout bits) (members layout p)) gates scopes layout e slots set bits t
      ∙ sym (node_values layout bits e slots h);
}
