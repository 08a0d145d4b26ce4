-- When the clafers and the widths of a relational expression hold its values.
use Rattle.std.specs.Prelude.{ℕ, ◌^◌, ◌-◌, ◌<◌, ◌&&◌, Bool, true, false, not, List, [], ◌++◌, length, replicate, ℤ, pos, neg_ℤ, IsTrue, int_le, int_lt, nat_lt, nat_le}
use Rattle.std.specs.List.{list_all}
use Rattle.clf_tree.specs.declared.model.Clafer.{Clafer}
use Rattle.clf_tree.specs.declared.instance.Node.{Node}
use Rattle.clf_tree.specs.declared.instance.Entry.{Entry}
use Rattle.clf_tree.specs.declared.scopes.Scopes.{Scopes}
use Rattle.clf_tree.specs.Lists.{has, each_two, each_pair}
use Rattle.clf_tree.specs.Hierarchy.{is_concrete}
use Rattle.clf_tree.specs.Nodes.{has_node, nodes_of, is_ordered, is_within, is_tree}
use Rattle.clf_tree.specs.Shape.{has_shape}
use Rattle.clf_tree.specs.Meaning.{Value, nodes}
use Rattle.clf_tree.specs.Core as c
use Rattle.clf_tree.specs.Core.{Core}
use Rattle.clf_tree.specs.CoreMeaning.{meaning, integer_in}

-- the sort of a form: nodes of the listed clafers, a number of so many bits, or a truth value
pub data Sort : Type 0 where
  Nodes : List ℕ → Sort
  Number : ℕ → Sort
  Truth : Sort

abbrev pub sort : Core → Sort
sort (c.Bound ks _) = Nodes ks
sort (c.Every ks) = Nodes ks
sort (c.Down ks _) = Nodes ks
sort (c.Up ks _) = Nodes ks
sort (c.Follow ks _) = Nodes ks
sort (c.Union ks _ _) = Nodes ks
sort (c.Minus ks _ _) = Nodes ks
sort (c.Meet ks _ _) = Nodes ks
sort (c.ChooseNodes ks _ _ _) = Nodes ks
sort (c.Const w _) = Number w
sort (c.Count w _) = Number w
sort (c.Total w _) = Number w
sort (c.Neg w _) = Number w
sort (c.Add w _ _) = Number w
sort (c.Mul w _ _) = Number w
sort (c.ChooseNumber w _ _ _) = Number w
sort _ = Truth

abbrev pub is_set : Sort → Bool
is_set (Nodes ks) = true
is_set _ = false

abbrev pub is_number : Sort → Bool
is_number (Number w) = true
is_number _ = false

abbrev pub is_test : Sort → Bool
is_test Truth = true
is_test _ = false

abbrev pub clafers_in : Sort → List ℕ
clafers_in (Nodes ks) = ks
clafers_in _ = []

-- so many bits hold an integer in two's complement
abbrev pub holds_integer : ℕ → ℤ → Bool
holds_integer w z = int_le (neg_ℤ (pos (2 ^ (w - 1)))) z && int_lt z (pos (2 ^ (w - 1)))

-- a value is of a sort: its nodes are of the clafers, or its integer has so many bits
abbrev pub holds_value : Sort → Value → Bool
holds_value (Nodes ks) v = list_all (λ n. has ks n.clafer) (nodes v)
holds_value (Number w) v = holds_integer w (integer_in v)
holds_value Truth v = true

-- whether a node is an entry of one of the clafers, and whether each bound node is one of those given for it
abbrev pub is_entry_of : List Entry → List ℕ → Node → Bool
is_entry_of entries ks n = has ks n.clafer && has_node (nodes_of entries) n

abbrev pub are_entries : List Entry → List (List ℕ) → List Node → Bool
are_entries entries given bound = each_pair (is_entry_of entries) given bound

module _ (clafers : List Clafer) (scopes : Scopes) where
  -- within the scopes, a tree, of the right shape
  abbrev pub is_instance : List Entry → Bool
  is_instance entries = is_ordered entries && is_within clafers scopes entries && is_tree clafers entries && has_shape clafers scopes entries

  -- a list has concrete clafers of the model, ascending; a number has 1 to 64 bits
  abbrev pub is_well_made : Sort → Bool
  is_well_made (Nodes ks) = list_all (is_concrete clafers) ks && each_two nat_lt ks
  is_well_made (Number w) = nat_le 1 w && nat_le w 64
  is_well_made Truth = true

  -- the clafers, or the width, hold the value in each instance, with all entries of the given clafers for the bound nodes
  pub record Holds (a : Core) (given : List (List ℕ)) : Type 0 where
    pub well_made : IsTrue (is_well_made (sort a))
    pub value : (entries : List Entry) → IsTrue (is_instance entries) → (bound : List Node) → IsTrue (are_entries entries given bound) → IsTrue (holds_value (sort a) (meaning entries a bound))

  -- each form has its place, each bound node is there, and the whole and each part hold their values
  abbrev pub Sound : Core → List (List ℕ) → Type 0
  Sound (c.Bound ks i) given = (i < length given) × Holds (c.Bound ks i) given
  Sound (c.Every ks) given = Holds (c.Every ks) given
  Sound (c.Down ks a) given = IsTrue (is_set (sort a)) × Sound a given × Holds (c.Down ks a) given
  Sound (c.Up ks a) given = IsTrue (is_set (sort a)) × Sound a given × Holds (c.Up ks a) given
  Sound (c.Follow ks a) given = IsTrue (is_set (sort a)) × Sound a given × Holds (c.Follow ks a) given
  Sound (c.Union ks a b) given = IsTrue (is_set (sort a)) × IsTrue (is_set (sort b)) × Sound a given × Sound b given × Holds (c.Union ks a b) given
  Sound (c.Minus ks a b) given = IsTrue (is_set (sort a)) × IsTrue (is_set (sort b)) × Sound a given × Sound b given × Holds (c.Minus ks a b) given
  Sound (c.Meet ks a b) given = IsTrue (is_set (sort a)) × IsTrue (is_set (sort b)) × Sound a given × Sound b given × Holds (c.Meet ks a b) given
  Sound (c.ChooseNodes ks t a b) given =
      IsTrue (is_test (sort t)) × IsTrue (is_set (sort a)) × IsTrue (is_set (sort b)) × Sound t given × Sound a given × Sound b given × Holds (c.ChooseNodes ks t a b) given
  Sound (c.Const w z) given = Holds (c.Const w z) given
  Sound (c.Count w a) given = IsTrue (is_set (sort a)) × Sound a given × Holds (c.Count w a) given
  Sound (c.Total w a) given = IsTrue (is_set (sort a)) × Sound a given × Holds (c.Total w a) given
  Sound (c.Neg w a) given = IsTrue (is_number (sort a)) × Sound a given × Holds (c.Neg w a) given
  Sound (c.Add w a b) given = IsTrue (is_number (sort a)) × IsTrue (is_number (sort b)) × Sound a given × Sound b given × Holds (c.Add w a b) given
  Sound (c.Mul w a b) given = IsTrue (is_number (sort a)) × IsTrue (is_number (sort b)) × Sound a given × Sound b given × Holds (c.Mul w a b) given
  Sound (c.ChooseNumber w t a b) given =
      IsTrue (is_test (sort t)) × IsTrue (is_number (sort a)) × IsTrue (is_number (sort b)) × Sound t given × Sound a given × Sound b given × Holds (c.ChooseNumber w t a b) given
  Sound (c.Not a) given = IsTrue (is_test (sort a)) × Sound a given
  Sound (c.And a b) given = IsTrue (is_test (sort a)) × IsTrue (is_test (sort b)) × Sound a given × Sound b given
  Sound (c.Or a b) given = IsTrue (is_test (sort a)) × IsTrue (is_test (sort b)) × Sound a given × Sound b given
  Sound (c.Xor a b) given = IsTrue (is_test (sort a)) × IsTrue (is_test (sort b)) × Sound a given × Sound b given
  Sound (c.ChooseTruth t a b) given = IsTrue (is_test (sort t)) × IsTrue (is_test (sort a)) × IsTrue (is_test (sort b)) × Sound t given × Sound a given × Sound b given
  Sound (c.SameNodes a b) given = IsTrue (is_set (sort a)) × IsTrue (is_set (sort b)) × Sound a given × Sound b given
  Sound (c.WithinNodes a b) given = IsTrue (is_set (sort a)) × IsTrue (is_set (sort b)) × Sound a given × Sound b given
  Sound (c.SameValues a b) given = IsTrue (not (is_test (sort a))) × IsTrue (not (is_test (sort b))) × Sound a given × Sound b given
  Sound (c.WithinValues a b) given = IsTrue (not (is_test (sort a))) × IsTrue (not (is_test (sort b))) × Sound a given × Sound b given
  Sound (c.Less a b) given = IsTrue (is_number (sort a)) × IsTrue (is_number (sort b)) × Sound a given × Sound b given
  Sound (c.AtLeast k a) given = (k < 2) × IsTrue (is_set (sort a)) × Sound a given
  Sound (c.AtMost k a) given = (k < 2) × IsTrue (is_set (sort a)) × Sound a given
  Sound (c.Exactly k a) given = (k < 2) × IsTrue (is_set (sort a)) × Sound a given
  Sound (c.Quant word disj names over body) given =
      IsTrue (is_set (sort over)) × IsTrue (is_test (sort body)) × Sound over given × Sound body (given ++ replicate names (clafers_in (sort over)))

  -- a truth, and a goal, with no node bound
  abbrev pub IsSoundTruth : Core → Type 0
  IsSoundTruth a = IsTrue (is_test (sort a)) × Sound a []

  abbrev pub IsSoundGoal : Core → Type 0
  IsSoundGoal a = IsTrue (is_number (sort a)) × Sound a []
