-- The law of intervals: in an instance, an integer expression lies in its interval.
use Rattle.std.specs.Prelude.{◌≡◌, ℕ, ◌==◌, ◌&&◌, ◌||◌, Bool, not, List, [], ◌∷◌, length, Some, IsTrue, ℤ, ◌≤ℤ◌, is_some}
use Rattle.std.specs.List.{list_all}
use Rattle.clf_tree.specs.declared.model.Clafer.{Clafer}
use Rattle.clf_tree.specs.declared.instance.Node.{Node}
use Rattle.clf_tree.specs.declared.instance.Entry.{Entry}
use Rattle.clf_tree.specs.declared.scopes.Scopes.{Scopes}
use Rattle.clf_tree.specs.declared.bounds.Bounds.{Bounds}
use Rattle.clf_tree.specs.Lists.{from_end, numbers_below}
use Rattle.clf_tree.specs.Tree.{Tree}
use Rattle.clf_tree.specs.Hierarchy.{is_closed, is_a, is_one_of, own_reference}
use Rattle.clf_tree.specs.Nodes.{has_node, nodes_of, is_ordered, is_within, is_tree}
use Rattle.clf_tree.specs.Shape.{has_shape}
use Rattle.clf_tree.specs.Kinds.{kind}
use Rattle.clf_tree.specs.Typed.{is_typed, fits_number}
use Rattle.clf_tree.specs.Meaning.{Situation, value, number}
use Rattle.clf_tree.specs.Intervals.{interval}
use Rattle.clf_tree.specs.Numerics.{all_narrow}

-- no clafer that has a reference of its own inherits one
abbrev pub refers_once : List Clafer → Bool
refers_once clafers =
    list_all
    (λ z. list_all (λ y. not (is_a clafers z y && is_some (own_reference clafers z) && is_some (own_reference clafers y)) || (z == y)) (numbers_below (length clafers)))
    (numbers_below (length clafers))

-- a node of the instance that is-a one of ks
abbrev pub StandsFor : List Clafer → List Entry → List ℕ → Node → Type 0
StandsFor clafers entries ks n = IsTrue (has_node (nodes_of entries) n) × IsTrue (is_one_of clafers ks n.clafer)

-- `this` and each variable are such nodes
pub record IsSituation (clafers : List Clafer) (entries : List Entry) (s : Situation) : Type 0 where
  pub this_is : (c : ℕ) → s.within.this ≡ Some c → (n : Node) × (s.this ≡ Some n) × (StandsFor clafers entries (c ∷ []) n)
  pub variable_is : (i : ℕ) (ks : List ℕ) → from_end s.within.bound i ≡ Some ks → (n : Node) × (from_end s.bound i ≡ Some n) × (StandsFor clafers entries ks n)

pub record LiesIn (b : Bounds) (z : ℤ) : Type 0 where
  pub least : b.low ≤ℤ z
  pub most : z ≤ℤ b.high

abbrev pub IntervalsHold : Type 0
IntervalsHold =
    (clafers : List Clafer) (scopes : Scopes) (entries : List Entry) (t : Tree) (s : Situation)
    → IsTrue (is_closed clafers) → IsTrue (refers_once clafers)
    → IsTrue (is_ordered entries) → IsTrue (is_within clafers scopes entries) → IsTrue (is_tree clafers entries) → IsTrue (has_shape clafers scopes entries)
    → IsSituation clafers entries s
    → IsTrue (is_typed clafers t s.within) → IsTrue (fits_number clafers (kind clafers t s.within)) → IsTrue (all_narrow clafers scopes t s.within)
    → LiesIn (interval clafers scopes t s.within) (number clafers entries (value clafers entries t s))
