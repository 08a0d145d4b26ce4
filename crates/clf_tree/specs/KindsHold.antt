-- The law of kinds: in an instance, an expression of nodes means a set of nodes of its kind.
use Rattle.std.specs.Prelude.{ℕ, List, Option, Some, IsTrue}
use Rattle.std.specs.List.{IsDistinct}
use Rattle.clf_tree.specs.declared.model.Clafer.{Clafer}
use Rattle.clf_tree.specs.declared.instance.Node.{Node}
use Rattle.clf_tree.specs.declared.instance.Entry.{Entry}
use Rattle.clf_tree.specs.declared.scopes.Scopes.{Scopes}
use Rattle.clf_tree.specs.declared.kind.Kind.{Kind}
use Rattle.clf_tree.specs.declared.kind.Kind.TheVariants as kinds
use Rattle.clf_tree.specs.Tree.{Tree}
use Rattle.clf_tree.specs.Hierarchy.{is_closed}
use Rattle.clf_tree.specs.Nodes.{same_node, has_node, is_ordered, is_within, is_tree}
use Rattle.clf_tree.specs.Shape.{has_shape}
use Rattle.clf_tree.specs.Kinds.{kind}
use Rattle.clf_tree.specs.Meaning as meaning
use Rattle.clf_tree.specs.Meaning.{Situation, Value, value}
use Rattle.clf_tree.specs.IntervalsHold.{refers_once, StandsFor, IsSituation}

-- no node twice, each of them a node of the instance that is-a one of ks
pub record IsSetOf (clafers : List Clafer) (entries : List Entry) (ks : List ℕ) (ns : List Node) : Type 0 where
  pub distinct : IsDistinct same_node ns
  pub member : (n : Node) → IsTrue (has_node ns n) → StandsFor clafers entries ks n

-- a value of nodes, or of the integers that nodes refer to, is such a set
abbrev pub IsOfKind : List Clafer → List Entry → Option Kind → Value → Type 0
IsOfKind clafers entries (Some (kinds.Nodes ks)) (meaning.Nodes ns) = IsSetOf clafers entries ks ns
IsOfKind clafers entries (Some (kinds.Nodes ks)) v = ⊥
IsOfKind clafers entries (Some (kinds.Numbers ks)) (meaning.Nodes ns) = IsSetOf clafers entries ks ns
IsOfKind clafers entries (Some (kinds.Numbers ks)) v = ⊥
IsOfKind clafers entries k v = Unit {0}

abbrev pub KindsHold : Type 0
KindsHold =
    (clafers : List Clafer) (scopes : Scopes) (entries : List Entry) (t : Tree) (s : Situation)
    → IsTrue (is_closed clafers) → IsTrue (refers_once clafers)
    → IsTrue (is_ordered entries) → IsTrue (is_within clafers scopes entries) → IsTrue (is_tree clafers entries) → IsTrue (has_shape clafers scopes entries)
    → IsSituation clafers entries s
    → IsOfKind clafers entries (kind clafers t s.within) (value clafers entries t s)
