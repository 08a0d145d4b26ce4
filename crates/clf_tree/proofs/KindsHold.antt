-- The law of kinds, from the tests.
use Rattle.std.proofs.Common.{ℕ, List, Option, Some, None, sym, subst}
use Rattle.clf_tree.specs.declared.model.Clafer.{Clafer}
use Rattle.clf_tree.specs.declared.instance.Node.{Node}
use Rattle.clf_tree.specs.declared.instance.Entry.{Entry}
use Rattle.clf_tree.specs.declared.kind.Kind.{Kind}
use Rattle.clf_tree.specs.declared.kind.Kind.TheVariants as kinds
use Rattle.clf_tree.specs.Kinds.{kind}
use Rattle.clf_tree.specs.Nodes.{same_node, nodes_of}
use Rattle.clf_tree.specs.Meaning as meaning
use Rattle.clf_tree.specs.Meaning.{Value, value}
use Rattle.clf_tree.specs.IntervalsHold.{StandsFor}
use Rattle.clf_tree.specs.KindsHold.{IsSetOf, IsOfKind, KindsHold}
use Rattle.clf_tree.proofs.Items.{In, found, in_map, any_in}
use Rattle.clf_tree.proofs.Counts.{Belongs, IsSet, same_equal, same_refl}
use Rattle.clf_tree.proofs.SetsOfNodes.{HasKind, value_has_kind}
use Rattle.clf_tree.proofs.IntervalsHold.{sound_of, place_of}

stands : (clafers : List Clafer) (entries : List Entry) (ks : List ℕ) (n : Node) → Belongs clafers entries ks n → StandsFor clafers entries ks n
stands clafers entries ks n b =
    let there = subst (λ m. In m (nodes_of entries)) b.same (in_map (λ (x : Entry). x.node) entries b.entry b.there) in
    (any_in (same_node n) (nodes_of entries) n there (same_refl n), b.is_one)

set_of : (clafers : List Clafer) (entries : List Entry) (ks : List ℕ) (ns : List Node) → IsSet clafers entries ks ns → IsSetOf clafers entries ks ns
set_of clafers entries ks ns s = record {
  distinct = s.distinct;
  member = λ n h.
      let f = found (same_node n) ns h in
      stands clafers entries ks n (s.member n (subst (λ m. In m ns) (sym (same_equal n f.item f.pass)) f.in_list));
}

of_kind : (clafers : List Clafer) (entries : List Entry) (k : Option Kind) (v : Value) → HasKind clafers entries k v → IsOfKind clafers entries k v
of_kind clafers entries (Some (kinds.Nodes ks)) (meaning.Nodes ns) h = set_of clafers entries ks ns h
of_kind clafers entries (Some (kinds.Nodes ks)) (meaning.Truth t) h = h
of_kind clafers entries (Some (kinds.Nodes ks)) (meaning.Integer z) h = h
of_kind clafers entries (Some (kinds.Numbers ks)) (meaning.Nodes ns) h = set_of clafers entries ks ns h
of_kind clafers entries (Some (kinds.Numbers ks)) (meaning.Truth t) h = h
of_kind clafers entries (Some (kinds.Numbers ks)) (meaning.Integer z) h = h
of_kind clafers entries (Some kinds.Truth) v h = tt
of_kind clafers entries (Some kinds.Integer) v h = tt
of_kind clafers entries None v h = tt

pub kinds_hold : KindsHold
kinds_hold clafers scopes entries t s closed once ordered within tree shape place =
    of_kind clafers entries (kind clafers t s.within) (value clafers entries t s)
    (value_has_kind clafers entries scopes (sound_of clafers scopes entries closed once ordered within tree shape) t s (place_of clafers entries s place))
