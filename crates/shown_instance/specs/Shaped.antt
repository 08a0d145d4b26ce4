-- When bits show an instance that is a tree of the right shape.
use Rattle.std.specs.Prelude.{◌≡◌, ◌&&◌, ◌^◌, ◌≤ℤ◌, ◌<ℤ◌, pos, neg_ℤ, IsTrue, List, Bool, true}
use Rattle.clf_tree.specs.declared.model.Clafer.{Clafer}
use Rattle.clf_tree.specs.declared.scopes.Scopes.{Scopes}
use Rattle.clf_tree.specs.declared.instance.Entry.{Entry}
use Rattle.clf_tree.specs.Nodes.{is_within, is_ordered, is_tree}
use Rattle.clf_tree.specs.Shape.{has_shape}
use Rattle.set_bits.specs.declared.layout.Layout.{Layout}
use Rattle.set_bits.specs.Fitting.{Fits}
use Rattle.set_bits.specs.Showing.{Shows}
use Rattle.shown_instance.specs.Bounds.{have_bounds}
use Rattle.shown_instance.specs.Consistent.{is_consistent}
use Rattle.shown_instance.specs.Distinct.{have_sets}
use Rattle.shown_instance.specs.Placed.{have_parents, have_targets}

-- the bits show an instance, and it is a tree of the right shape
pub record ShowsShaped (clafers : List Clafer) (scopes : Scopes) (layout : Layout) (bits : List Bool) : Type 0 where
  pub entries : List Entry
  pub shows : Shows clafers scopes layout bits entries
  pub tree : is_tree clafers entries ≡ true
  pub shape : has_shape clafers scopes entries ≡ true

-- the bits are consistent, and tell that parents, targets, numbers of nodes and set references are right
abbrev pub is_shaped : List Clafer → Scopes → Layout → List Bool → Bool
is_shaped clafers scopes layout bits =
    is_consistent scopes layout bits && have_parents clafers layout bits && have_targets clafers layout bits && have_bounds clafers layout bits && have_sets clafers layout bits

-- some bits show the instance where it is within the scopes, ordered, a tree and of the right shape, and the scopes' integers have 64 bits
abbrev pub HasBits : List Clafer → Scopes → Layout → List Entry → Type 0
HasBits clafers scopes layout entries =
    Fits clafers scopes layout → neg_ℤ (pos (2 ^ 63)) ≤ℤ scopes.low → scopes.high <ℤ pos (2 ^ 63)
    → IsTrue (is_within clafers scopes entries) → IsTrue (is_ordered entries) → IsTrue (is_tree clafers entries) → IsTrue (has_shape clafers scopes entries)
    → (bits : List Bool) × Shows clafers scopes layout bits entries
