-- When bound slots stand for bound nodes of the instance that bits tell.
use Rattle.std.specs.Prelude.{◌≡◌, ℕ, ◌&&◌, Bool, true, List, [], ◌∷◌, length, map, nat_lt}
use Rattle.std.specs.List.{list_all}
use Rattle.clf_tree.specs.declared.model.Clafer.{Clafer}
use Rattle.clf_tree.specs.declared.scopes.Scopes.{Scopes}
use Rattle.clf_tree.specs.declared.instance.Node.{Node}
use Rattle.clf_tree.specs.Lists.{each_pair}
use Rattle.set_bits.specs.declared.layout.Layout.{Layout}
use Rattle.set_bits.specs.Fitting.{slot, slot_clafer}
use Rattle.shown_instance.specs.Shown.{is_live}
use Rattle.shown_instance.specs.Shaped.{ShowsShaped}
use Rattle.told_constraints.specs.Told.{is_listed}

-- whether each bound slot is live, and of one of the clafers given for it
abbrev pub stand_for : Layout → List Bool → List (List ℕ) → List ℕ → Bool
stand_for layout bits given at = each_pair (λ ks s. is_listed layout ks s && is_live layout bits s) given at

-- the nodes of slots, and the clafers of slots, one each
abbrev pub nodes_at : Layout → List ℕ → List Node
nodes_at layout at = map (slot layout.slots) at

abbrev pub clafers_at : Layout → List ℕ → List (List ℕ)
clafers_at layout at = map (λ s. slot_clafer layout.slots s ∷ []) at

-- the bits show a tree of the right shape in which the bound slots are live
pub record Stands (clafers : List Clafer) (scopes : Scopes) (layout : Layout) (bits : List Bool) (at : List ℕ) : Type 0 where
  pub shaped : ShowsShaped clafers scopes layout bits
  pub live : list_all (λ s. nat_lt s (length layout.slots) && is_live layout bits s) at ≡ true
