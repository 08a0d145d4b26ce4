-- When the entries that bits tell are as many as multiplicities and group cardinalities allow.
use Rattle.std.specs.Prelude.{ℕ, ◌==◌, ◌&&◌, ◌||◌, Bool, true, false, not, List, length, slice_get, count_by}
use Rattle.std.specs.Option.{option_map_or}
use Rattle.std.specs.List.{list_all}
use Rattle.bool_circuit.specs.Circuit.{entry}
use Rattle.clf_tree.specs.declared.model.Clafer.{Clafer}
use Rattle.clf_tree.specs.Lists.{numbers_below}
use Rattle.clf_tree.specs.Hierarchy.{is_a, parent_of}
use Rattle.clf_tree.specs.Shape.{allows}
use Rattle.set_bits.specs.declared.layout.Layout.{Layout}
use Rattle.set_bits.specs.Fitting.{slot_clafer}
use Rattle.shown_instance.specs.Shown.{is_live}

-- whether a clafer is declared directly under c
abbrev pub is_declared_under : List Clafer → ℕ → ℕ → Bool
is_declared_under clafers c d = option_map_or (λ p. p == c) (parent_of clafers d) false

-- how many edges to a slot are taken from slots whose clafers pass a test, and how many such slots are live
abbrev pub children_below : Layout → List Bool → (ℕ → Bool) → ℕ → ℕ
children_below layout bits asked s = count_by (λ e. ((e.to == s) && asked (slot_clafer layout.slots e.from)) && entry bits e.here) layout.parents

abbrev pub live_slots : Layout → List Bool → (ℕ → Bool) → ℕ
live_slots layout bits asked = count_by (λ i. is_live layout bits i && asked (slot_clafer layout.slots i)) (numbers_below (length layout.slots))

module _ (clafers : List Clafer) (layout : Layout) (bits : List Bool) where
  -- whether a test holds of each live slot of a clafer
  abbrev pub each_live : ℕ → (ℕ → Bool) → Bool
  each_live c test = list_all (λ s. not (is_live layout bits s && is_a clafers (slot_clafer layout.slots s) c) || test s) (numbers_below (length layout.slots))

  -- the multiplicity of the clafer k, with number c
  abbrev pub have_times : ℕ → Clafer → Bool
  have_times c k =
      option_map_or (λ p. each_live p (λ s. allows k.times (children_below layout bits (λ d. is_a clafers d c) s))) k.parent
      (allows k.times (live_slots layout bits (λ d. is_a clafers d c)))

  -- its group cardinality
  abbrev pub have_group : ℕ → Clafer → Bool
  have_group c k = each_live c (λ s. allows k.group (children_below layout bits (is_declared_under clafers c) s))

  -- those of all clafers
  abbrev pub have_bounds : Bool
  have_bounds = list_all (λ c. option_map_or (λ k. have_times c k && have_group c k) (slice_get clafers c) true) (numbers_below (length clafers))
