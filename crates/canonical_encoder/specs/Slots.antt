-- When the live slots of a layout are those of a canonical instance.
use Rattle.std.specs.Prelude.{ℕ, ◌+◌, ◌*◌, ◌-◌, ◌==◌, ◌&&◌, ◌||◌, not, min, Bool, List, length, take, nat_eq}
use Rattle.std.specs.List.{filter, list_any, list_all}
use Rattle.bool_circuit.specs.Circuit.{entry}
use Rattle.clf_tree.specs.declared.model.Clafer.{Clafer}
use Rattle.clf_tree.specs.Lists.{numbers_below}
use Rattle.set_bits.specs.declared.layout.Edge.{Edge}
use Rattle.set_bits.specs.declared.layout.Layout.{Layout}
use Rattle.set_bits.specs.Fitting.{slot_clafer}
use Rattle.shown_instance.specs.Shown.{is_live}
use Rattle.canonical_instances.specs.Canonical.{follows_parents}

-- whether one of the first n edges is taken
abbrev pub has_begun : List Edge → List Bool → ℕ → Bool
has_begun edges bits n = list_any (λ e. entry bits e.here) (take n edges)

-- wherever one of the first of the later slot's edges is taken, so is one of as many of the earlier slot's
abbrev pub begins_no_later : List Edge → List Edge → List Bool → Bool
begins_no_later earlier later bits =
    list_all (λ n. not (has_begun later bits (n + 1)) || has_begun earlier bits (n + 1))
    (numbers_below (min (length earlier) (length later)))

-- the edges of a slot to the slots that may be its parent, in the order of those slots
abbrev pub edges_of : Layout → ℕ → List Edge
edges_of layout s = filter (λ e. nat_eq e.from s) layout.parents

-- whether the slot behind s is as it has to be, where both are of one clafer: it is live only where s is; and where numbers follow
-- parents, its parent is no earlier
unfoldable pub follows_slot : List Clafer → Layout → List Bool → ℕ → Bool
follows_slot clafers layout bits s =
    not (slot_clafer layout.slots s == slot_clafer layout.slots (s + 1))
    || ((not (is_live layout bits (s + 1)) || is_live layout bits s)
    && (not (follows_parents clafers (slot_clafer layout.slots s)) || begins_no_later (edges_of layout s) (edges_of layout (s + 1)) bits))

-- Whether the nodes that are there are those of a canonical instance: of each clafer the first slots are live, and the parents of
-- neighbours do not go back.
unfoldable pub are_canonical : List Clafer → Layout → List Bool → Bool
are_canonical clafers layout bits = list_all (follows_slot clafers layout bits) (numbers_below (length layout.slots - 1))

-- how many wires the test takes at most
abbrev pub canonical_cost : Layout → ℕ
canonical_cost layout = 5 * length layout.parents + 3 * length layout.slots
