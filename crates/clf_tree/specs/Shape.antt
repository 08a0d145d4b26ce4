-- The multiplicities, group cardinalities and references of a model.
use Rattle.std.specs.Prelude.{ℕ, ◌==◌, ◌&&◌, Bool, true, false, not, List, length, slice_get, nat_le, Option, Some, None, is_none, count_by}
use Rattle.std.specs.Ordering.{int_eq}
use Rattle.std.specs.Option.{option_map_or}
use Rattle.std.specs.List.{filter, list_all}
use Rattle.clf_tree.specs.declared.model.Clafer.{Clafer}
use Rattle.clf_tree.specs.declared.module.Interval.{Interval}
use Rattle.clf_tree.specs.declared.instance.Target.{Target}
use Rattle.clf_tree.specs.declared.instance.Target.TheVariants as target
use Rattle.clf_tree.specs.declared.instance.Entry.{Entry}
use Rattle.clf_tree.specs.declared.scopes.Scopes.{Scopes}
use Rattle.clf_tree.specs.Lists.{each_two, numbers_below}
use Rattle.clf_tree.specs.Hierarchy.{is_a, parent_of, reference_of}
use Rattle.clf_tree.specs.Nodes.{same_node, nodes_of, has_node, fits_range}

abbrev pub allows : Interval → ℕ → Bool
allows interval n = nat_le interval.low n && option_map_or (λ high. nat_le n high) interval.high true

abbrev pub is_child_of : Entry → Entry → Bool
is_child_of e x = option_map_or (same_node e.node) x.parent false

module _ (clafers : List Clafer) (entries : List Entry) where
  -- the entries that are instances of a clafer
  abbrev pub instances : ℕ → List Entry
  instances c = filter (λ e. is_a clafers e.node.clafer c) entries

  -- the multiplicity of the clafer k, with number c: of a nested one below each instance of its parent, else of all
  abbrev pub meets_times : ℕ → Clafer → Bool
  meets_times c k =
      option_map_or (λ p. list_all (λ e. allows k.times (count_by (is_child_of e) (instances c))) (instances p)) k.parent
      (allows k.times (length (instances c)))

  -- below each instance, the instances of the clafers that are declared directly under the clafer
  abbrev pub meets_group : ℕ → Clafer → Bool
  meets_group c k =
      list_all (λ e. allows k.group (count_by (λ x. is_child_of e x && option_map_or (λ p. p == c) (parent_of clafers x.node.clafer) false) entries))
      (instances c)

  -- a target of the referred clafer, or an integer of the range
  abbrev pub refers : Scopes → Option ℕ → Target → Bool
  refers scopes None (target.Int z) = fits_range scopes (target.Int z)
  refers scopes (Some c) (target.Node n) = has_node (nodes_of (instances c)) n
  refers scopes _ _ = false

  -- one target where the clafer has a reference, and none where it has not
  abbrev pub meets_reference : Scopes → Entry → Bool
  meets_reference scopes e =
      option_map_or (λ r. option_map_or (refers scopes r.to) e.target false) (reference_of clafers e.node.clafer) (is_none e.target)

  abbrev pub is_set : ℕ → Bool
  is_set c = option_map_or (λ r. not r.bag) (reference_of clafers c) false

abbrev pub same_target : Target → Target → Bool
same_target (target.Int a) (target.Int b) = int_eq a b
same_target (target.Node m) (target.Node n) = same_node m n
same_target _ _ = false

abbrev pub same_option : {X : Type 0} → (X → X → Bool) → Option X → Option X → Bool
same_option same None None = true
same_option same (Some a) (Some b) = same a b
same_option same _ _ = false

-- two instances of one clafer with a set reference, with one parent or none, have different targets
abbrev pub differ : List Clafer → List Entry → Entry → Entry → Bool
differ clafers entries a b =
    not ((a.node.clafer == b.node.clafer) && same_option same_node a.parent b.parent && is_set clafers entries a.node.clafer && same_option same_target a.target b.target)

-- the instance has the shape that the model asks for
abbrev pub has_shape : List Clafer → Scopes → List Entry → Bool
has_shape clafers scopes entries =
    list_all (λ c. option_map_or (λ k. meets_times clafers entries c k && meets_group clafers entries c k) (slice_get clafers c) true) (numbers_below (length clafers))
    && list_all (meets_reference clafers entries scopes) entries
    && each_two (differ clafers entries) entries
