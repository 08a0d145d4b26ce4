-- The bits of an instance's facts show the instance.
use Rattle.std.proofs.Common.{◌≡◌, ℕ, ◌+◌, ◌<◌, Bool, true, ◌&&◌, List, [], ◌++◌, length, map, get_or, sym, ap, ◌∙◌, arith, append_assoc}
use Rattle.std.specs.Prelude.{nat_lt, is_some}
use Rattle.std.specs.Option.{option_map_or}
use Rattle.std.specs.List.{flat_map, list_all, range_with_len}
use Rattle.std.proofs.lemmas.List.{length-append, length-map}
use Rattle.bool_circuit.specs.declared.gate.Wire.{Wire}
use Rattle.clf_tree.specs.declared.model.Clafer.{Clafer}
use Rattle.clf_tree.specs.declared.instance.Node.{Node}
use Rattle.clf_tree.specs.declared.instance.Entry.{Entry}
use Rattle.clf_tree.specs.declared.scopes.Scopes.{Scopes}
use Rattle.clf_tree.specs.Lists.{each_two}
use Rattle.clf_tree.specs.Hierarchy.{is_concrete}
use Rattle.clf_tree.specs.Nodes.{has_node, nodes_of, named_by, target_node, scope_of, parent_in, is_within, is_in_range, is_ordered, is_tree, has_its_parent, ends_within, fits_range}
use Rattle.clf_tree.specs.Shape.{has_shape, meets_reference, differ}
use Rattle.set_bits.specs.declared.layout.Edge.{Edge}
use Rattle.set_bits.specs.declared.layout.Layout.{Layout}
use Rattle.set_bits.specs.Fitting.{Fits, value_wires, size}
use Rattle.set_bits.specs.Showing.{Shows, ties, target_in, target_integer, has_edge, has_value_bits}
use Rattle.shown_instance.specs.Packed.{IsPacked}
use Rattle.shown_instance.proofs.Order.{both}
use Rattle.shown_instance.proofs.Adapting.{all_pass}
use Rattle.shown_instance.proofs.Fitted.{node_inside}
use Rattle.shown_instance.proofs.Reading.{read_part, numbers_read, numbers_length}
use Rattle.shown_instance.proofs.Belonging.{all_of, map_same, parent_edge, target_edge, value_there, integer_ranged, named_itself}

meets_each : (clafers : List Clafer) (scopes : Scopes) (entries : List Entry) → has_shape clafers scopes entries ≡ true → (k : ℕ) (d : Entry) → k < length entries → meets_reference clafers entries scopes (get_or entries k d) ≡ true
meets_each clafers scopes entries shape k d l =
    all_pass (meets_reference clafers entries scopes) entries (both _ (list_all (meets_reference clafers entries scopes) entries) (both _ (each_two (differ clafers entries) entries) shape).0).1 k d l

pub shaped_in_range : (clafers : List Clafer) (scopes : Scopes) (entries : List Entry) → has_shape clafers scopes entries ≡ true → is_in_range scopes entries ≡ true
shaped_in_range clafers scopes entries shape =
    all_of (λ (e : Entry). option_map_or (fits_range scopes) e.target true) entries (λ k d l. integer_ranged clafers scopes entries (get_or entries k d) (meets_each clafers scopes entries shape k d l))

pub packed_shows : (clafers : List Clafer) (scopes : Scopes) (layout : Layout) (bits : List Bool) (entries : List Entry) → Fits clafers scopes layout → is_within clafers scopes entries ≡ true → is_ordered entries ≡ true → is_tree clafers entries ≡ true → has_shape clafers scopes entries ≡ true
    → IsPacked layout entries bits → Shows clafers scopes layout bits entries
packed_shows clafers scopes layout bits entries f within ordered tree shape p = record {
  within = within;
  in_range = shaped_in_range clafers scopes entries shape;
  ordered = ordered;
  size = sized;
  live = read_part (λ (w : Wire). w.number) layout.live [] lives (parents ++ (targets ++ numbers)) bits p.whole (f.live ∙ ap (range_with_len 0) (sym lives_many));
  parents = read_part (λ (e : Edge). e.here.number) layout.parents lives parents (targets ++ numbers) bits p.whole (f.parent_wires ∙ ap (λ n. range_with_len n (length layout.parents)) (sym lives_many) ∙ ap (range_with_len (length lives)) (sym parents_many));
  has_parents = all_of (λ (e : Entry). option_map_or (has_edge layout.slots layout.parents e.node) e.parent true) entries
      (λ k d l. parent_edge clafers scopes layout.slots layout.parents entries (get_or entries k d) inside f.parents (named k d l) (own k d l));
  targets = read_part (λ (e : Edge). e.here.number) layout.targets (lives ++ parents) targets numbers bits (p.whole ∙ sym (append_assoc lives parents (targets ++ numbers)))
      (f.target_wires ∙ ap (λ n. range_with_len n (length layout.targets)) (sym before_targets) ∙ ap (range_with_len (length (lives ++ parents))) (sym targets_many));
  has_targets = all_of (λ (e : Entry). option_map_or (has_edge layout.slots layout.targets e.node) (target_node e) true) entries
      (λ k d l. target_edge clafers scopes layout.slots layout.targets entries (get_or entries k d) inside f.targets (named k d l) (meets k d l));
  values = numbers_read entries layout.slots bits ((lives ++ parents) ++ targets) layout.values p.numbers p.integers
      (p.whole ∙ sym (append_assoc lives parents (targets ++ numbers)) ∙ sym (append_assoc (lives ++ parents) targets numbers))
      (f.integer_wires ∙ ap (λ n. range_with_len n (length (value_wires layout.values))) (sym before_numbers));
  has_values = map_same (λ (e : Entry). is_some (target_integer e)) (λ (e : Entry). has_value_bits layout.slots layout.values e.node) entries
      (λ k d l. value_there clafers scopes layout.slots layout.values entries (get_or entries k d) f.values (inside (get_or entries k d).node (named_itself test (get_or entries k d) (named k d l))) (meets k d l));
}
  where
    test : Node → Bool
    test n = is_concrete clafers n.clafer && nat_lt n.number (scope_of scopes n.clafer)

    lives : List Bool
    lives = map (has_node (nodes_of entries)) layout.slots

    parents : List Bool
    parents = ties (parent_in entries) layout.slots layout.parents

    targets : List Bool
    targets = ties (target_in entries) layout.slots layout.targets

    numbers : List Bool
    numbers = flat_map (λ bs. bs) p.numbers

    lives_many : length lives ≡ length layout.slots
    lives_many = length-map layout.slots (has_node (nodes_of entries))

    parents_many : length parents ≡ length layout.parents
    parents_many = length-map layout.parents _

    targets_many : length targets ≡ length layout.targets
    targets_many = length-map layout.targets _

    before_targets : length (lives ++ parents) ≡ length layout.slots + length layout.parents
    before_targets = omega (arith, length-append lives parents, lives_many, parents_many)

    before_numbers : length ((lives ++ parents) ++ targets) ≡ length layout.slots + length layout.parents + length layout.targets
    before_numbers = omega (arith, length-append (lives ++ parents) targets, before_targets, targets_many)

    sized : length bits ≡ size layout
    sized = omega (arith, ap length p.whole, length-append lives (parents ++ (targets ++ numbers)), length-append parents (targets ++ numbers), length-append targets numbers, lives_many, parents_many, targets_many, numbers_length entries layout.slots layout.values p.numbers p.integers)

    inside : (n : Node) → test n ≡ true → has_node layout.slots n ≡ true
    inside n h = ap (λ slots. has_node slots n) f.slots ∙ node_inside clafers scopes n h

    named : (k : ℕ) (d : Entry) → k < length entries → list_all test (named_by (get_or entries k d)) ≡ true
    named k d l = all_pass (λ (e : Entry). list_all test (named_by e)) entries within k d l

    own : (k : ℕ) (d : Entry) → k < length entries → has_its_parent clafers entries (get_or entries k d) ≡ true
    own k d l =
        let e : Entry = get_or entries k d in
        let whole = all_pass (λ (e : Entry). list_all (λ (n : Node). is_concrete clafers n.clafer) (named_by e) && has_its_parent clafers entries e && ends_within (length entries) entries e.parent) entries tree k d l in
        (both (list_all (λ (n : Node). is_concrete clafers n.clafer) (named_by e)) (has_its_parent clafers entries e)
        (both (list_all (λ (n : Node). is_concrete clafers n.clafer) (named_by e) && has_its_parent clafers entries e) (ends_within (length entries) entries e.parent) whole).0).1

    meets : (k : ℕ) (d : Entry) → k < length entries → meets_reference clafers entries scopes (get_or entries k d) ≡ true
    meets k d l = meets_each clafers scopes entries shape k d l
