-- What all rules come to.
use Rattle.std.proofs.Common.{◌≡◌, Bool, true, ◌&&◌, List, length, sym, ◌∙◌, subst}
use Rattle.std.specs.Prelude.{not}
use Rattle.std.specs.Option.{option_map_or}
use Rattle.std.specs.List.{list_all}
use Rattle.clf_tree.specs.declared.model.Clafer.{Clafer}
use Rattle.clf_tree.specs.declared.scopes.Scopes.{Scopes}
use Rattle.clf_tree.specs.declared.instance.Entry.{Entry}
use Rattle.clf_tree.specs.Lists.{each_two, numbers_below}
use Rattle.clf_tree.specs.Named.{each, contains_itself}
use Rattle.clf_tree.specs.Nodes.{is_tree}
use Rattle.clf_tree.specs.Shape.{has_shape, differ, meets_times, meets_group, meets_reference}
use Rattle.std.specs.Prelude.{slice_get}
use Rattle.set_bits.specs.declared.layout.Layout.{Layout}
use Rattle.set_bits.specs.Fitting.{Fits, size}
use Rattle.shown_instance.specs.Bounds.{have_bounds}
use Rattle.shown_instance.specs.Consistent.{abstract_are_empty, is_consistent}
use Rattle.shown_instance.specs.Distinct.{have_sets}
use Rattle.shown_instance.specs.Placed.{have_parents, have_targets}
use Rattle.shown_instance.specs.Shaped.{is_shaped, ShowsShaped}
use Rattle.shown_instance.specs.Shown.{shown}
use Rattle.shown_instance.proofs.Bounding.{bounds_told}
use Rattle.shown_instance.proofs.Fitted.{shows_only}
use Rattle.shown_instance.proofs.Order.{both, together}
use Rattle.shown_instance.proofs.Placing.{targets_told}
use Rattle.shown_instance.proofs.Differing.{sets_told}
use Rattle.shown_instance.proofs.Trees.{tree_told}
use Rattle.shown_instance.proofs.Whole.{consistent_bits_show, shown_bits_consistent}

pub shaped_shows : (clafers : List Clafer) (scopes : Scopes) (layout : Layout) (bits : List Bool) → Fits clafers scopes layout → abstract_are_empty clafers scopes ≡ true → each clafers (λ c. not (contains_itself clafers c)) ≡ true → length bits ≡ size layout → is_shaped clafers scopes layout bits ≡ true → ShowsShaped clafers scopes layout bits
shaped_shows clafers scopes layout bits f empty acyclic sized h = record {
  entries = told;
  shows = consistent_bits_show clafers scopes layout bits f empty sized first.0;
  tree = sym (tree_told clafers scopes layout bits f empty acyclic first.0) ∙ first.1;
  shape = together (bounds && references) (each_two (differ clafers told) told)
      (together bounds references (sym (bounds_told clafers scopes layout bits f first.0) ∙ third.1) (sym (targets_told clafers scopes layout bits f first.0) ∙ second.1))
      (sym (sets_told clafers scopes layout bits f first.0 first.1 second.1 third.1) ∙ fourth.1);
}
  where
    told : List Entry
    told = shown layout bits

    bounds : Bool
    bounds = list_all (λ c. option_map_or (λ k. meets_times clafers told c k && meets_group clafers told c k) (slice_get clafers c) true) (numbers_below (length clafers))

    references : Bool
    references = list_all (meets_reference clafers told scopes) told

    p : Bool
    p = is_consistent scopes layout bits && have_parents clafers layout bits

    fourth : ((p && have_targets clafers layout bits && have_bounds clafers layout bits) ≡ true) × (have_sets clafers layout bits ≡ true)
    fourth = both (p && have_targets clafers layout bits && have_bounds clafers layout bits) (have_sets clafers layout bits) h

    third : ((p && have_targets clafers layout bits) ≡ true) × (have_bounds clafers layout bits ≡ true)
    third = both (p && have_targets clafers layout bits) (have_bounds clafers layout bits) fourth.0

    second : (p ≡ true) × (have_targets clafers layout bits ≡ true)
    second = both p (have_targets clafers layout bits) third.0

    first : (is_consistent scopes layout bits ≡ true) × (have_parents clafers layout bits ≡ true)
    first = both (is_consistent scopes layout bits) (have_parents clafers layout bits) second.0

pub shows_shaped : (clafers : List Clafer) (scopes : Scopes) (layout : Layout) (bits : List Bool) → Fits clafers scopes layout → abstract_are_empty clafers scopes ≡ true → each clafers (λ c. not (contains_itself clafers c)) ≡ true → ShowsShaped clafers scopes layout bits → is_shaped clafers scopes layout bits ≡ true
shows_shaped clafers scopes layout bits f empty acyclic w =
    together (is_consistent scopes layout bits && have_parents clafers layout bits && have_targets clafers layout bits && have_bounds clafers layout bits) (have_sets clafers layout bits)
    (together (is_consistent scopes layout bits && have_parents clafers layout bits && have_targets clafers layout bits) (have_bounds clafers layout bits)
    (together (is_consistent scopes layout bits && have_parents clafers layout bits) (have_targets clafers layout bits) (together (is_consistent scopes layout bits) (have_parents clafers layout bits) consistent parents) targets) counts)
    (sets_told clafers scopes layout bits f consistent parents targets counts ∙ right.1)
  where
    told : List Entry
    told = shown layout bits

    bounds : Bool
    bounds = list_all (λ c. option_map_or (λ k. meets_times clafers told c k && meets_group clafers told c k) (slice_get clafers c) true) (numbers_below (length clafers))

    references : Bool
    references = list_all (meets_reference clafers told scopes) told

    same : w.entries ≡ told
    same = shows_only clafers scopes layout bits w.entries f w.shows

    consistent : is_consistent scopes layout bits ≡ true
    consistent = shown_bits_consistent clafers scopes layout bits w.entries f w.shows

    parents : have_parents clafers layout bits ≡ true
    parents = tree_told clafers scopes layout bits f empty acyclic consistent ∙ subst (λ es. is_tree clafers es ≡ true) same w.tree

    right : ((bounds && references) ≡ true) × (each_two (differ clafers told) told ≡ true)
    right = both (bounds && references) (each_two (differ clafers told) told) (subst (λ es. has_shape clafers scopes es ≡ true) same w.shape)

    left : (bounds ≡ true) × (references ≡ true)
    left = both bounds references right.0

    targets : have_targets clafers layout bits ≡ true
    targets = targets_told clafers scopes layout bits f consistent ∙ left.1

    counts : have_bounds clafers layout bits ≡ true
    counts = bounds_told clafers scopes layout bits f consistent ∙ left.0
