-- Bits that show a tree of the right shape: what every form of expression asks of them.
use Rattle.std.proofs.Common.{◌≡◌, ℕ, ◌≤◌, Bool, true, not, ◌&&◌, ◌||◌, List, length, get_or, ap, ◌∙◌, subst}
use Rattle.std.specs.Prelude.{slice_get, is_some}
use Rattle.std.specs.Option.{option_map_or}
use Rattle.std.specs.List.{list_all, All, count_by}
use Rattle.bool_circuit.specs.Circuit.{entry}
use Rattle.clf_tree.specs.declared.model.Clafer.{Clafer}
use Rattle.clf_tree.specs.declared.instance.Entry.{Entry}
use Rattle.clf_tree.specs.declared.scopes.Scopes.{Scopes}
use Rattle.clf_tree.specs.Lists.{each_two, numbers_below}
use Rattle.clf_tree.specs.Hierarchy.{is_concrete, owners, parent_of, target_of}
use Rattle.clf_tree.specs.Nodes.{is_before, is_ordered, is_within, is_tree, has_its_parent, ends_within, named_by}
use Rattle.clf_tree.specs.Shape.{has_shape, differ, meets_times, meets_group, meets_reference}
use Rattle.clf_tree.specs.CoreSoundness.{is_instance}
use Rattle.set_bits.specs.declared.layout.Edge.{Edge}
use Rattle.set_bits.specs.declared.layout.Layout.{Layout}
use Rattle.set_bits.specs.Fitting.{Fits, ends, all_ends, referred}
use Rattle.shown_instance.specs.Consistent.{is_consistent, are_edges, are_integers, lead_from_live, are_single}
use Rattle.shown_instance.specs.Placed.{have_parents, have_targets, have_taken, lead_to_live}
use Rattle.shown_instance.specs.Shaped.{ShowsShaped}
use Rattle.shown_instance.specs.Shown.{shown, is_live, is_taken}
use Rattle.shown_instance.proofs.Adapting.{all_pass}
use Rattle.shown_instance.proofs.Counts.{IsSound}
use Rattle.shown_instance.proofs.Fitted.{slots_ascend, shows_only}
use Rattle.shown_instance.proofs.Order.{both, together}
use Rattle.shown_instance.proofs.Placing.{implied, parents_told, targets_told}
use Rattle.shown_instance.proofs.Sound.{single_count}
use Rattle.shown_instance.proofs.Whole.{sound_edges, shown_bits_consistent}
use Rattle.told_constraints.proofs.Lists.{all_second}

-- the taken edges lead from live slots to live slots, one of each at most
pub record AreSteps (layout : Layout) (bits : List Bool) (edges : List Edge) : Type 0 where
  pub sound : All (IsSound layout bits) edges
  pub single : (i : ℕ) → count_by (is_taken bits i) edges ≤ 1
  pub lands : All (λ e. entry bits e.here ≡ true → is_live layout bits e.to ≡ true) edges

-- the layout is right, and the bits tell a tree of the right shape
pub record Setting (clafers : List Clafer) (scopes : Scopes) (layout : Layout) (bits : List Bool) : Type 0 where
  pub fits : Fits clafers scopes layout
  pub asc : each_two is_before layout.slots ≡ true
  pub shaped : is_instance clafers scopes (shown layout bits) ≡ true
  pub parents : AreSteps layout bits layout.parents
  pub targets : AreSteps layout bits layout.targets

steps_of : (near : ℕ → List ℕ) (layout : Layout) (edges : List Edge) (bits : List Bool) → ends edges ≡ all_ends near layout.slots
    → are_edges layout edges bits ≡ true → lead_to_live layout edges bits ≡ true → AreSteps layout bits edges
steps_of near layout edges bits h consistent lands =
    let p = both (lead_from_live layout edges bits) (are_single edges bits) consistent in
    record {
      sound = sound_edges near layout edges bits h p.0;
      single = λ i. single_count bits i edges p.1;
      lands = λ k d l.
          let e : Edge = get_or edges k d in
          implied (entry bits e.here) (is_live layout bits e.to)
          (all_pass (λ (x : Edge). not (entry bits x.here) || is_live layout bits x.to) edges lands k d l);
    }

pub setting_of : (clafers : List Clafer) (scopes : Scopes) (layout : Layout) (bits : List Bool) → Fits clafers scopes layout
    → ShowsShaped clafers scopes layout bits → Setting clafers scopes layout bits
setting_of clafers scopes layout bits f w = record {
  fits = f;
  asc = ap (each_two is_before) f.slots ∙ slots_ascend clafers scopes;
  shaped =
      together (is_ordered told && is_within clafers scopes told && is_tree clafers told) (has_shape clafers scopes told)
      (together (is_ordered told && is_within clafers scopes told) (is_tree clafers told)
      (together (is_ordered told) (is_within clafers scopes told) (subst (λ es. is_ordered es ≡ true) same w.shows.ordered)
      (subst (λ es. is_within clafers scopes es ≡ true) same w.shows.within)) tree) shape;
  parents = steps_of (owners clafers) layout layout.parents bits f.parents pair.0
      (both (have_taken (λ c. is_some (parent_of clafers c)) layout layout.parents bits)
      (lead_to_live layout layout.parents bits) parents).1;
  targets = steps_of (referred clafers) layout layout.targets bits f.targets pair.1
      (both (have_taken (λ c. is_some (target_of clafers c)) layout layout.targets bits)
      (lead_to_live layout layout.targets bits) targets).1;
}
  where
    told : List Entry
    told = shown layout bits

    bounds : Bool
    bounds = list_all (λ c. option_map_or (λ k. meets_times clafers told c k && meets_group clafers told c k) (slice_get clafers c) true)
        (numbers_below (length clafers))

    references : Bool
    references = list_all (meets_reference clafers told scopes) told

    same : w.entries ≡ told
    same = shows_only clafers scopes layout bits w.entries f w.shows

    tree : is_tree clafers told ≡ true
    tree = subst (λ es. is_tree clafers es ≡ true) same w.tree

    shape : has_shape clafers scopes told ≡ true
    shape = subst (λ es. has_shape clafers scopes es ≡ true) same w.shape

    consistent : is_consistent scopes layout bits ≡ true
    consistent = shown_bits_consistent clafers scopes layout bits w.entries f w.shows

    pair : (are_edges layout layout.parents bits ≡ true) × (are_edges layout layout.targets bits ≡ true)
    pair = both (are_edges layout layout.parents bits) (are_edges layout layout.targets bits)
        (both (are_edges layout layout.parents bits && are_edges layout layout.targets bits) (are_integers scopes layout bits) consistent).0

    parents : have_parents clafers layout bits ≡ true
    parents =
        parents_told clafers scopes layout bits f consistent
        ∙ all_second (λ (e : Entry). list_all (λ n. is_concrete clafers n.clafer) (named_by e)) (has_its_parent clafers told)
        (λ (e : Entry). ends_within (length told) told e.parent) told tree

    targets : have_targets clafers layout bits ≡ true
    targets = targets_told clafers scopes layout bits f consistent
        ∙ (both bounds references (both (bounds && references) (each_two (differ clafers told) told) shape).0).1
