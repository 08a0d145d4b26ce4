-- Bits of a layout at which wires are true, and the instances of the model.
use Rattle.std.proofs.Common.{◌≡◌, Bool, true, false, ◌&&◌, List, length, refl, sym, ap, subst, ◌∙◌, IsTrue}
use Rattle.std.specs.Prelude.{◌↔◌, ◌≤ℤ◌, ◌<ℤ◌, ◌^◌, not, pos, neg_ℤ}
use Rattle.std.specs.List.{list_all}
use Rattle.std.proofs.lemmas.Bool.{false≢true}
use Rattle.std.proofs.lemmas.List.Folds.{list_all-map}
use Rattle.std.proofs.lemmas.List.FromFn.{length-range_with_len}
use Rattle.bool_circuit.specs.declared.gate.Gate.{Gate}
use Rattle.bool_circuit.specs.declared.gate.Wire.{Wire}
use Rattle.bool_circuit.specs.Circuit.{inputs, wire_value, wire_values}
use Rattle.canonical_encoder.specs.Slots.{are_canonical}
use Rattle.canonical_instances.specs.Canonical.{is_canonical}
use Rattle.canonical_instances.specs.Exists.{SatisfyingHaveCanonical}
use Rattle.clf_tree.specs.declared.instance.Entry.{Entry}
use Rattle.clf_tree.specs.declared.model.Clafer.{Clafer}
use Rattle.clf_tree.specs.declared.model.Model.{Model}
use Rattle.clf_tree.specs.declared.scopes.Scopes.{Scopes}
use Rattle.clf_tree.specs.Named.{each, contains_itself}
use Rattle.clf_tree.specs.Nodes.{is_ordered, is_tree, is_within}
use Rattle.clf_tree.specs.Satisfies.{Law, holds, laws_of, satisfies_laws}
use Rattle.clf_tree.specs.Shape.{has_shape}
use Rattle.set_bits.specs.declared.layout.Layout.{Layout}
use Rattle.set_bits.specs.Fitting.{Fits, size}
use Rattle.set_bits.specs.Showing.{Shows}
use Rattle.shown_instance.specs.Consistent.{abstract_are_empty}
use Rattle.shown_instance.specs.Shaped.{is_shaped, ShowsShaped}
use Rattle.shown_instance.specs.Shown.{shown}
use Rattle.question_space.specs.Choices.{chosen}
use Rattle.question_space.specs.Encoding.{IsOnWires}
use Rattle.question_space.proofs.Choosing.{chosen-map}
use Rattle.question_space.proofs.Units.{both, left, right}

-- what is known of bits and of what they show
pub record Laws : Type 0 where
  pub shaped : (clafers : List Clafer) (scopes : Scopes) (layout : Layout) (bits : List Bool) → Fits clafers scopes layout
      → IsTrue (abstract_are_empty clafers scopes) → IsTrue (each clafers (λ c. not (contains_itself clafers c)))
      → length bits ≡ size layout → IsTrue (is_shaped clafers scopes layout bits) ↔ ShowsShaped clafers scopes layout bits
  pub alone : (clafers : List Clafer) (scopes : Scopes) (layout : Layout) (bits : List Bool) (entries : List Entry)
      → Fits clafers scopes layout → Shows clafers scopes layout bits entries → entries ≡ shown layout bits
  pub spelled : (clafers : List Clafer) (scopes : Scopes) (layout : Layout) (entries : List Entry) → Fits clafers scopes layout
      → neg_ℤ (pos (2 ^ 63)) ≤ℤ scopes.low → scopes.high <ℤ pos (2 ^ 63) → IsTrue (is_within clafers scopes entries)
      → IsTrue (is_ordered entries) → IsTrue (is_tree clafers entries) → IsTrue (has_shape clafers scopes entries)
      → (bits : List Bool) × Shows clafers scopes layout bits entries
  pub tested : (clafers : List Clafer) (scopes : Scopes) (layout : Layout) (bits : List Bool) (entries : List Entry)
      → Fits clafers scopes layout → Shows clafers scopes layout bits entries → IsTrue (is_tree clafers entries)
      → IsTrue (has_shape clafers scopes entries) → are_canonical clafers layout bits ≡ is_canonical clafers entries
  pub canonical : SatisfyingHaveCanonical

-- the bits show the instance that they tell, and it satisfies laws and is canonical
pub record ShowsLawful (model : Model) (scopes : Scopes) (layout : Layout) (laws : List Law) (bits : List Bool) : Type 0 where
  pub shows : Shows model.clafers scopes layout bits (shown layout bits)
  pub satisfied : satisfies_laws model.clafers laws scopes (shown layout bits) ≡ true
  pub canonical : is_canonical model.clafers (shown layout bits) ≡ true

-- the structure is true at the bits, and the laws hold in what they tell
pub record TellsLawful (model : Model) (scopes : Scopes) (layout : Layout) (gates : List Gate) (structure : Wire) (laws : List Law)
    (bits : List Bool) : Type 0 where
  pub count : length bits ≡ size layout
  pub shaped : is_shaped model.clafers scopes layout bits ≡ true
  pub structured : wire_value gates structure bits ≡ true
  pub lawful : list_all (holds model.clafers (shown layout bits)) laws ≡ true

-- the four rules of an instance
four : (a b c d : Bool) → a ≡ true → b ≡ true → c ≡ true → d ≡ true → (a && b && c && d) ≡ true
four a b c d e f g h = rw (e, f, g, h) refl

-- and those of an instance that is ordered
pub four_instance : (a b c d : Bool) → a ≡ true → b ≡ true → c ≡ true → d ≡ true → (a && b && c && d) ≡ true
four_instance = four

record FourHold (a b c d : Bool) : Type 0 where
  first : a ≡ true
  second : b ≡ true
  third : c ≡ true
  fourth : d ≡ true

apart : (a b c d : Bool) → (a && b && c && d) ≡ true → FourHold a b c d
apart true true true true e = record { first = refl; second = refl; third = refl; fourth = refl }
apart true true true false e = absurd (false≢true e)
apart true true false d e = absurd (false≢true e)
apart true false c d e = absurd (false≢true e)
apart false b c d e = absurd (false≢true e)

module _ (known : Laws) (model : Model) (scopes : Scopes) (layout : Layout) (gates : List Gate) (structure : Wire) (rules : List Wire) where
  -- as many inputs as bits
  pub size_is : IsOnWires model scopes layout gates structure rules → inputs gates ≡ size layout
  size_is on = ap length on.inputs ∙ length-range_with_len 0 (size layout)

  -- bits at which the structure is true show the instance that they tell, with the laws that hold in it
  pub shown_lawful : IsOnWires model scopes layout gates structure rules → (laws : List Law) (bits : List Bool) → length bits ≡ size layout
      → wire_value gates structure bits ≡ true → list_all (holds model.clafers (shown layout bits)) laws ≡ true
      → ShowsLawful model scopes layout laws bits
  shown_lawful on laws bits count true_there lawful = met ((known.shaped model.clafers scopes layout bits on.placed.fits on.placed.empty
      on.placed.acyclic count).0 (left shaped told here))
    where
      shaped : Bool
      shaped = is_shaped model.clafers scopes layout bits

      told : Bool
      told = are_canonical model.clafers layout bits

      here : (shaped && told) ≡ true
      here = sym (on.structure_is bits) ∙ true_there

      met : ShowsShaped model.clafers scopes layout bits → ShowsLawful model scopes layout laws bits
      met s =
          let same = known.alone model.clafers scopes layout bits s.entries on.placed.fits s.shows in
          record {
            shows = subst (Shows model.clafers scopes layout bits) same s.shows;
            satisfied = four (is_within model.clafers scopes (shown layout bits)) (is_tree model.clafers (shown layout bits))
                (has_shape model.clafers scopes (shown layout bits)) (list_all (holds model.clafers (shown layout bits)) laws)
                (ap (is_within model.clafers scopes) (sym same) ∙ s.shows.within) (ap (is_tree model.clafers) (sym same) ∙ s.tree)
                (ap (has_shape model.clafers scopes) (sym same) ∙ s.shape) lawful;
            canonical = ap (is_canonical model.clafers) (sym same) ∙ sym
                (known.tested model.clafers scopes layout bits s.entries on.placed.fits s.shows s.tree s.shape) ∙ right shaped told here;
          }

  pub told_lawful : IsOnWires model scopes layout gates structure rules → (laws : List Law) (bits : List Bool) (entries : List Entry)
      → Shows model.clafers scopes layout bits entries → satisfies_laws model.clafers laws scopes entries ≡ true
      → is_canonical model.clafers entries ≡ true → TellsLawful model scopes layout gates structure laws bits
  told_lawful on laws bits entries shows satisfied canonical =
      let all = apart (is_within model.clafers scopes entries) (is_tree model.clafers entries) (has_shape model.clafers scopes entries)
      (list_all (holds model.clafers entries) laws) satisfied in
      let same = known.alone model.clafers scopes layout bits entries on.placed.fits shows in
      let shaped = (known.shaped model.clafers scopes layout bits on.placed.fits on.placed.empty on.placed.acyclic shows.size).1
      (record { entries = entries; shows = shows; tree = all.second; shape = all.third }) in
      record {
        count = shows.size;
        shaped = shaped;
        structured = on.structure_is bits ∙ both (is_shaped model.clafers scopes layout bits)
            (are_canonical model.clafers layout bits) shaped
            (known.tested model.clafers scopes layout bits entries on.placed.fits shows all.second all.third ∙ canonical);
        lawful = ap (λ es. list_all (holds model.clafers es) laws) (sym same) ∙ all.fourth;
      }

  -- at shaped bits the wires of the chosen rules are true exactly where the chosen laws hold
  pub rules_hold : IsOnWires model scopes layout gates structure rules → (fs : List Bool) (bits : List Bool) → length bits ≡ size layout
      → is_shaped model.clafers scopes layout bits ≡ true
      → list_all (λ b. b) (wire_values gates (chosen fs rules) bits) ≡ list_all (holds model.clafers (shown layout bits))
      (chosen fs (laws_of model))
  rules_hold on fs bits count shaped =
      ap (list_all (λ b. b)) (sym (chosen-map (λ w. wire_value gates w bits) fs rules) ∙ ap (chosen fs) (on.rules_are bits count shaped)
      ∙ chosen-map (holds model.clafers (shown layout bits)) fs (laws_of model))
      ∙ list_all-map (λ b. b) (holds model.clafers (shown layout bits)) (chosen fs (laws_of model))

  pub shaped_there : IsOnWires model scopes layout gates structure rules → (bits : List Bool) → wire_value gates structure bits ≡ true
      → is_shaped model.clafers scopes layout bits ≡ true
  shaped_there on bits e = left (is_shaped model.clafers scopes layout bits) (are_canonical model.clafers layout bits)
      (sym (on.structure_is bits) ∙ e)

  -- each instance that satisfies laws has bits
  pub bits_of : IsOnWires model scopes layout gates structure rules → (entries : List Entry) (laws : List Law) → is_ordered entries ≡ true
      → satisfies_laws model.clafers laws scopes entries ≡ true
      → (bits : List Bool) × Shows model.clafers scopes layout bits entries
  bits_of on entries laws ordered satisfied =
      let all = apart (is_within model.clafers scopes entries) (is_tree model.clafers entries) (has_shape model.clafers scopes entries)
      (list_all (holds model.clafers entries) laws) satisfied in
      known.spelled model.clafers scopes layout entries on.placed.fits on.placed.low on.placed.high all.first ordered all.second all.third

  -- at shaped bits all rules are true exactly where all laws hold
  pub all_rules_hold : IsOnWires model scopes layout gates structure rules → (bits : List Bool) → length bits ≡ size layout
      → is_shaped model.clafers scopes layout bits ≡ true
      → list_all (λ b. b) (wire_values gates rules bits) ≡ list_all (holds model.clafers (shown layout bits)) (laws_of model)
  all_rules_hold on bits count shaped =
      ap (list_all (λ b. b)) (on.rules_are bits count shaped) ∙ list_all-map (λ b. b) (holds model.clafers (shown layout bits))
      (laws_of model)
