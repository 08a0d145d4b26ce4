-- Bits at which structure, constraints and vectors are true, and the instances that they show.
use Rattle.std.proofs.Common.{◌≡◌, Bool, true, ◌&&◌, List, ◌∷◌, ◌++◌, length, refl, sym, ap, ◌∙◌}
use Rattle.std.specs.Prelude.{◌↔◌, ℤ}
use Rattle.std.specs.List.{list_all}
use Rattle.std.proofs.lemmas.List.{map-append}
use Rattle.bool_circuit.specs.declared.gate.Gate.{Gate}
use Rattle.bool_circuit.specs.declared.gate.Wire.{Wire}
use Rattle.bool_circuit.specs.Circuit.{wire_value, wire_values}
use Rattle.canonical_instances.specs.Canonical.{is_canonical}
use Rattle.canonical_instances.specs.Exists.{SatisfiesCanonically}
use Rattle.clf_tree.specs.declared.instance.Entry.{Entry}
use Rattle.clf_tree.specs.declared.model.Model.{Model}
use Rattle.clf_tree.specs.declared.model.Rule.{Rule}
use Rattle.clf_tree.specs.declared.scopes.Scopes.{Scopes}
use Rattle.clf_tree.specs.declared.vector.Question.{Question}
use Rattle.clf_tree.specs.Front.{admits, ways_of}
use Rattle.clf_tree.specs.Nodes.{is_ordered}
use Rattle.clf_tree.specs.Satisfies.{Law, holds, laws_of, satisfies_laws, vector_of}
use Rattle.clf_tree.specs.Tree.{tree}
use Rattle.set_bits.specs.declared.layout.Layout.{Layout}
use Rattle.set_bits.specs.Fitting.{size}
use Rattle.set_bits.specs.Showing.{Shows}
use Rattle.shown_instance.specs.Shaped.{is_shaped}
use Rattle.shown_instance.specs.Shown.{shown}
use Rattle.question_space.specs.Choices.{Choice, chosen, chosen_model, chosen_question, flags}
use Rattle.question_space.specs.Encoding.{IsOnWires, all_hold}
use Rattle.question_space.specs.Posing.{Answers}
use Rattle.question_space.specs.Queries.{TellTests}
use Rattle.question_space.proofs.Choosing.{all_append, chosen-map, chosen_tests, tests_admit, vector_flags}
use Rattle.question_space.proofs.Shaped.{Laws, ShowsLawful, all_rules_hold, bits_of, rules_hold, shaped_there, shown_lawful, size_is, told_lawful}
use Rattle.question_space.proofs.Units.{HoldSomewhere, both, left, right}

-- at shaped bits wires are all true exactly where laws hold, and others exactly where the vector is admitted
pub record TellBoth (model : Model) (scopes : Scopes) (layout : Layout) (gates : List Gate) (some others : List Wire) (laws : List Law)
    (admitted : List ℤ → Bool) : Type 0 where
  pub laws_are : (bits : List Bool) → length bits ≡ size layout → is_shaped model.clafers scopes layout bits ≡ true
      → list_all (λ b. b) (wire_values gates some bits) ≡ list_all (holds model.clafers (shown layout bits)) laws
  pub vectors_are : (bits : List Bool) → length bits ≡ size layout → is_shaped model.clafers scopes layout bits ≡ true
      → list_all (λ b. b) (wire_values gates others bits) ≡ admitted (vector_of model (shown layout bits))

-- the bits show an instance with the laws, and its vector is admitted
pub record ShowsAdmitted (model : Model) (scopes : Scopes) (layout : Layout) (laws : List Law) (admitted : List ℤ → Bool)
    (bits : List Bool) : Type 0 where
  pub lawful : ShowsLawful model scopes layout laws bits
  pub is_admitted : admitted (vector_of model (shown layout bits)) ≡ true

-- some canonical instance satisfies laws, and its vector is admitted
pub record SomeAdmitted (model : Model) (scopes : Scopes) (laws : List Law) (admitted : List ℤ → Bool) : Type 0 where
  pub entries : List Entry
  pub ordered : is_ordered entries ≡ true
  pub satisfied : satisfies_laws model.clafers laws scopes entries ≡ true
  pub is_admitted : admitted (vector_of model entries) ≡ true
  pub canonical : is_canonical model.clafers entries ≡ true

pub all_values : (gates : List Gate) (some others : List Wire) (bits : List Bool)
    → list_all (λ b. b) (wire_values gates (some ++ others) bits) ≡ (list_all (λ b. b) (wire_values gates some bits) && list_all (λ b. b)
    (wire_values gates others bits))
all_values gates some others bits =
    ap (list_all (λ b. b)) (map-append (λ (w : Wire). wire_value gates w bits) some others)
    ∙ all_append (wire_values gates some bits) (wire_values gates others bits)

module _ (known : Laws) (model : Model) (scopes : Scopes) (layout : Layout) (gates : List Gate) (structure : Wire) (rules : List Wire)
    (on : IsOnWires model scopes layout gates structure rules) (some others : List Wire) (laws : List Law) (admitted : List ℤ → Bool)
    (tell : TellBoth model scopes layout gates some others laws admitted) where
  -- bits at which all are true show such an instance
  pub all_show : (bits : List Bool) → length bits ≡ size layout → all_hold gates structure (some ++ others) bits ≡ true
      → ShowsAdmitted model scopes layout laws admitted bits
  all_show bits count hold =
      let first = left (wire_value gates structure bits) (list_all (λ b. b) (wire_values gates (some ++ others) bits)) hold in
      let rest = sym (all_values gates some others bits) ∙ right (wire_value gates structure bits)
      (list_all (λ b. b) (wire_values gates (some ++ others) bits)) hold in
      let shaped = shaped_there known model scopes layout gates structure rules on bits first in
      let lawful = sym (tell.laws_are bits count shaped) ∙ left (list_all (λ b. b) (wire_values gates some bits))
      (list_all (λ b. b) (wire_values gates others bits)) rest in
      record {
        lawful = shown_lawful known model scopes layout gates structure rules on laws bits count first lawful;
        is_admitted = sym (tell.vectors_are bits count shaped) ∙ right (list_all (λ b. b) (wire_values gates some bits))
            (list_all (λ b. b) (wire_values gates others bits)) rest;
      }

  -- and bits that show one make all true
  pub shown_all : (bits : List Bool) (entries : List Entry) → Shows model.clafers scopes layout bits entries
      → satisfies_laws model.clafers laws scopes entries ≡ true
      → admitted (vector_of model entries) ≡ true → is_canonical model.clafers entries ≡ true
      → all_hold gates structure (some ++ others) bits ≡ true
  shown_all bits entries shows satisfied is_admitted canonical =
      let t = told_lawful known model scopes layout gates structure rules on laws bits entries shows satisfied canonical in
      let same = known.alone model.clafers scopes layout bits entries on.placed.fits shows in
      let lawful = tell.laws_are bits t.count t.shaped ∙ t.lawful in
      let vector = tell.vectors_are bits t.count t.shaped ∙ ap (λ (es : List Entry). admitted (vector_of model es)) (sym same)
      ∙ is_admitted in
      both (wire_value gates structure bits) (list_all (λ b. b) (wire_values gates (some ++ others) bits)) t.structured
      (all_values gates some others bits ∙ both (list_all (λ b. b) (wire_values gates some bits))
      (list_all (λ b. b) (wire_values gates others bits)) lawful vector)

  -- they are true at some bits exactly where there is such an instance
  pub somewhere : HoldSomewhere gates (structure ∷ (some ++ others)) ↔ SomeAdmitted model scopes laws admitted
  somewhere = (instance_of, bits_of_some)
    where
      instance_of : HoldSomewhere gates (structure ∷ (some ++ others)) → SomeAdmitted model scopes laws admitted
      instance_of h =
          let s = all_show h.bits (h.size ∙ size_is known model scopes layout gates structure rules on) h.hold in
          record {
            entries = shown layout h.bits;
            ordered = s.lawful.shows.ordered;
            satisfied = s.lawful.satisfied;
            is_admitted = s.is_admitted;
            canonical = s.lawful.canonical;
          }

      bits_of_some : SomeAdmitted model scopes laws admitted → HoldSomewhere gates (structure ∷ (some ++ others))
      bits_of_some s = met (bits_of known model scopes layout gates structure rules on s.entries laws s.ordered s.satisfied)
        where
          met : (bits : List Bool) × Shows model.clafers scopes layout bits s.entries → HoldSomewhere gates (structure ∷ (some ++ others))
          met (bits, shows) = record {
            bits = bits;
            size = shows.size ∙ sym (size_is known model scopes layout gates structure rules on);
            hold = shown_all bits s.entries shows s.satisfied s.is_admitted s.canonical;
          }

-- ---- the constraints and the vectors of a question, and those that are chosen

module _ (known : Laws) (model : Model) (scopes : Scopes) (question : Question) (layout : Layout) (gates : List Gate) (structure : Wire)
    (rules tests : List Wire)
    (on : IsOnWires model scopes layout gates structure rules) (tests_are : TellTests model scopes question layout gates tests) where
  pub all_told : TellBoth model scopes layout gates rules tests (laws_of model) (admits (ways_of model) question)
  all_told = record {
    laws_are = all_rules_hold known model scopes layout gates structure rules on;
    vectors_are = λ bits count shaped.
        ap (list_all (λ b. b)) (tests_are bits count shaped) ∙ tests_admit (ways_of model) question (vector_of model (shown layout bits));
  }

  pub chosen_told : (choice : Choice) → length choice.found ≡ length question.found
      → TellBoth model scopes layout gates (chosen choice.rules rules) (chosen (vector_flags choice question) tests)
      (chosen choice.rules (laws_of model)) (admits (ways_of model) (chosen_question choice question))
  chosen_told choice count = record {
    laws_are = rules_hold known model scopes layout gates structure rules on choice.rules;
    vectors_are = told;
  }
    where
      told : (bits : List Bool) → length bits ≡ size layout → is_shaped model.clafers scopes layout bits ≡ true
          → list_all (λ b. b) (wire_values gates (chosen (vector_flags choice question) tests) bits) ≡ admits (ways_of model)
          (chosen_question choice question) (vector_of model (shown layout bits))
      told bits long shaped =
          let v : List ℤ = vector_of model (shown layout bits) in
          let fs : List Bool = vector_flags choice question in
          ap (list_all (λ b. b))
          (sym (chosen-map (λ (w : Wire). wire_value gates w bits) fs tests) ∙ ap (chosen fs) (tests_are bits long shaped)
          ∙ chosen_tests (ways_of model) choice question v count)
          ∙ tests_admit (ways_of model) (chosen_question choice question) v

-- ---- answers

pub chosen_laws : (choice : Choice) (model : Model) → chosen choice.rules (laws_of model) ≡ laws_of (chosen_model choice model)
chosen_laws choice model = chosen-map (λ (r : Rule). (r.context, tree r.body)) choice.rules model.rules

-- an instance with the chosen laws, whose vector the chosen question admits, is an answer to it
pub chosen_answers : (known : Laws) (choice : Choice) (model : Model) (scopes : Scopes) (question : Question)
    → SomeAdmitted model scopes (chosen choice.rules (laws_of model)) (admits (ways_of model) (chosen_question choice question)) ↔ Answers
    (chosen_model choice model) scopes (chosen_question choice question)
chosen_answers known choice model scopes question = (to, back)
  where
    satisfied_as : (entries : List Entry) (ls ms : List Law) → ls ≡ ms → satisfies_laws model.clafers ls scopes entries ≡ true
        → satisfies_laws model.clafers ms scopes entries ≡ true
    satisfied_as entries ls ms e h = ap (λ (xs : List Law). satisfies_laws model.clafers xs scopes entries) (sym e) ∙ h

    to : SomeAdmitted model scopes (chosen choice.rules (laws_of model)) (admits (ways_of model) (chosen_question choice question))
        → Answers (chosen_model choice model) scopes (chosen_question choice question)
    to s = record {
      entries = s.entries;
      ordered = s.ordered;
      satisfied = satisfied_as s.entries (chosen choice.rules (laws_of model)) (laws_of (chosen_model choice model))
          (chosen_laws choice model) s.satisfied;
      admitted = s.is_admitted;
    }

    back : Answers (chosen_model choice model) scopes (chosen_question choice question)
        → SomeAdmitted model scopes (chosen choice.rules (laws_of model)) (admits (ways_of model) (chosen_question choice question))
    back a =
        let c : SatisfiesCanonically (chosen_model choice model) scopes a.entries =
        known.canonical (chosen_model choice model) scopes a.entries a.ordered a.satisfied in
        record {
          entries = c.others;
          ordered = c.ordered;
          satisfied = satisfied_as c.others (laws_of (chosen_model choice model)) (chosen choice.rules (laws_of model))
              (sym (chosen_laws choice model)) c.satisfied;
          is_admitted = ap (admits (ways_of model) (chosen_question choice question)) (sym c.goals) ∙ a.admitted;
          canonical = c.canonical;
        }

-- the flags of the parts are those of the structure, the constraints and the vectors
pub flags_are : (choice : Choice) (question : Question) → flags choice question ≡ true ∷ (choice.rules ++ vector_flags choice question)
flags_are choice question = refl
