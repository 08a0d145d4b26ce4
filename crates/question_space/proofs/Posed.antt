-- The clauses of a question's wires pose it.
use Rattle.std.proofs.Common.{◌≡◌, ℕ, ◌+◌, ◌<◌, ◌*◌, Bool, true, List, [], ◌∷◌, ◌++◌, length, map, sym, ap, subst, ◌∙◌, arith}
use Rattle.std.specs.Prelude.{◌↔◌}
use Rattle.std.specs.Option.{option_map_or}
use Rattle.std.proofs.lemmas.List.{length-append, length-map}
use Rattle.std.proofs.lemmas.List.Elements.{All-cons, All-append}
use Rattle.std.proofs.lemmas.List.FromFn.{length-range_with_len}
use Rattle.bool_circuit.specs.declared.gate.Gate.{Gate}
use Rattle.bool_circuit.specs.declared.gate.Wire.{Wire}
use Rattle.bool_circuit.specs.Circuit.{input_wires, inputs, wire_value, IsWireOf, AreWiresOf}
use Rattle.canonical_instances.specs.Exists.{SatisfiesCanonically}
use Rattle.clause_encoder.specs.Encoding.{Encodes}
use Rattle.clause_store.specs.declared.clause.Literal.{Literal}
use Rattle.clause_store.specs.Satisfaction.{SatisfiesAll, IsAbove, IsSatisfiableAbove}
use Rattle.clause_store.specs.Store.{Store}
use Rattle.clf_tree.specs.declared.model.Model.{Model}
use Rattle.clf_tree.specs.declared.scopes.Scopes.{Scopes}
use Rattle.clf_tree.specs.declared.vector.Question.{Question}
use Rattle.clf_tree.specs.Front.{admits, ways_of}
use Rattle.clf_tree.specs.Lists.{numbers_below}
use Rattle.clf_tree.specs.Satisfies.{laws_of, satisfies}
use Rattle.set_bits.specs.declared.layout.Layout.{Layout}
use Rattle.set_bits.specs.Fitting.{size}
use Rattle.set_bits.specs.Showing.{Shows}
use Rattle.shown_instance.specs.Shown.{shown}
use Rattle.question_space.specs.Asking.{ShowsAnswer, AreComplete, AreExact, IsAnsweredBy}
use Rattle.question_space.specs.Choices.{Choice, IsChoice, chosen, chosen_model, chosen_question, flags}
use Rattle.question_space.specs.Encoding.{literal_of}
use Rattle.question_space.specs.Posing.{Answers, IsSatisfiable, IsPosed, chosen_clauses, but_last, unit}
use Rattle.question_space.specs.Queries.{IsAsked}
use Rattle.question_space.proofs.Admitting.{SomeAdmitted, all_show, shown_all, somewhere, all_told, chosen_told, chosen_answers}
use Rattle.question_space.proofs.Choosing.{chosen-map, chosen-append, All-chosen, vector_flags}
use Rattle.question_space.proofs.Shaped.{Laws, size_is, bits_of}
use Rattle.question_space.proofs.Units.{above_own, units_decide}

both_ways : {A B C : Type 0} → A ↔ B → B ↔ C → A ↔ C
both_ways (f, g) (h, k) = (λ a. h (f a), λ c. g (k c))

-- the chosen parts are the literals of the structure, of the chosen rules and of the chosen vectors
parts_are : (choice : Choice) (question : Question) (structure : Wire) (rules tests : List Wire) (parts : List Literal)
    → length choice.rules ≡ length rules
    → parts ≡ map literal_of (structure ∷ (rules ++ tests))
    → chosen (flags choice question) parts ≡ map literal_of (structure ∷
    (chosen choice.rules rules ++ chosen (vector_flags choice question) tests))
parts_are choice question structure rules tests parts count are =
    let fs : List Bool = choice.rules ++ vector_flags choice question in
    ap (chosen (true ∷ fs)) are ∙ ap (λ ls. literal_of structure ∷ ls) (chosen-map literal_of fs (rules ++ tests))
    ∙ ap (λ ws. map literal_of (structure ∷ ws)) (chosen-append choice.rules (vector_flags choice question) rules tests count)

module _ (known : Laws) (model : Model) (scopes : Scopes) (question : Question) (limit : ℕ) (layout : Layout) (gates : List Gate)
    (structure : Wire) (rules tests : List Wire) (root : Wire) (store : Store)
    (asked : IsAsked model scopes question limit layout gates structure rules tests root) (encodes : Encodes gates root store) where
  -- a solution above bits that show an instance is one of the model
  pub exact : AreExact model scopes question layout store.clauses
  exact bits count = (shows, solved)
    where
      above : IsSatisfiableAbove (input_wires gates) bits store.clauses ↔ (wire_value gates root bits ≡ true)
      above = encodes.root_decides bits (count ∙ sym (size_is known model scopes layout gates structure rules asked.wires))

      shows : IsSatisfiableAbove (numbers_below (size layout)) bits store.clauses → ShowsAnswer model scopes question layout bits
      shows s =
          let there = subst (λ ns. IsSatisfiableAbove ns bits store.clauses) (sym asked.wires.inputs) s in
          let all = all_show known model scopes layout gates structure rules asked.wires rules tests (laws_of model)
          (admits (ways_of model) question)
          (all_told known model scopes question layout gates structure rules tests asked.wires asked.tests_are) bits count
          (sym (asked.root_is bits) ∙ above.0 there) in
          record {
            entries = shown layout bits;
            shows = all.lawful.shows;
            satisfied = all.lawful.satisfied;
            admitted = all.is_admitted;
            canonical = all.lawful.canonical;
          }

      solved : ShowsAnswer model scopes question layout bits → IsSatisfiableAbove (numbers_below (size layout)) bits store.clauses
      solved a =
          let hold = shown_all known model scopes layout gates structure rules asked.wires rules tests (laws_of model)
          (admits (ways_of model) question)
          (all_told known model scopes question layout gates structure rules tests asked.wires asked.tests_are) bits a.entries a.shows
          a.satisfied a.admitted a.canonical in
          subst (λ ns. IsSatisfiableAbove ns bits store.clauses) asked.wires.inputs (above.1 (asked.root_is bits ∙ hold))

  -- some solution is above some bits
  solution_shows : IsSatisfiable store.clauses → Answers model scopes question
  solution_shows (v, all) =
      let bits = map v (numbers_below (size layout)) in
      let count : length bits ≡ size layout = length-map (numbers_below (size layout)) v ∙ length-range_with_len 0 (size layout) in
      let a = (exact bits count).0 (v, above_own v (numbers_below (size layout)), all) in
      record { entries = a.entries; ordered = a.shows.ordered; satisfied = a.satisfied; admitted = a.admitted }

  -- each answer is isomorphic to one that is canonical, and above the bits of that one is a solution
  pub complete : AreComplete model scopes question layout store.clauses
  complete entries ordered satisfied admitted =
      let c : SatisfiesCanonically model scopes entries = known.canonical model scopes entries ordered satisfied in
      met c (bits_of known model scopes layout gates structure rules asked.wires c.others (laws_of model) c.ordered c.satisfied)
    where
      met : (c : SatisfiesCanonically model scopes entries) → (bits : List Bool) × Shows model.clafers scopes layout bits c.others
          → IsAnsweredBy model scopes layout store.clauses entries
      met c (bits, shows) = record {
        others = c.others;
        bits = bits;
        isomorphic = c.isomorphic;
        shows = shows;
        satisfiable = (exact bits shows.size).1 (record {
          entries = c.others;
          shows = shows;
          satisfied = c.satisfied;
          admitted = ap (admits (ways_of model) question) (sym c.goals) ∙ admitted;
          canonical = c.canonical;
        });
      }

  answer_solves : Answers model scopes question → IsSatisfiable store.clauses
  answer_solves a = met (complete a.entries a.ordered a.satisfied a.admitted)
    where
      met : IsAnsweredBy model scopes layout store.clauses a.entries → IsSatisfiable store.clauses
      met b = met_at b.bits b.satisfiable
        where
          met_at : (bs : List Bool) → IsSatisfiableAbove (numbers_below (size layout)) bs store.clauses → IsSatisfiable store.clauses
          met_at bs (v, over, all) = (v, all)

  -- with the literals of structure, rules and vectors as parts the clauses pose the question
  pub posed : (parts : List Literal) → parts ≡ map literal_of (structure ∷ (rules ++ tests))
      → IsPosed model scopes question store.clauses parts
  posed parts are = record { whole = (solution_shows, answer_solves); count = counted; some = some; each = each_choice }
    where
      counted : length parts ≡ 1 + length model.rules + length question.found + option_map_or (λ v. 1) question.improve 0
      counted =
          let all : length parts ≡ length (structure ∷ (rules ++ tests)) = ap length are
          ∙ length-map (structure ∷ (rules ++ tests)) literal_of in
          omega (arith, all, length-append rules tests, asked.many, asked.wires.count)

      some : 0 < length store.clauses
      some =
          let count : length store.clauses ≡ length encodes.front + 1 = ap length encodes.root_last
          ∙ length-append encodes.front ((record { code = 2 * root.number } ∷ []) ∷ []) in
          omega (arith, count)

      each_choice : (choice : Choice) → IsChoice model question choice
          → IsSatisfiable (chosen_clauses choice question store.clauses parts) ↔ Answers (chosen_model choice model) scopes
          (chosen_question choice question)
      each_choice choice is =
          let taken : List Wire = chosen choice.rules rules in
          let vectors : List Wire = chosen (vector_flags choice question) tests in
          let known_taken : AreWiresOf gates (taken ++ vectors) =
          All-append (IsWireOf gates) taken vectors (All-chosen (IsWireOf gates) choice.rules rules asked.wires.rules_in)
          (All-chosen (IsWireOf gates) (vector_flags choice question) tests asked.tests_in) in
          let wires : AreWiresOf gates (structure ∷ (taken ++ vectors)) =
          All-cons (IsWireOf gates) structure (taken ++ vectors) asked.wires.structure_in known_taken in
          let units = units_decide gates root store (structure ∷ (taken ++ vectors)) encodes wires in
          let there = somewhere known model scopes layout gates structure rules asked.wires taken vectors
          (chosen choice.rules (laws_of model)) (admits (ways_of model) (chosen_question choice question))
          (chosen_told known model scopes question layout gates structure rules tests asked.wires asked.tests_are choice is.found) in
          let Q : List Literal → Type 0 = λ ls. IsSatisfiable (but_last store.clauses ++ map unit ls)
          ↔ SomeAdmitted model scopes (chosen choice.rules (laws_of model)) (admits (ways_of model) (chosen_question choice question)) in
          both_ways (subst Q (sym (parts_are choice question structure rules tests parts (is.rules ∙ sym asked.wires.count) are))
          (both_ways units there)) (chosen_answers known choice model scopes question)

  -- no answer where no assignment satisfies the clauses
  pub unanswered : ((v : ℕ → Bool) → SatisfiesAll v store.clauses → ⊥) → Answers model scopes question → ⊥
  unanswered refuted a = met (answer_solves a)
    where
      met : IsSatisfiable store.clauses → ⊥
      met (v, all) = refuted v all

  -- the bits of an assignment that satisfies the clauses make the root true
  pub solved_root : (v : ℕ → Bool) → SatisfiesAll v store.clauses → wire_value gates root (map v (numbers_below (size layout))) ≡ true
  solved_root v all =
      let bits = map v (numbers_below (size layout)) in
      let count : length bits ≡ inputs gates = length-map (numbers_below (size layout)) v ∙ length-range_with_len 0 (size layout)
      ∙ sym (size_is known model scopes layout gates structure rules asked.wires) in
      let above : IsAbove (input_wires gates) bits v = subst (λ ns. IsAbove ns bits v) (sym asked.wires.inputs)
      (above_own v (numbers_below (size layout))) in
      (encodes.root_decides bits count).0 (v, above, all)
