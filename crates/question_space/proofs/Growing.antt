-- A model on the wires of a circuit that grows.
use Rattle.std.proofs.Common.{◌≡◌, ℕ, ◌+◌, ◌*◌, ◌≤◌, Bool, true, false, ◌&&◌, List, [], ◌∷◌, ◌++◌, length, map, take, get_or, refl, sym, ap, subst, ◌∙◌, arith}
use Rattle.std.specs.Prelude.{ℤ, Option, Some, None}
use Rattle.std.specs.List.{list_all}
use Rattle.std.specs.Option.{option_map_or}
use Rattle.std.proofs.lemmas.List.{length-map, length-append}
use Rattle.bool_circuit.specs.declared.gate.Gate.{Gate}
use Rattle.bool_circuit.specs.declared.gate.Wire.{Wire}
use Rattle.bool_circuit.specs.Circuit.{wire_value, wire_values, Extends}
use Rattle.bool_circuit.proofs.Extending.{extends_trans, wires_stay, wire_values_stay}
use Rattle.clf_tree.specs.declared.core_expr.CoreExpr.{CoreExpr}
use Rattle.clf_tree.specs.declared.core_expr.CoreModel.{CoreModel}
use Rattle.clf_tree.specs.declared.model.Clafer.{Clafer}
use Rattle.clf_tree.specs.declared.model.Model.{Model}
use Rattle.clf_tree.specs.declared.scopes.Scopes.{Scopes}
use Rattle.clf_tree.specs.declared.vector.Question.{Question}
use Rattle.clf_tree.specs.declared.vector.Vector.{Vector}
use Rattle.clf_tree.specs.CoreMeaning.{goals_in}
use Rattle.clf_tree.specs.CoreSoundness.{is_instance}
use Rattle.clf_tree.specs.Front.{dominates, is_better_somewhere, ways_of}
use Rattle.clf_tree.specs.Nodes.{is_ordered, is_tree, is_within}
use Rattle.clf_tree.specs.Satisfies.{vector_of}
use Rattle.clf_tree.specs.Shape.{has_shape}
use Rattle.set_bits.specs.declared.layout.Layout.{Layout}
use Rattle.shape_encoder.specs.Reading.{IsBit, IsLaid, IsSlotOf}
use Rattle.shown_instance.specs.Shaped.{ShowsShaped}
use Rattle.shown_instance.specs.Shown.{shown}
use Rattle.question_space.specs.Amounts.{AreGoals, TellVector, amounts}
use Rattle.question_space.specs.Comparisons.{AreTests, goal_values, tests_cost, ways_in}
use Rattle.question_space.specs.Encoding.{IsOnWires, IsPlaced, IsWired, all_hold}
use Rattle.question_space.specs.Queries.{HasGoals, IsAsked, TellTests}
use Rattle.question_space.specs.Vectors.{question_cost, question_tests, vector_cost}
use Rattle.question_space.specs.Wiring.{IsConjunctionSoFar, IsLowered, truths_cost}
use Rattle.question_space.proofs.Admitting.{all_values}
use Rattle.question_space.proofs.Shaped.{Laws, four_instance}
use Rattle.question_space.proofs.Structuring.{take_all_of}

-- ---- what stays

bit_stays : (old new : List Gate) (n : ℕ) (w : Wire) → Extends old new n → IsBit old w → IsBit new w
bit_stays old new n w grown is = record {
  wire = omega (arith, is.wire, grown.at_least);
  value = λ bits. grown.keeps w is.wire bits
      ∙ is.value bits;
}

-- the wires of a layout
pub laid_stays : (old new : List Gate) (n : ℕ) (layout : Layout) → Extends old new n → IsLaid old layout → IsLaid new layout
laid_stays old new n layout grown laid = record {
  slots = laid.slots;
  live = λ k d inside. bit_stays old new n (get_or layout.live k d) grown (laid.live k d inside);
  parents = λ k d inside. bit_stays old new n (get_or layout.parents k d).here grown (laid.parents k d inside);
  targets = λ k d inside. bit_stays old new n (get_or layout.targets k d).here grown (laid.targets k d inside);
  values = λ k d inside.
      let is : IsSlotOf old (length layout.live) (get_or layout.values k d) = laid.values k d inside in
      record {
        known = is.known;
        some = is.some;
        bits = λ j e within. bit_stays old new n (get_or (get_or layout.values k d).bits j e) grown (is.bits j e within);
      };
}

-- structure and constraints
pub on_wires_stay : (model : Model) (scopes : Scopes) (layout : Layout) (old new : List Gate) (n : ℕ) (structure : Wire) (rules : List Wire)
    → Extends old new n → IsOnWires model scopes layout old structure rules → IsOnWires model scopes layout new structure rules
on_wires_stay model scopes layout old new n structure rules grown on = record {
  placed = on.placed;
  laid = laid_stays old new n layout grown on.laid;
  inputs = grown.same_inputs ∙ on.inputs;
  structure_in = omega (arith, on.structure_in, grown.at_least);
  rules_in = wires_stay old new n rules grown on.rules_in;
  count = on.count;
  structure_is = λ bits. grown.keeps structure on.structure_in bits ∙ on.structure_is bits;
  rules_are = λ bits count shaped. wire_values_stay old new n rules bits grown on.rules_in ∙ on.rules_are bits count shaped;
}

-- and their conjunction
pub wired_stays : (model : Model) (scopes : Scopes) (small limit : ℕ) (layout : Layout) (old new : List Gate) (n : ℕ) (structure : Wire)
    (rules : List Wire) (whole : Wire)
    → Extends old new n → IsWired model scopes small layout old structure rules whole → small + n ≤ limit
    → IsWired model scopes limit layout new structure rules whole
wired_stays model scopes small limit layout old new n structure rules whole grown wired few = record {
  wires = on_wires_stay model scopes layout old new n structure rules grown wired.wires;
  whole_in = omega (arith, wired.whole_in, grown.at_least);
  whole_is = λ bits.
      grown.keeps whole wired.whole_in bits ∙ wired.whole_is bits
      ∙ ap (λ b. b && list_all (λ x. x) (wire_values old rules bits)) (sym (grown.keeps structure wired.wires.structure_in bits))
      ∙ ap (λ bs. wire_value new structure bits && list_all (λ x. x) bs)
      (sym (wire_values_stay old new n rules bits grown wired.wires.rules_in));
  few = omega (arith, wired.few, grown.at_most, few);
}

-- within a larger limit
pub wired_within : (model : Model) (scopes : Scopes) (small limit : ℕ) (layout : Layout) (gates : List Gate) (structure : Wire)
    (rules : List Wire) (whole : Wire)
    → IsWired model scopes small layout gates structure rules whole → small ≤ limit
    → IsWired model scopes limit layout gates structure rules whole
wired_within model scopes small limit layout gates structure rules whole wired few = record {
  wires = wired.wires;
  whole_in = wired.whole_in;
  whole_is = wired.whole_is;
  few = omega (arith, wired.few, few);
}

-- ---- the numbers of goals

-- at shaped bits they are the vector of the instance
vector_told : (known : Laws) (model : Model) (scopes : Scopes) (core_model : CoreModel) (layout : Layout) (old new : List Gate)
    (numbers : List (List Wire))
    → IsPlaced model scopes layout → IsLowered model scopes core_model
    → AreGoals core_model.clafers scopes layout old core_model.goals (length core_model.goals) new numbers
    → TellVector model scopes layout new numbers
vector_told known model scopes core_model layout old new numbers placed lowered are bits count shaped =
    met ((known.shaped model.clafers scopes layout bits placed.fits placed.empty placed.acyclic count).0 shaped)
  where
    met : ShowsShaped model.clafers scopes layout bits → goal_values new numbers bits ≡ vector_of model (shown layout bits)
    met s =
        let told = known.alone model.clafers scopes layout bits s.entries placed.fits s.shows in
        let there : ShowsShaped core_model.clafers scopes layout bits =
        subst (λ (xs : List Clafer). ShowsShaped xs scopes layout bits) (sym lowered.same) s in
        let ok : is_instance model.clafers scopes s.entries ≡ true = four_instance (is_ordered s.entries)
        (is_within model.clafers scopes s.entries) (is_tree model.clafers s.entries)
        (has_shape model.clafers scopes s.entries) s.shows.ordered s.shows.within s.tree s.shape in
        are.tell bits there ∙ ap (λ (xs : List CoreExpr). amounts xs (shown layout bits)) (take_all_of core_model.goals)
        ∙ ap (goals_in core_model) (sym told) ∙ lowered.goals_are s.entries ok ∙ ap (vector_of model) told

pub has_goals : (known : Laws) (model : Model) (scopes : Scopes) (small limit : ℕ) (core_model : CoreModel) (layout : Layout)
    (old new : List Gate) (structure : Wire) (rules : List Wire) (whole : Wire) (numbers : List (List Wire))
    → IsLowered model scopes core_model → IsWired model scopes small layout old structure rules whole
    → AreGoals core_model.clafers scopes layout old core_model.goals (length core_model.goals) new numbers
    → small + truths_cost scopes core_model.goals ≤ limit
    → HasGoals model scopes limit layout new structure rules whole numbers
has_goals known model scopes small limit core_model layout old new structure rules whole numbers lowered wired are few =
    let n : ℕ = truths_cost scopes (take (length core_model.goals) core_model.goals) in
    let cost : n ≡ truths_cost scopes core_model.goals = ap (truths_cost scopes) (take_all_of core_model.goals) in
    record {
      wired = wired_stays model scopes small limit layout old new n structure rules whole are.extends wired (omega (arith, cost, few));
      numbers_in = are.known;
      tell = vector_told known model scopes core_model layout old new numbers wired.wires.placed lowered are;
    }

-- ---- the vectors of a question

improve_count : (improve : Option Vector) (test : Vector → Bool) → length
    (option_map_or (λ w. test w ∷ []) improve []) ≡ option_map_or {U = ℕ} (λ v. 1) improve 0
improve_count None test = refl
improve_count (Some w) test = refl

-- as many tests as vectors
tests_many : (ways : List Bool) (question : Question) (v : List ℤ) → length
    (question_tests ways question v) ≡ length question.found + option_map_or (λ v. 1) question.improve 0
tests_many ways question v =
    let first : Vector → Bool = λ (f : Vector). is_better_somewhere ways v f.values in
    let last : Vector → Bool = λ (w : Vector). dominates ways v w.values in
    let one : length (map first question.found) ≡ length question.found = length-map question.found first in
    let two = improve_count question.improve last in
    length-append (map first question.found) (option_map_or (λ w. last w ∷ []) question.improve [])
    ∙ ap (λ n. n + length (option_map_or (λ w. last w ∷ []) question.improve [])) one
    ∙ ap (λ n. length question.found + n) two

improve_sum : (improve : Option Vector) (a b : ℕ) → option_map_or {U = ℕ} (λ w. a) improve 0 + option_map_or {U = ℕ}
    (λ w. b) improve 0 ≡ option_map_or {U = ℕ} (λ w. a + b) improve 0
improve_sum None a b = refl
improve_sum (Some w) a b = refl

-- tests and their conjunction are what a question takes
pub cost_is : (goals : ℕ) (question : Question) → tests_cost goals question +
    (length question.found + option_map_or (λ v. 1) question.improve 0) ≡ question_cost goals question
cost_is goals question =
    let last : option_map_or {U = ℕ} (λ w. 2 * vector_cost goals + 2) question.improve 0 + option_map_or {U = ℕ}
    (λ w. 1) question.improve 0 ≡ option_map_or {U = ℕ} (λ w. 2 * vector_cost goals + 3) question.improve 0 =
    improve_sum question.improve (2 * vector_cost goals + 2) 1 ∙ ap (λ n. option_map_or {U = ℕ} (λ w. n) question.improve 0)
    (by (vector_cost goals)) in
    numbers (length question.found) (vector_cost goals) (option_map_or {U = ℕ} (λ w. 2 * vector_cost goals + 2) question.improve 0)
    (option_map_or {U = ℕ} (λ w. 1) question.improve 0) (option_map_or {U = ℕ} (λ w. 2 * vector_cost goals + 3) question.improve 0) last
  where
    by : (c : ℕ) → 2 * c + 2 + 1 ≡ 2 * c + 3
    by c = omega arith

    numbers : (k c a b d : ℕ) → a + b ≡ d → k * c + a + (k + b) ≡ k * (c + 1) + d
    numbers k c a b d e = omega (arith, e)

and_swap : (a b c : Bool) → ((a && b) && c) ≡ (a && (b && c))
and_swap true b c = refl
and_swap false b c = refl

-- there is room for the conjunction
pub vectors_room : (model : Model) (question : Question) (weight : ℕ) (old new : List Gate) (numbers : List (List Wire))
    (tests given : List Wire)
    → AreTests old model.goals numbers question new tests → length old ≤ weight
    → weight + question_cost (length model.goals) question ≤ 268435456 → given ≡ tests
    → length new + length given ≤ 268435456
vectors_room model question weight old new numbers tests given are light room same =
    let many : length tests ≡ length question.found + option_map_or (λ v. 1) question.improve 0 =
    sym (length-map tests (λ (w : Wire). wire_value new w [])) ∙ ap length (are.values [])
    ∙ tests_many (ways_in model.goals) question (goal_values old numbers []) in
    let count : length given ≡ length tests = ap length same in
    omega (arith, are.extends.at_most, light, room, many, count, cost_is (length model.goals) question)

pub asked_is : (model : Model) (scopes : Scopes) (question : Question) (weight : ℕ) (layout : Layout) (old new last : List Gate)
    (structure : Wire) (rules : List Wire) (whole : Wire) (numbers : List (List Wire)) (tests : List Wire) (root : Wire)
    → HasGoals model scopes weight layout old structure rules whole numbers → AreTests old model.goals numbers question new tests
    → IsConjunctionSoFar new whole tests (length tests) last root
    → IsAsked model scopes question (weight + question_cost (length model.goals) question) layout last structure rules tests root
asked_is model scopes question weight layout old new last structure rules whole numbers tests root has are conj = record {
  wires = on_wires_stay model scopes layout old last cost structure rules grown has.wired.wires;
  tests_in = wires_stay new last (length tests) tests conj.extends are.known;
  many = many;
  tests_are = told;
  root_in = conj.known;
  root_is = root_told;
  few = omega (arith, has.wired.few, grown.at_most, many, cost_is (length model.goals) question);
}
  where
    cost : ℕ
    cost = tests_cost (length model.goals) question + length tests

    grown : Extends old last cost
    grown = extends_trans old new last (tests_cost (length model.goals) question) (length tests) are.extends conj.extends

    many : length tests ≡ length question.found + option_map_or (λ v. 1) question.improve 0
    many = sym (length-map tests (λ (w : Wire). wire_value new w [])) ∙ ap length (are.values [])
        ∙ tests_many (ways_in model.goals) question (goal_values old numbers [])

    told : TellTests model scopes question layout last tests
    told bits count shaped =
        wire_values_stay new last (length tests) tests bits conj.extends are.known ∙ are.values bits
        ∙ ap (question_tests (ways_of model) question) (has.tell bits count shaped)

    root_told : (bits : List Bool) → wire_value last root bits ≡ all_hold last structure (rules ++ tests) bits
    root_told bits =
        let s : wire_value old structure bits ≡ wire_value last structure bits =
        sym (grown.keeps structure has.wired.wires.structure_in bits) in
        let rs : wire_values old rules bits ≡ wire_values last rules bits =
        sym (wire_values_stay old last cost rules bits grown has.wired.wires.rules_in) in
        let ts : wire_values new tests bits ≡ wire_values last tests bits =
        sym (wire_values_stay new last (length tests) tests bits conj.extends are.known) in
        let front : wire_value new whole bits ≡ (wire_value last structure bits && list_all (λ b. b) (wire_values last rules bits)) =
        are.extends.keeps whole has.wired.whole_in bits ∙ has.wired.whole_is bits
        ∙ ap (λ b. b && list_all (λ x. x) (wire_values old rules bits)) s
        ∙ ap (λ bs. wire_value last structure bits && list_all (λ x. x) bs) rs in
        conj.value bits ∙ ap (λ (ws : List Wire). all_hold new whole ws bits) (take_all_of tests)
        ∙ ap (λ b. b && list_all (λ x. x) (wire_values new tests bits)) front
        ∙ ap (λ bs. (wire_value last structure bits && list_all (λ b. b) (wire_values last rules bits)) && list_all (λ x. x) bs) ts
        ∙ and_swap (wire_value last structure bits) (list_all (λ b. b) (wire_values last rules bits))
        (list_all (λ b. b) (wire_values last tests bits))
        ∙ ap (λ b. wire_value last structure bits && b) (sym (all_values last rules tests bits))
