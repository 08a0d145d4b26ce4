use Rattle.std.proofs.Common.{◌≡◌, List, length, ap, subst, sym, ◌∙◌}
use Rattle.bool_circuit.specs.declared.gate.Wire.{Wire}
use Rattle.clf_tree.specs.declared.model.Goal.{Goal}
use Rattle.clf_tree.specs.declared.model.Model.{Model}
use Rattle.question_space.specs.Comparisons.{AreNumbers, AreTests}
use Rattle.question_space.specs.Wiring.{IsConjunctionSoFar}
use Rattle.question_space.proofs.Growing.{asked_is, vectors_room}
use Rattle.question_space.proofs.Limits.{limit_room, tests_room}
use Rattle.question_space.proofs.questions.with_vectors.Goals as goal

pub tests-requires-clause-numbers : goal.tests-requires-clause-numbers
tests-requires-clause-numbers c = subst (λ (ns : List (List Wire)). AreNumbers c.args.aimed.circuit ns)
    (sym c.as_slice-2.ensures) c.requires.aimed.numbers_in

pub tests-requires-clause-room : goal.tests-requires-clause-room
tests-requires-clause-room c =
    tests_room c.args.read.now c.args.question.now c.as_slice.result.now
    (length c.args.aimed.circuit) c.requires.few_found c.requires.aimed.wired.few
    (c.as_slice.ensures ∙ ap (λ (m : Model). m.goals) c.model-plan.ensures.same)

pub conjunction-requires-clause-room : goal.conjunction-requires-clause-room
conjunction-requires-clause-room c =
    let read = c.args.read.now in
    let question = c.args.question.now in
    let goals_are : c.as_slice.result.now ≡ read.model.goals = c.as_slice.ensures ∙ ap (λ (m : Model). m.goals) c.model-plan.ensures.same in
    let are : AreTests c.args.aimed.circuit read.model.goals c.args.aimed.numbers question c.tests.new.circuit c.in_ok-tests.tests =
    subst (λ (gs : List Goal). AreTests c.args.aimed.circuit gs c.args.aimed.numbers question c.tests.new.circuit c.in_ok-tests.tests)
    goals_are
    (subst (λ (ns : List (List Wire)). AreTests c.args.aimed.circuit c.as_slice.result.now ns question c.tests.new.circuit
    c.in_ok-tests.tests) c.as_slice-2.ensures c.in_ok-tests.ensures) in
    vectors_room read.model question read.weight c.args.aimed.circuit c.tests.new.circuit c.args.aimed.numbers c.in_ok-tests.tests
    c.as_slice-3.result.now are c.requires.aimed.wired.few
    (limit_room read question c.requires.few_found) c.as_slice-3.ensures

pub returns : goal.returns
returns c =
    let read = c.args.read.now in
    let question = c.args.question.now in
    let goals_are : c.as_slice.result.now ≡ read.model.goals = c.as_slice.ensures ∙ ap (λ (m : Model). m.goals) c.model-plan.ensures.same in
    let are : AreTests c.args.aimed.circuit read.model.goals c.args.aimed.numbers question c.tests.new.circuit c.in_ok-tests.tests =
    subst (λ (gs : List Goal). AreTests c.args.aimed.circuit gs c.args.aimed.numbers question c.tests.new.circuit c.in_ok-tests.tests)
    goals_are
    (subst (λ (ns : List (List Wire)). AreTests c.args.aimed.circuit c.as_slice.result.now ns question c.tests.new.circuit
    c.in_ok-tests.tests) c.as_slice-2.ensures c.in_ok-tests.ensures) in
    asked_is read.model read.scopes question read.weight c.args.layout.now c.args.aimed.circuit c.tests.new.circuit
    c.conjunction.new.circuit c.args.aimed.structure c.args.aimed.rules c.args.aimed.whole c.args.aimed.numbers
    c.in_ok-tests.tests c.in_ok-root.root c.requires.aimed are
    (subst (λ (ws : List Wire). IsConjunctionSoFar c.tests.new.circuit c.args.aimed.whole ws
    (length ws) c.conjunction.new.circuit c.in_ok-root.root) c.as_slice-3.ensures c.in_ok-root.ensures)
