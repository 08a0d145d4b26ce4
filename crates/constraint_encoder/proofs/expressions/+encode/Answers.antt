-- Form by form: what the calls made for the operands is what the form tells, and takes no more wires than it weighs.
use Rattle.std.proofs.Common.{◌≡◌, ◌+◌, ◌*◌, ◌++◌, Bool, true, ◌&&◌, List, length, take, refl, sym, ap}
use Rattle.std.proofs.Common.{subst, ◌∙◌, arith, inl, inr}
use Rattle.bool_circuit.specs.declared.gate.Wire.{Wire}
use Rattle.bool_circuit.specs.Circuit.{Extends, wire_values}
use Rattle.bool_circuit.proofs.Extending.{extends_trans, extends_within}
use Rattle.clf_tree.specs.Core as form
use Rattle.clf_tree.specs.Core.{core}
use Rattle.clf_tree.specs.CoreSoundness.{is_number, is_test, sort}
use Rattle.clf_tree.specs.CoreWeights.{core_weight}
use Rattle.told_constraints.specs.Formed.{is_formed}
use Rattle.told_constraints.specs.Told.{told, told_set, told_truth}
use Rattle.quantifier_encoder.specs.declared.tuples.Tuple.{Tuple}
use Rattle.constraint_encoder.specs.Encoded.{AreTestsOf, IsNodesOf, IsNumberOf, IsTruthOf}
use Rattle.constraint_encoder.specs.Operands.{is_choice, is_step, is_value_test, left_of, right_of, step_from, test_of}
use Rattle.constraint_encoder.proofs.Arms.{has_bits, nodes_as, number_as, truth_as}
use Rattle.constraint_encoder.proofs.Cores.{core-Union, core-Minus, core-Meet, core-ChooseNodes, core-SameNodes}
use Rattle.constraint_encoder.proofs.Cores.{core-WithinNodes, core-And, core-Or, core-Xor, core-ChooseTruth, core-Add}
use Rattle.constraint_encoder.proofs.Cores.{core-Mul, core-ChooseNumber, core-Less, core-AtLeast, core-AtMost}
use Rattle.constraint_encoder.proofs.Cores.{core-Exactly, core-Every, core-Down, core-Up, core-Follow, core-Count}
use Rattle.constraint_encoder.proofs.Cores.{core-Total, core-SameValues, core-WithinValues, core-Quant}
use Rattle.constraint_encoder.proofs.Forms.{added, at_least_told, at_most_told, counted, down_told, exactly_told}
use Rattle.constraint_encoder.proofs.Forms.{follow_told, multiplied, nodes_told, number_choice_told, same_told}
use Rattle.constraint_encoder.proofs.Forms.{same_values_told, summed, up_told, within_told, within_values_told}
use Rattle.constraint_encoder.proofs.Sides.{else_set, node_side}
use Rattle.constraint_encoder.proofs.Staying.{laid_stays, nodes_stay, number_stays, side_stays, truth_stays}
use Rattle.constraint_encoder.proofs.Tested.{tests_more}
use Rattle.constraint_encoder.proofs.Tuples.{named_each}
use Rattle.constraint_encoder.proofs.expressions.+encode.Goals as goal

pub two_sets-sets_are_formed-requires-clause-left : goal.two_sets-sets_are_formed-requires-clause-left
two_sets-sets_are_formed-requires-clause-left t c =
    let named : core c.in-Union.a ≡ left_of (core c.args.expr.now) =
    elim c.in-Union.is [
      | inl h0 ↦
          sym (ap left_of (core-Union c.args.expr.now h0.0 c.in-Union.a c.in-Union.b h0.1))
      | inr g0 ↦ elim g0 [
        | inl h1 ↦
            sym (ap left_of (core-Minus c.args.expr.now h1.0 c.in-Union.a c.in-Union.b h1.1))
        | inr g1 ↦ elim g1 [
          | inl h2 ↦
              sym (ap left_of (core-Meet c.args.expr.now h2.0 c.in-Union.a c.in-Union.b h2.1))
          | inr g2 ↦ elim g2 [
            | inl h3 ↦
                sym (ap left_of (core-ChooseNodes c.args.expr.now h3.0 h3.1 c.in-Union.a c.in-Union.b h3.2))
            | inr g3 ↦ elim g3 [
              | inl h4 ↦
                  sym (ap left_of (core-SameNodes c.args.expr.now c.in-Union.a c.in-Union.b h4))
              | inr g4 ↦ sym (ap left_of (core-WithinNodes c.args.expr.now c.in-Union.a c.in-Union.b g4))
            ]
          ]
        ]
      ]
    ] in
    ap core c.get-first.ensures ∙ named

pub two_sets-sets_are_formed-requires-clause-right : goal.two_sets-sets_are_formed-requires-clause-right
two_sets-sets_are_formed-requires-clause-right t c =
    let named : core c.in-Union.b ≡ right_of (core c.args.expr.now) =
    elim c.in-Union.is [
      | inl h0 ↦
          sym (ap right_of (core-Union c.args.expr.now h0.0 c.in-Union.a c.in-Union.b h0.1))
      | inr g0 ↦ elim g0 [
        | inl h1 ↦
            sym (ap right_of (core-Minus c.args.expr.now h1.0 c.in-Union.a c.in-Union.b h1.1))
        | inr g1 ↦ elim g1 [
          | inl h2 ↦
              sym (ap right_of (core-Meet c.args.expr.now h2.0 c.in-Union.a c.in-Union.b h2.1))
          | inr g2 ↦ elim g2 [
            | inl h3 ↦
                sym (ap right_of (core-ChooseNodes c.args.expr.now h3.0 h3.1 c.in-Union.a c.in-Union.b h3.2))
            | inr g3 ↦ elim g3 [
              | inl h4 ↦
                  sym (ap right_of (core-SameNodes c.args.expr.now c.in-Union.a c.in-Union.b h4))
              | inr g4 ↦ sym (ap right_of (core-WithinNodes c.args.expr.now c.in-Union.a c.in-Union.b g4))
            ]
          ]
        ]
      ]
    ] in
    ap core c.get-second.ensures ∙ named

pub two_sets-returns-clause-left : goal.two_sets-returns-clause-left
two_sets-returns-clause-left t c =
    nodes_stay c.encode_nodes.new.circuit c.encode_nodes-in-Union.new.circuit _ c.args.ground.now.scopes.now
    c.args.ground.now.layout.now (left_of (core c.args.expr.now)) c.args.bound.now c.in_ok-left-in-Union.left
    c.in_ok-right-in-Union.ensures.extends
    (subst (λ k. IsNodesOf c.encode_nodes.new.circuit c.args.ground.now.scopes.now c.args.ground.now.layout.now k
    c.args.bound.now c.in_ok-left-in-Union.left) c.sets_are_formed.ensures.left
    c.in_ok-left-in-Union.ensures.nodes)

pub two_sets-returns-clause-right : goal.two_sets-returns-clause-right
two_sets-returns-clause-right t c =
    subst (λ k. IsNodesOf c.encode_nodes-in-Union.new.circuit c.args.ground.now.scopes.now
    c.args.ground.now.layout.now k c.args.bound.now c.in_ok-right-in-Union.right) c.sets_are_formed.ensures.right
    c.in_ok-right-in-Union.ensures.nodes

pub two_truths-truths_are_formed-requires-clause-left : goal.two_truths-truths_are_formed-requires-clause-left
two_truths-truths_are_formed-requires-clause-left t c =
    let named : core c.in-And.a ≡ left_of (core c.args.expr.now) =
    elim c.in-And.is [
      | inl h0 ↦ sym (ap left_of (core-And c.args.expr.now c.in-And.a c.in-And.b h0))
      | inr g0 ↦ elim g0 [
        | inl h1 ↦ sym (ap left_of (core-Or c.args.expr.now c.in-And.a c.in-And.b h1))
        | inr g1 ↦ elim g1 [
          | inl h2 ↦ sym (ap left_of (core-Xor c.args.expr.now c.in-And.a c.in-And.b h2))
          | inr g2 ↦ sym (ap left_of (core-ChooseTruth c.args.expr.now g2.0 c.in-And.a c.in-And.b g2.1))
        ]
      ]
    ] in
    ap core c.get-first.ensures ∙ named

pub two_truths-truths_are_formed-requires-clause-right : goal.two_truths-truths_are_formed-requires-clause-right
two_truths-truths_are_formed-requires-clause-right t c =
    let named : core c.in-And.b ≡ right_of (core c.args.expr.now) =
    elim c.in-And.is [
      | inl h0 ↦ sym (ap right_of (core-And c.args.expr.now c.in-And.a c.in-And.b h0))
      | inr g0 ↦ elim g0 [
        | inl h1 ↦ sym (ap right_of (core-Or c.args.expr.now c.in-And.a c.in-And.b h1))
        | inr g1 ↦ elim g1 [
          | inl h2 ↦ sym (ap right_of (core-Xor c.args.expr.now c.in-And.a c.in-And.b h2))
          | inr g2 ↦ sym (ap right_of (core-ChooseTruth c.args.expr.now g2.0 c.in-And.a c.in-And.b g2.1))
        ]
      ]
    ] in
    ap core c.get-second.ensures ∙ named

pub two_truths-returns-clause-left : goal.two_truths-returns-clause-left
two_truths-returns-clause-left t c =
    truth_stays c.encode_truth.new.circuit c.encode_truth-in-And.new.circuit _ c.args.ground.now.layout.now
    (left_of (core c.args.expr.now)) c.args.bound.now c.in_ok-left-in-And.left
    c.in_ok-right-in-And.ensures.extends
    (subst (λ k. IsTruthOf c.encode_truth.new.circuit c.args.ground.now.layout.now k c.args.bound.now
    c.in_ok-left-in-And.left) c.truths_are_formed.ensures.left c.in_ok-left-in-And.ensures.truth)

pub two_truths-returns-clause-right : goal.two_truths-returns-clause-right
two_truths-returns-clause-right t c =
    subst (λ k. IsTruthOf c.encode_truth-in-And.new.circuit c.args.ground.now.layout.now k c.args.bound.now
    c.in_ok-right-in-And.right) c.truths_are_formed.ensures.right c.in_ok-right-in-And.ensures.truth

pub two_numbers-numbers_are_formed-requires-clause-left : goal.two_numbers-numbers_are_formed-requires-clause-left
two_numbers-numbers_are_formed-requires-clause-left t c =
    let named : core c.in-Add.a ≡ left_of (core c.args.expr.now) =
    elim c.in-Add.is [
      | inl h0 ↦
          sym (ap left_of (core-Add c.args.expr.now h0.0 c.in-Add.a c.in-Add.b h0.1))
      | inr g0 ↦ elim g0 [
        | inl h1 ↦
            sym (ap left_of (core-Mul c.args.expr.now h1.0 c.in-Add.a c.in-Add.b h1.1))
        | inr g1 ↦ elim g1 [
          | inl h2 ↦
              sym (ap left_of (core-ChooseNumber c.args.expr.now h2.0 h2.1 c.in-Add.a c.in-Add.b h2.2))
          | inr g2 ↦ sym (ap left_of (core-Less c.args.expr.now c.in-Add.a c.in-Add.b g2))
        ]
      ]
    ] in
    ap core c.get-first.ensures ∙ named

pub two_numbers-numbers_are_formed-requires-clause-right : goal.two_numbers-numbers_are_formed-requires-clause-right
two_numbers-numbers_are_formed-requires-clause-right t c =
    let named : core c.in-Add.b ≡ right_of (core c.args.expr.now) =
    elim c.in-Add.is [
      | inl h0 ↦
          sym (ap right_of (core-Add c.args.expr.now h0.0 c.in-Add.a c.in-Add.b h0.1))
      | inr g0 ↦ elim g0 [
        | inl h1 ↦
            sym (ap right_of (core-Mul c.args.expr.now h1.0 c.in-Add.a c.in-Add.b h1.1))
        | inr g1 ↦ elim g1 [
          | inl h2 ↦
              sym (ap right_of (core-ChooseNumber c.args.expr.now h2.0 h2.1 c.in-Add.a c.in-Add.b h2.2))
          | inr g2 ↦ sym (ap right_of (core-Less c.args.expr.now c.in-Add.a c.in-Add.b g2))
        ]
      ]
    ] in
    ap core c.get-second.ensures ∙ named

pub two_numbers-returns-clause-left : goal.two_numbers-returns-clause-left
two_numbers-returns-clause-left t c =
    number_stays c.encode_number.new.circuit c.encode_number-in-Add.new.circuit _ c.args.ground.now.scopes.now
    c.args.ground.now.layout.now (left_of (core c.args.expr.now)) c.args.bound.now c.in_ok-left-in-Add.left
    c.in_ok-right-in-Add.ensures.extends
    (subst (λ k. IsNumberOf c.encode_number.new.circuit c.args.ground.now.scopes.now c.args.ground.now.layout.now k
    c.args.bound.now c.in_ok-left-in-Add.left) c.numbers_are_formed.ensures.left
    c.in_ok-left-in-Add.ensures.number)

pub two_numbers-returns-clause-right : goal.two_numbers-returns-clause-right
two_numbers-returns-clause-right t c =
    subst (λ k. IsNumberOf c.encode_number-in-Add.new.circuit c.args.ground.now.scopes.now
    c.args.ground.now.layout.now k c.args.bound.now c.in_ok-right-in-Add.right) c.numbers_are_formed.ensures.right
    c.in_ok-right-in-Add.ensures.number

pub amount-returns-in_ok-wire-in-AtLeast-clause-truth : goal.amount-returns-in_ok-wire-in-AtLeast-clause-truth
amount-returns-in_ok-wire-in-AtLeast-clause-truth t c =
    truth_as c.args.ground.now.layout.now (core c.args.expr.now) (form.AtLeast c.in-AtLeast.k (core c.in-AtLeast.of))
    (core-AtLeast c.args.expr.now c.in-AtLeast.k c.in-AtLeast.of c.in-AtLeast.is)
    (at_least_told c.encode_nodes.new.circuit c.at_least.new.circuit c.args.ground.now.scopes.now
    c.args.ground.now.layout.now (core c.in-AtLeast.of) c.in-AtLeast.k c.args.bound.now c.in_ok-set-in-AtLeast.set
    c.in_ok-wire-in-AtLeast.wire
    (nodes_as c.args.ground.now.scopes.now c.args.ground.now.layout.now (core c.in-AtLeast.of)
    (core c.get.result.now) (sym (ap core c.get.ensures)) c.in_ok-set-in-AtLeast.ensures.nodes)
    c.in_ok-wire-in-AtLeast.ensures.wire c.in_ok-wire-in-AtLeast.ensures.value)

pub amount-returns-in_ok-wire-in-AtMost-clause-truth : goal.amount-returns-in_ok-wire-in-AtMost-clause-truth
amount-returns-in_ok-wire-in-AtMost-clause-truth t c =
    truth_as c.args.ground.now.layout.now (core c.args.expr.now) (form.AtMost c.in-AtMost.k (core c.in-AtMost.of))
    (core-AtMost c.args.expr.now c.in-AtMost.k c.in-AtMost.of c.in-AtMost.is)
    (at_most_told c.encode_nodes-in-AtMost.new.circuit c.at_most.new.circuit c.args.ground.now.scopes.now
    c.args.ground.now.layout.now (core c.in-AtMost.of) c.in-AtMost.k c.args.bound.now c.in_ok-set-in-AtMost.set
    c.in_ok-wire-in-AtMost.wire
    (nodes_as c.args.ground.now.scopes.now c.args.ground.now.layout.now (core c.in-AtMost.of)
    (core c.get-in-AtMost.result.now) (sym (ap core c.get-in-AtMost.ensures)) c.in_ok-set-in-AtMost.ensures.nodes)
    c.in_ok-wire-in-AtMost.ensures.wire c.in_ok-wire-in-AtMost.ensures.value)

pub amount-returns-in_ok-wire-in-Exactly-clause-truth : goal.amount-returns-in_ok-wire-in-Exactly-clause-truth
amount-returns-in_ok-wire-in-Exactly-clause-truth t c =
    truth_as c.args.ground.now.layout.now (core c.args.expr.now) (form.Exactly c.in-Exactly.k (core c.in-Exactly.of))
    (core-Exactly c.args.expr.now c.in-Exactly.k c.in-Exactly.of c.in-Exactly.is)
    (exactly_told c.encode_nodes-in-Exactly.new.circuit c.exactly.new.circuit c.args.ground.now.scopes.now
    c.args.ground.now.layout.now (core c.in-Exactly.of) c.in-Exactly.k c.args.bound.now c.in_ok-set-in-Exactly.set
    c.in_ok-wire-in-Exactly.wire
    (nodes_as c.args.ground.now.scopes.now c.args.ground.now.layout.now (core c.in-Exactly.of)
    (core c.get-in-Exactly.result.now) (sym (ap core c.get-in-Exactly.ensures))
    c.in_ok-set-in-Exactly.ensures.nodes) c.in_ok-wire-in-Exactly.ensures.wire
    c.in_ok-wire-in-Exactly.ensures.value)

pub encode_nodes-listed_members_are_few-requires-in-Every-clause-ascending :
    goal.encode_nodes-listed_members_are_few-requires-in-Every-clause-ascending
encode_nodes-listed_members_are_few-requires-in-Every-clause-ascending t c =
    (c.in_ok-set-in-Every.ensures.set c.args.circuit.now c.requires.laid).ascending

pub encode_nodes-returns-in_ok-set-in-Every-clause-nodes : goal.encode_nodes-returns-in_ok-set-in-Every-clause-nodes
encode_nodes-returns-in_ok-set-in-Every-clause-nodes t c =
    let e = core-Every c.args.expr.now c.in-Every.clafers c.in-Every.is ∙ ap form.Every (sym c.as_slice-ks-in-Every.ensures) in
    nodes_as c.args.ground.now.scopes.now c.args.ground.now.layout.now (core c.args.expr.now)
    (form.Every c.as_slice-ks-in-Every.result.now) e
    (nodes_told (c.in_ok-set-in-Every.ensures.set c.args.circuit.now c.requires.laid)
    c.in_ok-set-in-Every.ensures.listed c.listed_members_are_few-in-Every.ensures.below
    c.listed_members_are_few-in-Every.ensures.few
    (λ bits s. c.in_ok-set-in-Every.ensures.value c.args.circuit.now c.requires.laid bits s))

pub step-returns-in_ok-set-in-Down-clause-nodes : goal.step-returns-in_ok-set-in-Down-clause-nodes
step-returns-in_ok-set-in-Down-clause-nodes t c =
    let e = core-Down c.args.expr.now c.in-Down.clafers c.in-Down.of c.in-Down.is
    ∙ ap (λ l. form.Down l (core c.in-Down.of)) (sym c.as_slice-ks.ensures) in
    nodes_as c.args.ground.now.scopes.now c.args.ground.now.layout.now (core c.args.expr.now)
    (form.Down c.as_slice-ks.result.now (core c.in-Down.of)) e
    (down_told (nodes_as c.args.ground.now.scopes.now c.args.ground.now.layout.now (core c.in-Down.of)
    (core c.get-start.result.now) (sym (ap core c.get-start.ensures)) c.in_ok-from-in-Down.ensures.nodes)
    c.in_ok-set-in-Down.ensures.set c.in_ok-set-in-Down.ensures.listed
    c.listed_members_are_few.ensures.below c.listed_members_are_few.ensures.few
    c.in_ok-set-in-Down.ensures.value)

pub step-step_is_formed-requires-clause-form : goal.step-step_is_formed-requires-clause-form
step-step_is_formed-requires-clause-form t c =
    ap is_step (core-Down c.args.expr.now c.in-Down.clafers c.in-Down.of c.in-Down.is)

pub step-step_is_formed-requires-clause-of : goal.step-step_is_formed-requires-clause-of
step-step_is_formed-requires-clause-of t c =
    ap core c.get-start.ensures ∙ sym (ap step_from (core-Down c.args.expr.now c.in-Down.clafers c.in-Down.of c.in-Down.is))

pub step-returns-in_ok-set-in-Up-clause-nodes : goal.step-returns-in_ok-set-in-Up-clause-nodes
step-returns-in_ok-set-in-Up-clause-nodes t c =
    let e = core-Up c.args.expr.now c.in-Up.clafers c.in-Up.of c.in-Up.is
    ∙ ap (λ l. form.Up l (core c.in-Up.of)) (sym c.as_slice-ks-in-Up.ensures) in
    nodes_as c.args.ground.now.scopes.now c.args.ground.now.layout.now (core c.args.expr.now)
    (form.Up c.as_slice-ks-in-Up.result.now (core c.in-Up.of)) e
    (up_told (nodes_as c.args.ground.now.scopes.now c.args.ground.now.layout.now (core c.in-Up.of)
    (core c.get-start-in-Up.result.now) (sym (ap core c.get-start-in-Up.ensures))
    c.in_ok-from-in-Up.ensures.nodes) c.in_ok-set-in-Up.ensures.set c.in_ok-set-in-Up.ensures.listed
    c.listed_members_are_few-in-Up.ensures.below c.listed_members_are_few-in-Up.ensures.few
    c.in_ok-set-in-Up.ensures.value)

pub step-step_is_formed-requires-in-Up-clause-form : goal.step-step_is_formed-requires-in-Up-clause-form
step-step_is_formed-requires-in-Up-clause-form t c =
    ap is_step (core-Up c.args.expr.now c.in-Up.clafers c.in-Up.of c.in-Up.is)

pub step-step_is_formed-requires-in-Up-clause-of : goal.step-step_is_formed-requires-in-Up-clause-of
step-step_is_formed-requires-in-Up-clause-of t c =
    ap core c.get-start-in-Up.ensures ∙ sym (ap step_from (core-Up c.args.expr.now c.in-Up.clafers c.in-Up.of c.in-Up.is))

pub step-returns-in_ok-set-in-Follow-clause-nodes : goal.step-returns-in_ok-set-in-Follow-clause-nodes
step-returns-in_ok-set-in-Follow-clause-nodes t c =
    let e = core-Follow c.args.expr.now c.in-Follow.clafers c.in-Follow.of c.in-Follow.is
    ∙ ap (λ l. form.Follow l (core c.in-Follow.of)) (sym c.as_slice-ks-in-Follow.ensures) in
    nodes_as c.args.ground.now.scopes.now c.args.ground.now.layout.now (core c.args.expr.now)
    (form.Follow c.as_slice-ks-in-Follow.result.now (core c.in-Follow.of)) e
    (follow_told (nodes_as c.args.ground.now.scopes.now c.args.ground.now.layout.now (core c.in-Follow.of)
    (core c.get-start-in-Follow.result.now) (sym (ap core c.get-start-in-Follow.ensures))
    c.in_ok-from-in-Follow.ensures.nodes) c.in_ok-set-in-Follow.ensures.set c.in_ok-set-in-Follow.ensures.listed
    c.listed_members_are_few-in-Follow.ensures.below c.listed_members_are_few-in-Follow.ensures.few
    c.in_ok-set-in-Follow.ensures.value)

pub step-step_is_formed-requires-in-Follow-clause-form : goal.step-step_is_formed-requires-in-Follow-clause-form
step-step_is_formed-requires-in-Follow-clause-form t c =
    ap is_step (core-Follow c.args.expr.now c.in-Follow.clafers c.in-Follow.of c.in-Follow.is)

pub step-step_is_formed-requires-in-Follow-clause-of : goal.step-step_is_formed-requires-in-Follow-clause-of
step-step_is_formed-requires-in-Follow-clause-of t c =
    ap core c.get-start-in-Follow.ensures
    ∙ sym (ap step_from (core-Follow c.args.expr.now c.in-Follow.clafers c.in-Follow.of c.in-Follow.is))

pub chosen_set-choice_is_formed-requires-clause-form : goal.chosen_set-choice_is_formed-requires-clause-form
chosen_set-choice_is_formed-requires-clause-form t c =
    ap is_choice (core-ChooseNodes c.args.expr.now c.in-ChooseNodes.clafers c.in-ChooseNodes.test
    c.in-ChooseNodes.then c.in-ChooseNodes.other c.in-ChooseNodes.is)

pub chosen_set-choice_is_formed-requires-clause-test : goal.chosen_set-choice_is_formed-requires-clause-test
chosen_set-choice_is_formed-requires-clause-test t c =
    ap core c.get-chooser.ensures
    ∙ sym (ap test_of (core-ChooseNodes c.args.expr.now c.in-ChooseNodes.clafers c.in-ChooseNodes.test
    c.in-ChooseNodes.then c.in-ChooseNodes.other c.in-ChooseNodes.is))

pub encode_number-choice_is_formed-requires-clause-form : goal.encode_number-choice_is_formed-requires-clause-form
encode_number-choice_is_formed-requires-clause-form t c =
    ap is_choice (core-ChooseNumber c.args.expr.now c.in-ChooseNumber.width c.in-ChooseNumber.test
    c.in-ChooseNumber.then c.in-ChooseNumber.other c.in-ChooseNumber.is)

pub encode_number-choice_is_formed-requires-clause-test : goal.encode_number-choice_is_formed-requires-clause-test
encode_number-choice_is_formed-requires-clause-test t c =
    ap core c.get-chooser.ensures
    ∙ sym (ap test_of (core-ChooseNumber c.args.expr.now c.in-ChooseNumber.width c.in-ChooseNumber.test
    c.in-ChooseNumber.then c.in-ChooseNumber.other c.in-ChooseNumber.is))

pub connective-choice_is_formed-requires-clause-form : goal.connective-choice_is_formed-requires-clause-form
connective-choice_is_formed-requires-clause-form t c =
    ap is_choice (core-ChooseTruth c.args.expr.now c.in-ChooseTruth.test c.in-ChooseTruth.field-1
    c.in-ChooseTruth.field-2 c.in-ChooseTruth.is)

pub connective-choice_is_formed-requires-clause-test : goal.connective-choice_is_formed-requires-clause-test
connective-choice_is_formed-requires-clause-test t c =
    ap core c.get-chooser.ensures
    ∙ sym (ap test_of (core-ChooseTruth c.args.expr.now c.in-ChooseTruth.test c.in-ChooseTruth.field-1
    c.in-ChooseTruth.field-2 c.in-ChooseTruth.is))

pub encode_number-choose-requires-clause-some : goal.encode_number-choose-requires-clause-some
encode_number-choose-requires-clause-some t c =
    has_bits c.in-ChooseNumber.width
    (is_test (sort (core c.in-ChooseNumber.test))
    && (is_number (sort (core c.in-ChooseNumber.then))
    && (is_number (sort (core c.in-ChooseNumber.other))
    && (is_formed (core c.in-ChooseNumber.test) (length c.args.bound.now)
    && (is_formed (core c.in-ChooseNumber.then) (length c.args.bound.now)
    && is_formed (core c.in-ChooseNumber.other) (length c.args.bound.now))))))
    (sym (ap (λ k. is_formed k (length c.args.bound.now))
    (core-ChooseNumber c.args.expr.now c.in-ChooseNumber.width c.in-ChooseNumber.test c.in-ChooseNumber.then
    c.in-ChooseNumber.other c.in-ChooseNumber.is)) ∙ c.requires.formed)

pub encode_number-returns-in_ok-chosen-in-ChooseNumber-clause-number :
    goal.encode_number-returns-in_ok-chosen-in-ChooseNumber-clause-number
encode_number-returns-in_ok-chosen-in-ChooseNumber-clause-number t c =
    let e =
    subst (λ k. k ≡ form.ChooseNumber c.in-ChooseNumber.width (core c.in-ChooseNumber.test) (left_of k)
    (right_of k)) (sym (core-ChooseNumber c.args.expr.now c.in-ChooseNumber.width c.in-ChooseNumber.test
    c.in-ChooseNumber.then c.in-ChooseNumber.other c.in-ChooseNumber.is)) refl in
    let picked =
    truth_as c.args.ground.now.layout.now (core c.in-ChooseNumber.test) (core c.get-chooser.result.now)
    (sym (ap core c.get-chooser.ensures))
    (truth_stays c.encode_truth.new.circuit c.two_numbers.new.circuit _
    c.args.ground.now.layout.now (core c.get-chooser.result.now) c.args.bound.now
    c.in_ok-pick-in-ChooseNumber.pick c.in_ok-numbers-in-ChooseNumber.ensures.extends
    c.in_ok-pick-in-ChooseNumber.ensures.truth) in
    number_as c.args.ground.now.scopes.now c.args.ground.now.layout.now (core c.args.expr.now)
    (form.ChooseNumber c.in-ChooseNumber.width (core c.in-ChooseNumber.test) (left_of (core c.args.expr.now))
    (right_of (core c.args.expr.now))) e
    (number_choice_told picked c.in_ok-numbers-in-ChooseNumber.ensures.left
    c.in_ok-numbers-in-ChooseNumber.ensures.right c.in_ok-chosen-in-ChooseNumber.ensures.wires
    (has_bits c.in-ChooseNumber.width
    (is_test (sort (core c.in-ChooseNumber.test))
    && (is_number (sort (core c.in-ChooseNumber.then))
    && (is_number (sort (core c.in-ChooseNumber.other))
    && (is_formed (core c.in-ChooseNumber.test) (length c.args.bound.now)
    && (is_formed (core c.in-ChooseNumber.then) (length c.args.bound.now)
    && is_formed (core c.in-ChooseNumber.other) (length c.args.bound.now))))))
    (sym (ap (λ k. is_formed k (length c.args.bound.now))
    (core-ChooseNumber c.args.expr.now c.in-ChooseNumber.width c.in-ChooseNumber.test c.in-ChooseNumber.then
    c.in-ChooseNumber.other c.in-ChooseNumber.is)) ∙ c.requires.formed))
    c.in_ok-chosen-in-ChooseNumber.ensures.width c.in_ok-chosen-in-ChooseNumber.ensures.value)

pub aggregate-returns-in_ok-number-in-Count-clause-number : goal.aggregate-returns-in_ok-number-in-Count-clause-number
aggregate-returns-in_ok-number-in-Count-clause-number t c =
    number_as c.args.ground.now.scopes.now c.args.ground.now.layout.now (core c.args.expr.now)
    (form.Count c.in-Count.width (core c.in-Count.of))
    (core-Count c.args.expr.now c.in-Count.width c.in-Count.of c.in-Count.is)
    (counted (nodes_as c.args.ground.now.scopes.now c.args.ground.now.layout.now (core c.in-Count.of)
    (core c.get.result.now) (sym (ap core c.get.ensures)) c.in_ok-set-in-Count.ensures.nodes)
    c.in_ok-number-in-Count.ensures.wires c.in_ok-number-in-Count.ensures.some c.in_ok-number-in-Count.ensures.few
    c.in_ok-number-in-Count.ensures.value)

pub aggregate-returns-in_ok-number-in-Total-clause-number : goal.aggregate-returns-in_ok-number-in-Total-clause-number
aggregate-returns-in_ok-number-in-Total-clause-number t c =
    number_as c.args.ground.now.scopes.now c.args.ground.now.layout.now (core c.args.expr.now)
    (form.Total c.in-Total.width (core c.in-Total.of))
    (core-Total c.args.expr.now c.in-Total.width c.in-Total.of c.in-Total.is)
    (summed (nodes_as c.args.ground.now.scopes.now c.args.ground.now.layout.now (core c.in-Total.of)
    (core c.get-in-Total.result.now) (sym (ap core c.get-in-Total.ensures)) c.in_ok-set-in-Total.ensures.nodes)
    c.in_ok-number-in-Total.ensures.wires c.in_ok-number-in-Total.ensures.some c.in_ok-number-in-Total.ensures.few
    c.in_ok-number-in-Total.ensures.value)

pub arithmetic-returns-in_ok-sum-in-Add-clause-number : goal.arithmetic-returns-in_ok-sum-in-Add-clause-number
arithmetic-returns-in_ok-sum-in-Add-clause-number t c =
    let e =
    subst (λ k. k ≡ form.Add c.in-Add.width (left_of k) (right_of k))
    (sym (core-Add c.args.expr.now c.in-Add.width c.in-Add.left c.in-Add.right c.in-Add.is)) refl in
    let some =
    has_bits c.in-Add.width (is_number (sort (core c.in-Add.left))
    && (is_number (sort (core c.in-Add.right))
    && (is_formed (core c.in-Add.left) (length c.args.bound.now)
    && is_formed (core c.in-Add.right) (length c.args.bound.now))))
    (sym (ap (λ k. is_formed k (length c.args.bound.now))
    (core-Add c.args.expr.now c.in-Add.width c.in-Add.left c.in-Add.right c.in-Add.is)) ∙ c.requires.formed) in
    number_as c.args.ground.now.scopes.now c.args.ground.now.layout.now (core c.args.expr.now)
    (form.Add c.in-Add.width (left_of (core c.args.expr.now)) (right_of (core c.args.expr.now))) e
    (added c.in_ok-numbers-in-Add.ensures.left c.in_ok-numbers-in-Add.ensures.right c.in_ok-sum-in-Add.ensures.wires
    some c.in_ok-sum-in-Add.ensures.width c.in_ok-sum-in-Add.ensures.cut)

pub arithmetic-returns-in_ok-product-in-Mul-clause-number : goal.arithmetic-returns-in_ok-product-in-Mul-clause-number
arithmetic-returns-in_ok-product-in-Mul-clause-number t c =
    let e =
    subst (λ k. k ≡ form.Mul c.in-Mul.width (left_of k) (right_of k))
    (sym (core-Mul c.args.expr.now c.in-Mul.width c.in-Mul.left c.in-Mul.right c.in-Mul.is)) refl in
    let some =
    has_bits c.in-Mul.width (is_number (sort (core c.in-Mul.left))
    && (is_number (sort (core c.in-Mul.right))
    && (is_formed (core c.in-Mul.left) (length c.args.bound.now)
    && is_formed (core c.in-Mul.right) (length c.args.bound.now))))
    (sym (ap (λ k. is_formed k (length c.args.bound.now))
    (core-Mul c.args.expr.now c.in-Mul.width c.in-Mul.left c.in-Mul.right c.in-Mul.is)) ∙ c.requires.formed) in
    number_as c.args.ground.now.scopes.now c.args.ground.now.layout.now (core c.args.expr.now)
    (form.Mul c.in-Mul.width (left_of (core c.args.expr.now)) (right_of (core c.args.expr.now))) e
    (multiplied c.in_ok-numbers-in-Mul.ensures.left c.in_ok-numbers-in-Mul.ensures.right
    c.in_ok-product-in-Mul.ensures.wires some c.in_ok-product-in-Mul.ensures.width
    c.in_ok-product-in-Mul.ensures.cut)

pub node_test-returns-in_ok-wire-in-SameNodes-clause-truth : goal.node_test-returns-in_ok-wire-in-SameNodes-clause-truth
node_test-returns-in_ok-wire-in-SameNodes-clause-truth t c =
    let e =
    subst (λ k. k ≡ form.SameNodes (left_of k) (right_of k))
    (sym (core-SameNodes c.args.expr.now c.in-SameNodes.field-0 c.in-SameNodes.field-1 c.in-SameNodes.is)) refl in
    truth_as c.args.ground.now.layout.now (core c.args.expr.now)
    (form.SameNodes (left_of (core c.args.expr.now)) (right_of (core c.args.expr.now))) e
    (same_told c.two_sets.new.circuit c.same_nodes.new.circuit c.args.ground.now.scopes.now
    c.args.ground.now.layout.now (left_of (core c.args.expr.now)) (right_of (core c.args.expr.now))
    c.args.bound.now c.in_ok-sets-in-SameNodes.sets.left c.in_ok-sets-in-SameNodes.sets.right
    c.in_ok-wire-in-SameNodes.wire c.in_ok-sets-in-SameNodes.ensures.left c.in_ok-sets-in-SameNodes.ensures.right
    c.in_ok-wire-in-SameNodes.ensures.wire c.in_ok-wire-in-SameNodes.ensures.value)

pub node_test-returns-in_ok-wire-in-WithinNodes-clause-truth : goal.node_test-returns-in_ok-wire-in-WithinNodes-clause-truth
node_test-returns-in_ok-wire-in-WithinNodes-clause-truth t c =
    let e =
    subst (λ k. k ≡ form.WithinNodes (left_of k) (right_of k))
    (sym (core-WithinNodes c.args.expr.now c.in-WithinNodes.field-0 c.in-WithinNodes.field-1 c.in-WithinNodes.is))
    refl in
    truth_as c.args.ground.now.layout.now (core c.args.expr.now)
    (form.WithinNodes (left_of (core c.args.expr.now)) (right_of (core c.args.expr.now))) e
    (within_told c.two_sets-in-WithinNodes.new.circuit c.within_nodes.new.circuit c.args.ground.now.scopes.now
    c.args.ground.now.layout.now (left_of (core c.args.expr.now)) (right_of (core c.args.expr.now))
    c.args.bound.now c.in_ok-sets-in-WithinNodes.sets.left c.in_ok-sets-in-WithinNodes.sets.right
    c.in_ok-wire-in-WithinNodes.wire c.in_ok-sets-in-WithinNodes.ensures.left
    c.in_ok-sets-in-WithinNodes.ensures.right c.in_ok-wire-in-WithinNodes.ensures.wire
    c.in_ok-wire-in-WithinNodes.ensures.value)

pub value_test-sides_are_formed-requires-clause-form : goal.value_test-sides_are_formed-requires-clause-form
value_test-sides_are_formed-requires-clause-form t c =
    ap is_value_test (core-SameValues c.args.expr.now c.in-SameValues.a c.in-SameValues.b c.in-SameValues.is)

pub value_test-sides_are_formed-requires-clause-left : goal.value_test-sides_are_formed-requires-clause-left
value_test-sides_are_formed-requires-clause-left t c =
    ap core c.get-first.ensures
    ∙ sym (ap left_of (core-SameValues c.args.expr.now c.in-SameValues.a c.in-SameValues.b c.in-SameValues.is))

pub value_test-sides_are_formed-requires-clause-right : goal.value_test-sides_are_formed-requires-clause-right
value_test-sides_are_formed-requires-clause-right t c =
    ap core c.get-second.ensures
    ∙ sym (ap right_of (core-SameValues c.args.expr.now c.in-SameValues.a c.in-SameValues.b c.in-SameValues.is))

pub value_test-returns-in_ok-wire-in-SameValues-clause-truth : goal.value_test-returns-in_ok-wire-in-SameValues-clause-truth
value_test-returns-in_ok-wire-in-SameValues-clause-truth t c =
    truth_as c.args.ground.now.layout.now (core c.args.expr.now)
    (form.SameValues (core c.get-first.result.now) (core c.get-second.result.now))
    (core-SameValues c.args.expr.now c.in-SameValues.a c.in-SameValues.b c.in-SameValues.is
    ∙ ap (λ k. form.SameValues k (core c.in-SameValues.b)) (sym (ap core c.get-first.ensures))
    ∙ ap (λ k. form.SameValues (core c.get-first.result.now) k) (sym (ap core c.get-second.ensures)))
    (same_values_told (side_stays c.side.new.circuit c.side-in-SameValues.new.circuit _ c.args.ground.now.scopes.now
    c.args.ground.now.layout.now (core c.get-first.result.now) c.args.bound.now c.in_ok-left-in-SameValues.left
    c.in_ok-right-in-SameValues.ensures.extends c.in_ok-left-in-SameValues.ensures.side)
    c.in_ok-right-in-SameValues.ensures.side c.in_ok-wire-in-SameValues.ensures.wire
    c.in_ok-wire-in-SameValues.ensures.value)

pub value_test-returns-in_err-right-in-SameValues-clause-extends :
    goal.value_test-returns-in_err-right-in-SameValues-clause-extends
value_test-returns-in_err-right-in-SameValues-clause-extends t c =
    let e = core-SameValues c.args.expr.now c.in-SameValues.a c.in-SameValues.b c.in-SameValues.is
    ∙ ap (λ k. form.SameValues k (core c.in-SameValues.b)) (sym (ap core c.get-first.ensures))
    ∙ ap (λ k. form.SameValues (core c.get-first.result.now) k) (sym (ap core c.get-second.ensures)) in
    let w = ap (core_weight c.args.ground.now.scopes.now) e in
    let two = c.sides_are_within.ensures in
    extends_within _ _ _ _ (omega (arith, w, two))
    (extends_trans _ _ _ _ _ c.in_ok-left-in-SameValues.ensures.extends
    c.in_err-right-in-SameValues.ensures.extends)

pub value_test-returns-in_err-wire-in-SameValues-clause-extends : goal.value_test-returns-in_err-wire-in-SameValues-clause-extends
value_test-returns-in_err-wire-in-SameValues-clause-extends t c =
    let e = core-SameValues c.args.expr.now c.in-SameValues.a c.in-SameValues.b c.in-SameValues.is
    ∙ ap (λ k. form.SameValues k (core c.in-SameValues.b)) (sym (ap core c.get-first.ensures))
    ∙ ap (λ k. form.SameValues (core c.get-first.result.now) k) (sym (ap core c.get-second.ensures)) in
    let w = ap (core_weight c.args.ground.now.scopes.now) e in
    let two = c.sides_are_within.ensures in
    let within = c.values_are_within.ensures in
    extends_within _ _ _ _ (omega (arith, w, within))
    (extends_trans _ _ _ _ _
    (extends_trans _ _ _ _ _ c.in_ok-left-in-SameValues.ensures.extends
    c.in_ok-right-in-SameValues.ensures.extends) c.in_err-wire-in-SameValues.ensures.extends)

pub value_test-returns-in_ok-wire-in-SameValues-clause-extends : goal.value_test-returns-in_ok-wire-in-SameValues-clause-extends
value_test-returns-in_ok-wire-in-SameValues-clause-extends t c =
    let e = core-SameValues c.args.expr.now c.in-SameValues.a c.in-SameValues.b c.in-SameValues.is
    ∙ ap (λ k. form.SameValues k (core c.in-SameValues.b)) (sym (ap core c.get-first.ensures))
    ∙ ap (λ k. form.SameValues (core c.get-first.result.now) k) (sym (ap core c.get-second.ensures)) in
    let w = ap (core_weight c.args.ground.now.scopes.now) e in
    let two = c.sides_are_within.ensures in
    let within = c.values_are_within.ensures in
    extends_within _ _ _ _ (omega (arith, w, within))
    (extends_trans _ _ _ _ _
    (extends_trans _ _ _ _ _ c.in_ok-left-in-SameValues.ensures.extends
    c.in_ok-right-in-SameValues.ensures.extends) c.in_ok-wire-in-SameValues.ensures.extends)

pub value_test-sides_are_formed-requires-in-WithinValues-clause-form :
    goal.value_test-sides_are_formed-requires-in-WithinValues-clause-form
value_test-sides_are_formed-requires-in-WithinValues-clause-form t c =
    ap is_value_test (core-WithinValues c.args.expr.now c.in-WithinValues.a c.in-WithinValues.b c.in-WithinValues.is)

pub value_test-sides_are_formed-requires-in-WithinValues-clause-left :
    goal.value_test-sides_are_formed-requires-in-WithinValues-clause-left
value_test-sides_are_formed-requires-in-WithinValues-clause-left t c =
    ap core c.get-first-in-WithinValues.ensures
    ∙ sym (ap left_of (core-WithinValues c.args.expr.now c.in-WithinValues.a c.in-WithinValues.b
    c.in-WithinValues.is))

pub value_test-sides_are_formed-requires-in-WithinValues-clause-right :
    goal.value_test-sides_are_formed-requires-in-WithinValues-clause-right
value_test-sides_are_formed-requires-in-WithinValues-clause-right t c =
    ap core c.get-second-in-WithinValues.ensures
    ∙ sym (ap right_of (core-WithinValues c.args.expr.now c.in-WithinValues.a c.in-WithinValues.b
    c.in-WithinValues.is))

pub value_test-returns-in_ok-wire-in-WithinValues-clause-truth : goal.value_test-returns-in_ok-wire-in-WithinValues-clause-truth
value_test-returns-in_ok-wire-in-WithinValues-clause-truth t c =
    truth_as c.args.ground.now.layout.now (core c.args.expr.now)
    (form.WithinValues (core c.get-first-in-WithinValues.result.now)
    (core c.get-second-in-WithinValues.result.now))
    (core-WithinValues c.args.expr.now c.in-WithinValues.a c.in-WithinValues.b c.in-WithinValues.is
    ∙ ap (λ k. form.WithinValues k (core c.in-WithinValues.b)) (sym (ap core c.get-first-in-WithinValues.ensures))
    ∙ ap (λ k. form.WithinValues (core c.get-first-in-WithinValues.result.now) k)
    (sym (ap core c.get-second-in-WithinValues.ensures)))
    (within_values_told (side_stays c.side-in-WithinValues.new.circuit c.side-in-WithinValues-2.new.circuit _
    c.args.ground.now.scopes.now c.args.ground.now.layout.now (core c.get-first-in-WithinValues.result.now)
    c.args.bound.now c.in_ok-left-in-WithinValues.left c.in_ok-right-in-WithinValues.ensures.extends
    c.in_ok-left-in-WithinValues.ensures.side) c.in_ok-right-in-WithinValues.ensures.side
    c.in_ok-wire-in-WithinValues.ensures.wire c.in_ok-wire-in-WithinValues.ensures.value)

pub value_test-returns-in_err-right-in-WithinValues-clause-extends :
    goal.value_test-returns-in_err-right-in-WithinValues-clause-extends
value_test-returns-in_err-right-in-WithinValues-clause-extends t c =
    let e = core-WithinValues c.args.expr.now c.in-WithinValues.a c.in-WithinValues.b c.in-WithinValues.is
    ∙ ap (λ k. form.WithinValues k (core c.in-WithinValues.b)) (sym (ap core c.get-first-in-WithinValues.ensures))
    ∙ ap (λ k. form.WithinValues (core c.get-first-in-WithinValues.result.now) k)
    (sym (ap core c.get-second-in-WithinValues.ensures)) in
    let w = ap (core_weight c.args.ground.now.scopes.now) e in
    let two = c.sides_are_within-in-WithinValues.ensures in
    extends_within _ _ _ _ (omega (arith, w, two))
    (extends_trans _ _ _ _ _ c.in_ok-left-in-WithinValues.ensures.extends
    c.in_err-right-in-WithinValues.ensures.extends)

pub value_test-returns-in_err-wire-in-WithinValues-clause-extends :
    goal.value_test-returns-in_err-wire-in-WithinValues-clause-extends
value_test-returns-in_err-wire-in-WithinValues-clause-extends t c =
    let e = core-WithinValues c.args.expr.now c.in-WithinValues.a c.in-WithinValues.b c.in-WithinValues.is
    ∙ ap (λ k. form.WithinValues k (core c.in-WithinValues.b)) (sym (ap core c.get-first-in-WithinValues.ensures))
    ∙ ap (λ k. form.WithinValues (core c.get-first-in-WithinValues.result.now) k)
    (sym (ap core c.get-second-in-WithinValues.ensures)) in
    let w = ap (core_weight c.args.ground.now.scopes.now) e in
    let two = c.sides_are_within-in-WithinValues.ensures in
    let within = c.values_are_within-in-WithinValues.ensures in
    extends_within _ _ _ _ (omega (arith, w, within))
    (extends_trans _ _ _ _ _
    (extends_trans _ _ _ _ _ c.in_ok-left-in-WithinValues.ensures.extends
    c.in_ok-right-in-WithinValues.ensures.extends) c.in_err-wire-in-WithinValues.ensures.extends)

pub value_test-returns-in_ok-wire-in-WithinValues-clause-extends :
    goal.value_test-returns-in_ok-wire-in-WithinValues-clause-extends
value_test-returns-in_ok-wire-in-WithinValues-clause-extends t c =
    let e = core-WithinValues c.args.expr.now c.in-WithinValues.a c.in-WithinValues.b c.in-WithinValues.is
    ∙ ap (λ k. form.WithinValues k (core c.in-WithinValues.b)) (sym (ap core c.get-first-in-WithinValues.ensures))
    ∙ ap (λ k. form.WithinValues (core c.get-first-in-WithinValues.result.now) k)
    (sym (ap core c.get-second-in-WithinValues.ensures)) in
    let w = ap (core_weight c.args.ground.now.scopes.now) e in
    let two = c.sides_are_within-in-WithinValues.ensures in
    let within = c.values_are_within-in-WithinValues.ensures in
    extends_within _ _ _ _ (omega (arith, w, within))
    (extends_trans _ _ _ _ _
    (extends_trans _ _ _ _ _ c.in_ok-left-in-WithinValues.ensures.extends
    c.in_ok-right-in-WithinValues.ensures.extends) c.in_ok-wire-in-WithinValues.ensures.extends)

pub side-returns-in_ok-parts-2-clause-side : goal.side-returns-in_ok-parts-2-clause-side
side-returns-in_ok-parts-2-clause-side t c =
    node_side c.in_ok-set.ensures.nodes
    (else_set (core c.args.expr.now) c.requires.form (sym c.is_numeric.ensures ∙ c.if-is_numeric.false))
    c.in_ok-parts-2.ensures.parts c.in_ok-parts-2.ensures.narrow c.in_ok-parts-2.ensures.few
    c.in_ok-parts-2.ensures.values

pub tests_at-loop-tuple-preserved : goal.tests_at-loop-tuple-preserved
tests_at-loop-tuple-preserved t c =
    let i = c.loop-tuple.tuple-index in
    let w = core_weight c.args.ground.now.scopes.now (core c.args.body.now) in record {
      extends =
          extends_within _ _ _ _ (omega arith)
          (extends_trans _ _ _ _ _ c.loop-tuple.invariant.extends c.in_ok-wire.ensures.extends);
      tests =
          subst (λ (ws : List Wire). AreTestsOf c.test_at.new.circuit c.args.ground.now.layout.now
          (core c.args.body.now) c.args.bound.now (take (i + 1) c.args.tuples.now) ws) (sym c.in_ok-push.ensures.ok)
          (tests_more c.loop-tuple.circuit c.test_at.new.circuit _ c.args.ground.now.layout.now (core c.args.body.now)
          c.args.bound.now c.args.tuples.now i c.tuple-item.result c.loop-tuple.tests c.in_ok-wire.wire
          c.loop-tuple-test.true c.in_ok-wire.ensures.extends c.loop-tuple.invariant.tests
          (subst (λ (u : Tuple). IsTruthOf c.test_at.new.circuit c.args.ground.now.layout.now (core c.args.body.now)
          (c.args.bound.now ++ u.slots) c.in_ok-wire.wire) c.tuple-item.is c.in_ok-wire.ensures.truth));
    }

pub quantified-quantifier_is_formed-requires-clause-form : goal.quantified-quantifier_is_formed-requires-clause-form
quantified-quantifier_is_formed-requires-clause-form t c =
    core-Quant c.args.expr.now c.in-Quant.word c.in-Quant.disj c.in-Quant.names c.in-Quant.over c.in-Quant.body
    c.in-Quant.is ∙ ap (λ k. form.Quant c.in-Quant.word c.in-Quant.disj c.in-Quant.names k (core c.in-Quant.body))
    (sym (ap core c.get-range.ensures))
    ∙ ap (λ k. form.Quant c.in-Quant.word c.in-Quant.disj c.in-Quant.names (core c.get-range.result.now) k)
    (sym (ap core c.get-tested.ensures))

pub quantified-tests_have_room-requires-clause-named : goal.quantified-tests_have_room-requires-clause-named
quantified-tests_have_room-requires-clause-named t c =
    named_each c.tuples_of.new.circuit c.encode_nodes.new.circuit c.in_ok-set-in-Quant.set c.in-Quant.disj
    c.in-Quant.names c.in_ok-tuples-in-Quant.tuples c.in_ok-tuples-in-Quant.ensures.tuples

pub quantified-tests_have_room-requires-clause-each : goal.quantified-tests_have_room-requires-clause-each
quantified-tests_have_room-requires-clause-each t c =
    c.as_slice-each.ensures

pub quantified-tests_have_room-requires-clause-laid : goal.quantified-tests_have_room-requires-clause-laid
quantified-tests_have_room-requires-clause-laid t c =
    laid_stays _ _ _ c.args.ground.now.layout.now
    (extends_trans _ _ _ _ _ c.in_ok-set-in-Quant.ensures.extends c.in_ok-tuples-in-Quant.ensures.extends)
    c.requires.laid

pub quantified-tests_have_room-requires-clause-room : goal.quantified-tests_have_room-requires-clause-room
quantified-tests_have_room-requires-clause-room t c =
    let w = c.quantifier_is_formed.ensures.weight in
    let most = c.tests_are_within.ensures in
    let x = (extends_trans _ _ _ _ _ c.in_ok-set-in-Quant.ensures.extends c.in_ok-tuples-in-Quant.ensures.extends) in
    omega (arith, c.requires.room, w, most, x.at_most)

pub quantified-returns-in_err-tests-in-Quant-clause-extends : goal.quantified-returns-in_err-tests-in-Quant-clause-extends
quantified-returns-in_err-tests-in-Quant-clause-extends t c =
    let e =
    core-Quant c.args.expr.now c.in-Quant.word c.in-Quant.disj c.in-Quant.names c.in-Quant.over c.in-Quant.body
    c.in-Quant.is ∙ ap (λ k. form.Quant c.in-Quant.word c.in-Quant.disj c.in-Quant.names k (core c.in-Quant.body))
    (sym (ap core c.get-range.ensures))
    ∙ ap (λ k. form.Quant c.in-Quant.word c.in-Quant.disj c.in-Quant.names (core c.get-range.result.now) k)
    (sym (ap core c.get-tested.ensures)) in
    let w = ap (core_weight c.args.ground.now.scopes.now) e in
    let most = c.tests_are_within.ensures in
    extends_within _ _ _ _ (omega (arith, w, most))
    (extends_trans _ _ _ _ _
    (extends_trans _ _ _ _ _ c.in_ok-set-in-Quant.ensures.extends c.in_ok-tuples-in-Quant.ensures.extends)
    (subst (λ (ts : List Tuple). Extends c.tuples_of.new.circuit c.tests_at.new.circuit
    (length ts * core_weight c.args.ground.now.scopes.now (core c.get-tested.result.now))) c.as_slice-each.ensures
    c.in_err-tests-in-Quant.ensures.extends))

pub quantified-returns-in_err-wire-in-Quant-clause-extends : goal.quantified-returns-in_err-wire-in-Quant-clause-extends
quantified-returns-in_err-wire-in-Quant-clause-extends t c =
    let e =
    core-Quant c.args.expr.now c.in-Quant.word c.in-Quant.disj c.in-Quant.names c.in-Quant.over c.in-Quant.body
    c.in-Quant.is ∙ ap (λ k. form.Quant c.in-Quant.word c.in-Quant.disj c.in-Quant.names k (core c.in-Quant.body))
    (sym (ap core c.get-range.ensures))
    ∙ ap (λ k. form.Quant c.in-Quant.word c.in-Quant.disj c.in-Quant.names (core c.get-range.result.now) k)
    (sym (ap core c.get-tested.ensures)) in
    let w = ap (core_weight c.args.ground.now.scopes.now) e in
    let most = c.tests_are_within.ensures in
    extends_within _ _ _ _ (omega (arith, w, most))
    (extends_trans _ _ _ _ _
    (extends_trans _ _ _ _ _
    (extends_trans _ _ _ _ _ c.in_ok-set-in-Quant.ensures.extends c.in_ok-tuples-in-Quant.ensures.extends)
    (subst (λ (ts : List Tuple). Extends c.tuples_of.new.circuit c.tests_at.new.circuit
    (length ts * core_weight c.args.ground.now.scopes.now (core c.get-tested.result.now))) c.as_slice-each.ensures
    c.in_ok-tests-in-Quant.ensures.extends)) c.in_err-wire-in-Quant.ensures.extends)

pub quantified-returns-clause-extends : goal.quantified-returns-clause-extends
quantified-returns-clause-extends t c =
    let e =
    core-Quant c.args.expr.now c.in-Quant.word c.in-Quant.disj c.in-Quant.names c.in-Quant.over c.in-Quant.body
    c.in-Quant.is ∙ ap (λ k. form.Quant c.in-Quant.word c.in-Quant.disj c.in-Quant.names k (core c.in-Quant.body))
    (sym (ap core c.get-range.ensures))
    ∙ ap (λ k. form.Quant c.in-Quant.word c.in-Quant.disj c.in-Quant.names (core c.get-range.result.now) k)
    (sym (ap core c.get-tested.ensures)) in
    let w = ap (core_weight c.args.ground.now.scopes.now) e in
    let most = c.tests_are_within.ensures in
    extends_within _ _ _ _ (omega (arith, w, most))
    (extends_trans _ _ _ _ _
    (extends_trans _ _ _ _ _
    (extends_trans _ _ _ _ _ c.in_ok-set-in-Quant.ensures.extends c.in_ok-tuples-in-Quant.ensures.extends)
    (subst (λ (ts : List Tuple). Extends c.tuples_of.new.circuit c.tests_at.new.circuit
    (length ts * core_weight c.args.ground.now.scopes.now (core c.get-tested.result.now))) c.as_slice-each.ensures
    c.in_ok-tests-in-Quant.ensures.extends)) c.in_ok-wire-in-Quant.ensures.extends)

pub quantified-returns-clause-truth : goal.quantified-returns-clause-truth
quantified-returns-clause-truth t c =
    let e =
    core-Quant c.args.expr.now c.in-Quant.word c.in-Quant.disj c.in-Quant.names c.in-Quant.over c.in-Quant.body
    c.in-Quant.is ∙ ap (λ k. form.Quant c.in-Quant.word c.in-Quant.disj c.in-Quant.names k (core c.in-Quant.body))
    (sym (ap core c.get-range.ensures))
    ∙ ap (λ k. form.Quant c.in-Quant.word c.in-Quant.disj c.in-Quant.names (core c.get-range.result.now) k)
    (sym (ap core c.get-tested.ensures)) in
    let told_of = λ (bits : List Bool). told c.args.ground.now.layout.now bits in
    let nodes = c.in_ok-set-in-Quant.ensures.nodes in
    let tests =
    subst (λ (us : List Tuple). AreTestsOf c.tests_at.new.circuit c.args.ground.now.layout.now
    (core c.get-tested.result.now) c.args.bound.now us c.in_ok-tests-in-Quant.tests) c.as_slice-each.ensures
    c.in_ok-tests-in-Quant.ensures.tests in
    let tuples =
    c.tuples_stay.ensures c.encode_nodes.new.circuit c.tuples_of.new.circuit c.tests_at.new.circuit _
    c.in_ok-set-in-Quant.set c.in-Quant.disj c.in-Quant.names c.in_ok-tuples-in-Quant.tuples
    c.in_ok-tuples-in-Quant.ensures.tuples
    (subst (λ (ts : List Tuple). Extends c.tuples_of.new.circuit c.tests_at.new.circuit
    (length ts * core_weight c.args.ground.now.scopes.now (core c.get-tested.result.now))) c.as_slice-each.ensures
    c.in_ok-tests-in-Quant.ensures.extends) in
    truth_as c.args.ground.now.layout.now (core c.args.expr.now)
    (form.Quant c.in-Quant.word c.in-Quant.disj c.in-Quant.names (core c.get-range.result.now)
    (core c.get-tested.result.now)) e (record {
      wire = c.in_ok-wire-in-Quant.ensures.wire;
      value = λ bits.
          c.in_ok-wire-in-Quant.ensures.value bits
          ∙ c.quantified_tuples_are_tried.ensures c.in-Quant.word c.in-Quant.disj c.in-Quant.names
          c.args.ground.now.layout.now
          (told_set (told c.args.ground.now.layout.now bits (core c.get-range.result.now) c.args.bound.now))
          (λ ss. told_truth (told c.args.ground.now.layout.now bits (core c.get-tested.result.now)
          (c.args.bound.now ++ ss))) c.encode_nodes.new.circuit c.tests_at.new.circuit c.in_ok-set-in-Quant.set
          c.in_ok-tuples-in-Quant.tuples (wire_values c.tests_at.new.circuit c.in_ok-tests-in-Quant.tests bits)
          bits tuples nodes.set.ascending nodes.below (λ s. nodes.value bits s) (tests.value bits);
    })
