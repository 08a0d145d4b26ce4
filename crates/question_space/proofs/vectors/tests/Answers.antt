use Rattle.std.proofs.Common.{List, length, subst}
use Rattle.clf_tree.specs.declared.vector.Vector.{Vector}
use Rattle.question_space.specs.Comparisons.{AreBlocks}
use Rattle.question_space.proofs.vectors.tests.Goals as goal
use Rattle.question_space.proofs.Blocking.{tests_with, tests_without}

pub returns-in_ok-push-in-Some : goal.returns-in_ok-push-in-Some
returns-in_ok-push-in-Some c =
    tests_with c.args.circuit.now c.args.goals.now c.args.numbers.now c.args.question.now c.blocks-2.new.circuit c.in_ok-wires.wires
    c.in-Some.vector c.as_slice-in-Some.result.now c.improves.new.circuit c.in_ok-wire-in-Some.wire c.push.new.self
    (subst (λ (fs : List Vector). AreBlocks c.args.circuit.now c.args.goals.now c.args.numbers.now fs
    (length fs) c.blocks-2.new.circuit c.in_ok-wires.wires) c.as_slice.ensures c.in_ok-wires.ensures)
    c.requires.numbers c.in-Some.is c.as_slice-in-Some.ensures c.in_ok-wire-in-Some.ensures.extends c.in_ok-wire-in-Some.ensures.wire
    c.in_ok-wire-in-Some.ensures.value c.in_ok-push-in-Some.ensures.ok

pub returns-in-None : goal.returns-in-None
returns-in-None c =
    tests_without c.args.circuit.now c.args.goals.now c.args.numbers.now c.args.question.now c.blocks-2.new.circuit c.in_ok-wires.wires
    (subst (λ (fs : List Vector). AreBlocks c.args.circuit.now c.args.goals.now c.args.numbers.now fs
    (length fs) c.blocks-2.new.circuit c.in_ok-wires.wires) c.as_slice.ensures c.in_ok-wires.ensures)
    c.in-None.is
