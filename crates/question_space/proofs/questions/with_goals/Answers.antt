use Rattle.std.proofs.Common.{subst, sym, arith}
use Rattle.std.specs.Prelude.{List, IsTrue}
use Rattle.clf_tree.specs.declared.model.Clafer.{Clafer}
use Rattle.set_bits.specs.Fitting.{Fits}
use Rattle.shown_instance.specs.Consistent.{abstract_are_empty}
use Rattle.question_space.specs.Wiring.{wires_cost}
use Rattle.question_space.proofs.Growing.{has_goals}
use Rattle.question_space.proofs.Known.{range_is_right}
use Rattle.question_space.proofs.questions.with_goals.Goals as goal

pub goals-requires-clause-fits : goal.goals-requires-clause-fits
goals-requires-clause-fits c =
    subst (λ (cs : List Clafer). Fits cs c.args.read.now.scopes c.args.layout.now) (sym c.requires.lowered.same) c.requires.placed.fits

pub goals-requires-clause-empty : goal.goals-requires-clause-empty
goals-requires-clause-empty c =
    subst (λ (cs : List Clafer). IsTrue (abstract_are_empty cs c.args.read.now.scopes))
    (sym c.requires.lowered.same) c.requires.placed.empty

pub goals-requires-clause-room : goal.goals-requires-clause-room
goals-requires-clause-room c =
    let read = c.args.read.now in
    let light = c.goals_are_within_the_weight.ensures read.model read.scopes c.args.layout.now c.args.core.now.truths
    c.args.core.now.goals c.requires.placed.fits c.requires.placed.empty
    c.model-plan.ensures.known.inherits_abstract (range_is_right read.scopes read.range) c.requires.lowered.light
    c.requires.lowered.light_goals (omega (arith, read.weighs, read.light)) in
    omega (arith, light, read.weighs, read.light, c.in_ok-ruled.ensures.few)

pub returns : goal.returns
returns c =
    let read = c.args.read.now in
    let light = c.goals_are_within_the_weight.ensures read.model read.scopes c.args.layout.now c.args.core.now.truths
    c.args.core.now.goals c.requires.placed.fits c.requires.placed.empty
    c.model-plan.ensures.known.inherits_abstract (range_is_right read.scopes read.range) c.requires.lowered.light
    c.requires.lowered.light_goals (omega (arith, read.weighs, read.light)) in
    has_goals (record {
      shaped = c.shaped_bits_show_a_tree.ensures;
      alone = c.the_told_instance_alone_is_shown.ensures;
      spelled = c.each_instance_has_bits.ensures;
      tested = c.canonical_slots_show_canonical_instances.ensures.shown;
      canonical = c.each_instance_has_a_canonical_one.ensures.satisfying;
    })
    read.model read.scopes (wires_cost read.model read.scopes c.args.layout.now c.args.core.now.truths) read.weight c.args.core.now
    c.args.layout.now c.with_rules.new.circuit c.goals.new.circuit
    c.in_ok-ruled.ruled.structure c.in_ok-ruled.ruled.rules c.in_ok-ruled.ruled.whole c.in_ok-numbers.numbers c.requires.lowered
    c.in_ok-ruled.ensures c.in_ok-numbers.ensures (omega (arith, light, read.weighs))
