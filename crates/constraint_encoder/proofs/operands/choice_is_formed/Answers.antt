-- The test of a choice is a formed truth, and lighter than the choice.
use Rattle.std.proofs.Common.{length, ap, ◌∙◌, arith}
use Rattle.clf_tree.specs.Core.{core}
use Rattle.clf_tree.specs.CoreSoundness.{is_test, sort}
use Rattle.clf_tree.specs.CoreWeights.{core_weight}
use Rattle.told_constraints.specs.Formed.{is_formed}
use Rattle.constraint_encoder.proofs.Parts.{choice_test_parts, choice_light}
use Rattle.constraint_encoder.proofs.operands.choice_is_formed.Goals as goal

pub returns-clause-truth : goal.returns-clause-truth
returns-clause-truth c = ap (λ k. is_test (sort k)) c.requires.test
    ∙ (choice_test_parts (core c.args.expr.now) (length c.args.bound.now) c.requires.form c.requires.formed).0

pub returns-clause-formed : goal.returns-clause-formed
returns-clause-formed c = ap (λ k. is_formed k (length c.args.bound.now)) c.requires.test
    ∙ (choice_test_parts (core c.args.expr.now) (length c.args.bound.now) c.requires.form c.requires.formed).1

pub returns-clause-light : goal.returns-clause-light
returns-clause-light c =
    let scopes = c.args.ground.now.scopes.now in
    let same = ap (core_weight scopes) c.requires.test in
    let light = choice_light scopes (core c.args.expr.now) c.requires.form in
    omega (arith, same, light)
