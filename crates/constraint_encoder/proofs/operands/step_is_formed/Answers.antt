-- A step goes from a formed set of nodes, which is lighter than the step.
use Rattle.std.proofs.Common.{length, ap, ◌∙◌, arith}
use Rattle.clf_tree.specs.Core.{core}
use Rattle.clf_tree.specs.CoreSoundness.{is_set, sort}
use Rattle.clf_tree.specs.CoreWeights.{core_weight}
use Rattle.told_constraints.specs.Formed.{is_formed}
use Rattle.constraint_encoder.proofs.Parts.{step_parts, step_light}
use Rattle.constraint_encoder.proofs.operands.step_is_formed.Goals as goal

pub returns-clause-set : goal.returns-clause-set
returns-clause-set c = ap (λ k. is_set (sort k)) c.requires.of
    ∙ (step_parts (core c.args.expr.now) (length c.args.bound.now) c.requires.form c.requires.formed).0

pub returns-clause-formed : goal.returns-clause-formed
returns-clause-formed c = ap (λ k. is_formed k (length c.args.bound.now)) c.requires.of
    ∙ (step_parts (core c.args.expr.now) (length c.args.bound.now) c.requires.form c.requires.formed).1

pub returns-clause-light : goal.returns-clause-light
returns-clause-light c =
    let scopes = c.args.ground.now.scopes.now in
    let same = ap (core_weight scopes) c.requires.of in
    let light = step_light scopes (core c.args.expr.now) c.requires.form in
    omega (arith, same, light)
