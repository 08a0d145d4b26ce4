-- Both operands are formed sets of nodes.
use Rattle.std.proofs.Common.{length, ap, ◌∙◌}
use Rattle.clf_tree.specs.Core.{core}
use Rattle.clf_tree.specs.CoreSoundness.{is_set, sort}
use Rattle.clf_tree.specs.CoreWeights.{core_weight}
use Rattle.told_constraints.specs.Formed.{is_formed}
use Rattle.constraint_encoder.proofs.Parts.{two_sets_parts}
use Rattle.constraint_encoder.proofs.operands.sets_are_formed.Goals as goal

pub returns-clause-left_set : goal.returns-clause-left_set
returns-clause-left_set c = ap (λ k. is_set (sort k)) c.requires.left
    ∙ (two_sets_parts (core c.args.expr.now) (length c.args.bound.now) c.requires.form c.requires.formed).0.0

pub returns-clause-left_formed : goal.returns-clause-left_formed
returns-clause-left_formed c = ap (λ k. is_formed k (length c.args.bound.now)) c.requires.left
    ∙ (two_sets_parts (core c.args.expr.now) (length c.args.bound.now) c.requires.form c.requires.formed).0.1

pub returns-clause-left_weight : goal.returns-clause-left_weight
returns-clause-left_weight c = ap (core_weight c.args.ground.now.scopes.now) c.requires.left

pub returns-clause-right_set : goal.returns-clause-right_set
returns-clause-right_set c = ap (λ k. is_set (sort k)) c.requires.right
    ∙ (two_sets_parts (core c.args.expr.now) (length c.args.bound.now) c.requires.form c.requires.formed).1.0

pub returns-clause-right_formed : goal.returns-clause-right_formed
returns-clause-right_formed c = ap (λ k. is_formed k (length c.args.bound.now)) c.requires.right
    ∙ (two_sets_parts (core c.args.expr.now) (length c.args.bound.now) c.requires.form c.requires.formed).1.1

pub returns-clause-right_weight : goal.returns-clause-right_weight
returns-clause-right_weight c = ap (core_weight c.args.ground.now.scopes.now) c.requires.right
