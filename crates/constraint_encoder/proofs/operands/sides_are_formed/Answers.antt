-- Both sides are formed and no truths, and the weight is that of the comparison and of both.
use Rattle.std.proofs.Common.{not, ◌+◌, length, ap, sym, ◌∙◌}
use Rattle.clf_tree.specs.Core.{core}
use Rattle.clf_tree.specs.CoreSoundness.{is_test, sort}
use Rattle.clf_tree.specs.CoreWeights.{core_weight, values_weight}
use Rattle.told_constraints.specs.Formed.{is_formed}
use Rattle.constraint_encoder.specs.Operands.{right_of}
use Rattle.constraint_encoder.proofs.Parts.{two_sides_parts, two_sides_weight}
use Rattle.constraint_encoder.proofs.operands.sides_are_formed.Goals as goal

pub returns-clause-left_values : goal.returns-clause-left_values
returns-clause-left_values c = ap (λ k. not (is_test (sort k))) c.requires.left
    ∙ (two_sides_parts (core c.args.expr.now) (length c.args.bound.now) c.requires.form c.requires.formed).0.0

pub returns-clause-left_formed : goal.returns-clause-left_formed
returns-clause-left_formed c = ap (λ k. is_formed k (length c.args.bound.now)) c.requires.left
    ∙ (two_sides_parts (core c.args.expr.now) (length c.args.bound.now) c.requires.form c.requires.formed).0.1

pub returns-clause-right_values : goal.returns-clause-right_values
returns-clause-right_values c = ap (λ k. not (is_test (sort k))) c.requires.right
    ∙ (two_sides_parts (core c.args.expr.now) (length c.args.bound.now) c.requires.form c.requires.formed).1.0

pub returns-clause-right_formed : goal.returns-clause-right_formed
returns-clause-right_formed c = ap (λ k. is_formed k (length c.args.bound.now)) c.requires.right
    ∙ (two_sides_parts (core c.args.expr.now) (length c.args.bound.now) c.requires.form c.requires.formed).1.1

pub returns-clause-weight : goal.returns-clause-weight
returns-clause-weight c =
    let scopes = c.args.ground.now.scopes.now in
    two_sides_weight scopes (core c.args.expr.now) c.requires.form
    ∙ ap (λ k. values_weight scopes (sort k) (sort (right_of (core c.args.expr.now))) + core_weight scopes k
    + core_weight scopes (right_of (core c.args.expr.now))) (sym c.requires.left)
    ∙ ap (λ k. values_weight scopes (sort (core c.args.left.now)) (sort k) + core_weight scopes (core c.args.left.now)
    + core_weight scopes k) (sym c.requires.right)
