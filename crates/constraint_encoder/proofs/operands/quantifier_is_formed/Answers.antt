-- What a quantifier goes over is a formed set of nodes, and its body a formed truth with its names bound.
use Rattle.std.proofs.Common.{◌+◌, length, ap, sym, ◌∙◌}
use Rattle.clf_tree.specs.Core.{core}
use Rattle.clf_tree.specs.CoreSoundness.{is_set, is_test, sort}
use Rattle.clf_tree.specs.CoreWeights.{core_weight}
use Rattle.told_constraints.specs.Formed.{is_formed}
use Rattle.constraint_encoder.proofs.Parts.{pair_parts}
use Rattle.constraint_encoder.proofs.operands.quantifier_is_formed.Goals as goal

pub returns-clause-set : goal.returns-clause-set
returns-clause-set c =
    (pair_parts (is_set (sort (core c.args.over.now))) (is_test (sort (core c.args.body.now)))
    (is_formed (core c.args.over.now) (length c.args.bound.now))
    (is_formed (core c.args.body.now) (length c.args.bound.now + c.args.names))
    (sym (ap (λ k. is_formed k (length c.args.bound.now)) c.requires.form) ∙ c.requires.formed)).0.0

pub returns-clause-set_formed : goal.returns-clause-set_formed
returns-clause-set_formed c =
    (pair_parts (is_set (sort (core c.args.over.now))) (is_test (sort (core c.args.body.now)))
    (is_formed (core c.args.over.now) (length c.args.bound.now))
    (is_formed (core c.args.body.now) (length c.args.bound.now + c.args.names))
    (sym (ap (λ k. is_formed k (length c.args.bound.now)) c.requires.form) ∙ c.requires.formed)).0.1

pub returns-clause-truth : goal.returns-clause-truth
returns-clause-truth c =
    (pair_parts (is_set (sort (core c.args.over.now))) (is_test (sort (core c.args.body.now)))
    (is_formed (core c.args.over.now) (length c.args.bound.now))
    (is_formed (core c.args.body.now) (length c.args.bound.now + c.args.names))
    (sym (ap (λ k. is_formed k (length c.args.bound.now)) c.requires.form) ∙ c.requires.formed)).1.0

pub returns-clause-truth_formed : goal.returns-clause-truth_formed
returns-clause-truth_formed c =
    (pair_parts (is_set (sort (core c.args.over.now))) (is_test (sort (core c.args.body.now)))
    (is_formed (core c.args.over.now) (length c.args.bound.now))
    (is_formed (core c.args.body.now) (length c.args.bound.now + c.args.names))
    (sym (ap (λ k. is_formed k (length c.args.bound.now)) c.requires.form) ∙ c.requires.formed)).1.1

pub returns-clause-weight : goal.returns-clause-weight
returns-clause-weight c = ap (core_weight c.args.ground.now.scopes.now) c.requires.form
