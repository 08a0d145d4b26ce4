-- The set weighs no more than the quantifier.
use Rattle.std.proofs.Common.{arith}
use Rattle.clf_tree.specs.Core.{core}
use Rattle.clf_tree.specs.CoreSoundness.{sort}
use Rattle.clf_tree.specs.CoreWeights.{core_weight, most_nodes}
use Rattle.constraint_encoder.proofs.weights.ranges_are_within.Goals as goal

-- over no member at all
pub returns : goal.returns
returns c =
    let scopes = c.args.ground.now.scopes.now in
    let whole =
    c.quantifiers_are_within_their_weight.ensures c.args.word 0 (most_nodes scopes (sort (core c.args.over.now)))
    c.args.names (core_weight scopes (core c.args.body.now)) (core_weight scopes (core c.args.over.now)) 0
    (omega arith) (omega arith) in
    omega (arith, whole)
