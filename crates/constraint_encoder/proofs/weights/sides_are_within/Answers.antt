-- A comparison of values weighs 6 at least.
use Rattle.std.proofs.Common.{arith}
use Rattle.clf_tree.specs.Core.{core}
use Rattle.clf_tree.specs.CoreSoundness.{sort}
use Rattle.constraint_encoder.proofs.weights.sides_are_within.Goals as goal

-- no value at all is compared
pub returns : goal.returns
returns c =
    let whole =
    c.numbers_stay_within_weights.ensures.values c.args.ground.now.scopes.now (sort (core c.args.a.now))
    (sort (core c.args.b.now)) 0 0 0 0 (omega arith) (omega arith) (omega arith) (omega arith) in
    omega (arith, whole)
