-- Each tuple binds as many slots as the quantifier has names.
use Rattle.std.proofs.Common.{◌≡◌, ◌+◌, ◌*◌, ◌≤◌, true, List, length, sym, ap, subst, ◌∙◌}
use Rattle.std.specs.List.{All}
use Rattle.clf_tree.specs.Core.{core}
use Rattle.clf_tree.specs.CoreWeights.{core_weight}
use Rattle.quantifier_encoder.specs.declared.tuples.Tuple.{Tuple}
use Rattle.told_constraints.specs.Formed.{is_formed}
use Rattle.constraint_encoder.proofs.operands.tests_have_room.Goals as goal

pub returns-clause-formed : goal.returns-clause-formed
returns-clause-formed c =
    subst (All (λ (t : Tuple). is_formed (core c.args.body.now) (length c.args.bound.now + length t.slots) ≡ true))
    (sym c.requires.each)
    (λ k d l. ap (λ n. is_formed (core c.args.body.now) (length c.args.bound.now + n)) (c.requires.named k d l)
    ∙ c.requires.formed)

pub returns-clause-room : goal.returns-clause-room
returns-clause-room c =
    subst (λ (ts : List Tuple). length c.args.circuit.now + length ts
    * core_weight c.args.ground.now.scopes.now (core c.args.body.now) ≤ 268435456) (sym c.requires.each)
    c.requires.room
