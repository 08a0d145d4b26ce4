use Rattle.std.proofs.Common.{List, [], ◌∷◌, ◌++◌, ◌∙◌, ap}
use Rattle.set_bits.specs.declared.sets.Member.{Member}
use Rattle.node_encoder.proofs.Living.{one_slot_is}
use Rattle.node_encoder.proofs.leaves.one_slot.Goals as goal

pub returns-clause-one : goal.returns-clause-one
returns-clause-one c = one_slot_is c.constant.new.self c.args.slot c.in_ok-here.here c.push.new.self c.in_ok-here.ensures.wire c.in_ok-here.ensures.value (c.in_ok-push.ensures.ok ∙ ap (λ (xs : List Member). xs ++ record { slot = c.args.slot; here = c.in_ok-here.here } ∷ []) c.new-set.ensures)
