use Rattle.std.proofs.Common.{arith}
use Rattle.instance_encoder.proofs.Slots.{slots_known, slots_total}
use Rattle.instance_encoder.proofs.nodes.slots.Goals as goal

pub returns-clause-known : goal.returns-clause-known
returns-clause-known c = slots_known c.args.clafers.now c.args.scopes.now c.in_ok-slots.slots c.in_ok-slots.ensures

pub returns-clause-few : goal.returns-clause-few
returns-clause-few c = omega (arith, c.requires.few, slots_total c.args.clafers.now c.args.scopes.now c.in_ok-slots.slots c.in_ok-slots.ensures c.requires.fitting)

pub returns-clause-total : goal.returns-clause-total
returns-clause-total c = omega (arith, slots_total c.args.clafers.now c.args.scopes.now c.in_ok-slots.slots c.in_ok-slots.ensures c.requires.fitting)
