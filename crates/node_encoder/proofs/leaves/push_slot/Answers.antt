use Rattle.std.proofs.Common.{◌∙◌, sym}
use Rattle.node_encoder.proofs.Living.{own_wire_is, no_wire}
use Rattle.node_encoder.proofs.leaves.push_slot.Goals as goal

pub returns-in_ok-push-in-Some : goal.returns-in_ok-push-in-Some
returns-in_ok-push-in-Some c = own_wire_is c.args.layout.now c.args.slot c.in-Some.here c.args.set.now c.push.new.self (sym c.own_wire.ensures ∙ c.in-Some.is) c.in_ok-push-in-Some.ensures.ok

pub returns-in-None : goal.returns-in-None
returns-in-None c = no_wire c.args.layout.now c.args.slot c.args.set.now (sym c.own_wire.ensures ∙ c.in-None.is)
