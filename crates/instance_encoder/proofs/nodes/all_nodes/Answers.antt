use Rattle.instance_encoder.proofs.Slots.{slots_more}
use Rattle.instance_encoder.proofs.nodes.all_nodes.Goals as goal

pub loop-clafer-preserved : goal.loop-clafer-preserved
loop-clafer-preserved c = slots_more c.args.scopes.now c.loop-clafer.clafer c.get-scope.result.now c.loop-clafer.slots _ c.get-scope.ensures c.loop-clafer.invariant c.in_ok-push_nodes.ensures
