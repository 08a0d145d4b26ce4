use Rattle.set_bits.specs.declared.sets.Member.{Member}
use Rattle.node_encoder.proofs.Loops.{map_step}
use Rattle.node_encoder.proofs.amounts.wires_of.Goals as goal

pub loop-at-preserved : goal.loop-at-preserved
loop-at-preserved c = map_step (λ (m : Member). m.here) c.args.set.now c.loop-at.at c.get-member.result.now c.loop-at.wires c.push.new.self c.get-member.ensures c.loop-at.invariant c.in_ok-push.ensures.ok
