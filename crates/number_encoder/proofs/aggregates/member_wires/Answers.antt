use Rattle.std.proofs.Common.{refl}
use Rattle.set_bits.specs.declared.sets.Member.{Member}
use Rattle.number_encoder.proofs.Pushed.{mapped_more}
use Rattle.number_encoder.proofs.aggregates.member_wires.Goals as goal

pub loop-at-preserved : goal.loop-at-preserved
loop-at-preserved c =
    mapped_more (λ (m : Member). m.here) c.args.set.now c.loop-at.at c.get.result.now c.loop-at.wires c.push.new.self c.get.result.now.here c.get.ensures c.loop-at.invariant c.in_ok-push.ensures.ok refl
