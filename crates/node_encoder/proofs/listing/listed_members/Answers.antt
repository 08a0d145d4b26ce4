use Rattle.std.proofs.Common.{[]}
use Rattle.set_bits.specs.declared.sets.Member.{Member}
use Rattle.told_constraints.specs.Told.{is_listed}
use Rattle.node_encoder.proofs.Loops.{filter_step}
use Rattle.node_encoder.proofs.listing.listed_members.Goals as goal

pub loop-at-preserved : goal.loop-at-preserved
loop-at-preserved c =
    filter_step (λ (m : Member). is_listed c.args.layout.now c.args.ks.now m.slot) [] c.args.set.now c.loop-at.at c.get-member.result.now c.loop-at.found c.push_member.new.found c.get-member.ensures c.loop-at.invariant c.in_ok-push_member.ensures
