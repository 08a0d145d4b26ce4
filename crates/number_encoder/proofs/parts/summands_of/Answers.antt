use Rattle.number_encoder.specs.Values.{summand_for}
use Rattle.number_encoder.proofs.Pushed.{flat_more}
use Rattle.number_encoder.proofs.parts.summands_of.Goals as goal

pub loop-at-preserved : goal.loop-at-preserved
loop-at-preserved c =
    flat_more (summand_for c.args.ground.now.layout.now) c.args.set.now c.loop-at.at c.get-member.result.now c.loop-at.parts c.push_summand.new.parts c.get-member.ensures c.loop-at.invariant c.in_ok-push_summand.ensures
