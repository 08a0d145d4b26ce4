use Rattle.number_encoder.specs.Values.{part_for}
use Rattle.number_encoder.proofs.Pushed.{mapped_more}
use Rattle.number_encoder.proofs.parts.parts_with.Goals as goal

pub loop-at-preserved : goal.loop-at-preserved
loop-at-preserved c =
    mapped_more (part_for c.args.ground.now.layout.now c.args.none) c.args.set.now c.loop-at.at c.get-member.result.now c.loop-at.parts c.push.new.self c.in_ok-part.part c.get-member.ensures c.loop-at.invariant c.in_ok-push.ensures.ok c.in_ok-part.ensures
