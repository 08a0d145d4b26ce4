use Rattle.shape_encoder.proofs.Placed.{land_more, lands_known}
use Rattle.shape_encoder.proofs.placement.lead_to_live.Goals as goal

pub get-there-requires : goal.get-there-requires
get-there-requires c = lands_known c.args.live.now c.args.edges.now c.loop-at.at c.get-edge.result.now c.requires.known c.get-edge.ensures

pub loop-at-preserved : goal.loop-at-preserved
loop-at-preserved c =
    land_more c.args.circuit.now c.loop-at.circuit c.leads_from_live.new.circuit c.and.new.self c.args.live.now c.args.edges.now c.loop-at.at c.get-edge.result.now c.get-there.result.now c.loop-at.all c.in_ok-right.right c.in_ok-all-2.all
    c.requires.live_bits c.requires.bits c.get-edge.ensures c.get-there.ensures c.loop-at.invariant c.in_ok-right.ensures.extends c.in_ok-all-2.ensures.extends c.in_ok-all-2.ensures.wire c.in_ok-right.ensures.value c.in_ok-all-2.ensures.value
