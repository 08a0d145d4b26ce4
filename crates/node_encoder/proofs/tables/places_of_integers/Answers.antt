use Rattle.node_encoder.proofs.Filling.{no_places, place_more}
use Rattle.node_encoder.proofs.tables.places_of_integers.Goals as goal

pub loop-at-init : goal.loop-at-init
loop-at-init c = no_places c.args.layout.now.values c.new-table.result.items c.new-table.ensures.items

pub loop-at-preserved : goal.loop-at-preserved
loop-at-preserved c = place_more c.args.layout.now.values c.loop-at.at c.get.result.now c.loop-at.table.items c.put_first.new.table.items c.get.ensures c.loop-at.invariant c.in_ok-put_first.ensures
