use Rattle.model_weight.proofs.RoomSums.{rooms_more, rooms_kept}
use Rattle.model_weight.proofs.rooms.add_room.Goals as goal

pub returns-then-get-clause-below : goal.returns-then-get-clause-below
returns-then-get-clause-below c = rooms_kept c.args.clafers.now c.args.scopes.now c.args.clafer c.args.sums.now c.get.result.now c.get.ensures c.if-get.true

pub returns-clause-below : goal.returns-clause-below
returns-clause-below c = λ before.
    rooms_more c.args.clafers.now c.args.scopes.now c.args.clafer c.scope_at-scope.result c.args.sums.now c.add_above.new.sums c.get.result.now c.requires.closed c.requires.acyclic
    c.requires.within c.get.ensures c.if-get.false c.scope_at-scope.ensures before c.add_above.ensures.added
