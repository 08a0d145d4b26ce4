use Rattle.std.proofs.Common.{List, ℕ, length, get_or, ap, ◌∙◌}
use Rattle.model_weight.proofs.RoomSums.{written, rooms_small}
use Rattle.model_weight.proofs.rooms.node_sums.Goals as goal

pub loop-clafer-preserved : goal.loop-clafer-preserved
loop-clafer-preserved c =
    let before = c.loop-clafer.invariant in
    let now = written c.loop-clafer.sums.len c.add_room.new.sums c.loop-clafer.sums.items (c.add_room.ensures.long ∙ c.as_mut_slice.ensures.len) in
    record {
      long = ap length now ∙ c.add_room.ensures.long ∙ ap length c.as_mut_slice.ensures.value ∙ before.long;
      below = λ d. ap (λ (xs : List ℕ). get_or xs d 0) now ∙ c.add_room.ensures.below (λ e. ap (λ (xs : List ℕ). get_or xs e 0) c.as_mut_slice.ensures.value ∙ before.below e) d;
      small = λ d. rooms_small c.args.clafers.now c.args.scopes.now c.loop-clafer.clafer d c.add_room.ensures.small (before.small d);
    }
