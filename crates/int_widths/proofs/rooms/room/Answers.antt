use Rattle.std.proofs.Common.{◌+◌, ◌∙◌, ap, sym, arith}
use Rattle.int_widths.proofs.ScopeSums.{room_below, room_more}
use Rattle.int_widths.proofs.rooms.room.Goals as goal

pub loop-clafer-preserved : goal.loop-clafer-preserved
loop-clafer-preserved c =
    let before = c.loop-clafer.invariant in (
      ap (λ n. n + c.counted.result) before.0 ∙ ap (λ n. room_below c.args.clafers.now c.args.scopes.now c.args.ks.now c.loop-clafer.clafer + n) c.counted.ensures
          ∙ sym (room_more c.args.clafers.now c.args.scopes.now c.args.ks.now c.loop-clafer.clafer),
      omega (arith, before.1),
    )
