use Rattle.std.proofs.Common.{◌+◌, sym, subst, ◌∙◌}
use Rattle.shape_encoder.specs.Counting.{is_marked, AreCountedLive}
use Rattle.shape_encoder.proofs.Bounding.{live_more, live_skips}
use Rattle.shape_encoder.proofs.limits.live_wires.Goals as goal
use Rattle.shape_encoder.proofs.limits.live_wires.Goals.{then-is_marked+in_ok-push, else-is_marked}

pub loop-slot-preserved : goal.loop-slot-preserved
loop-slot-preserved c = elim c.if-is_marked.branch [
  | then-is_marked+in_ok-push w ↦
      subst (AreCountedLive c.args.layout.now (is_marked c.args.marks.now.items) (c.loop-slot.slot + 1)) (sym (w.wires-is ∙ w.in_ok-push.ensures.ok))
      (live_more c.args.layout.now (is_marked c.args.marks.now.items) c.loop-slot.slot c.get.result.now w.get-then-is_marked.result.now c.loop-slot.wires c.get.ensures (sym c.is_marked.ensures ∙ w.if-is_marked.true) w.get-then-is_marked.ensures c.loop-slot.invariant)
  | else-is_marked w ↦
      subst (AreCountedLive c.args.layout.now (is_marked c.args.marks.now.items) (c.loop-slot.slot + 1)) (sym w.wires-is)
      (live_skips c.args.layout.now (is_marked c.args.marks.now.items) c.loop-slot.slot c.get.result.now c.loop-slot.wires c.get.ensures (sym c.is_marked.ensures ∙ w.if-is_marked.false) c.loop-slot.invariant)
]
