use Rattle.std.proofs.Common.{◌∙◌, sym, ap, length, List, [], ◌∷◌, ◌++◌, ℕ, arith}
use Rattle.clf_tree.specs.Lists.{has}
use Rattle.clf_tree.specs.Hierarchy.{concrete_below}
use Rattle.set_bits.specs.Fitting.{slot_clafer}
use Rattle.instance_encoder.proofs.Below.{slot_marked, filter_kept, filter_dropped}
use Rattle.instance_encoder.proofs.Slots.{known_at}
use Rattle.instance_encoder.proofs.near.slots_below.Goals as goal
use Rattle.instance_encoder.proofs.near.slots_below.Goals.{then-index+in_ok-push, else-index}

pub index-requires : goal.index-requires
index-requires c = omega (arith, c.in_ok-marks.ensures.len, known_at (length c.args.clafers.now) c.args.slots.now c.loop-slot.slot c.get.result.now c.requires.known c.get.ensures)

pub loop-slot-preserved : goal.loop-slot-preserved
loop-slot-preserved c =
    let known = known_at (length c.args.clafers.now) c.args.slots.now c.loop-slot.slot c.get.result.now c.requires.known c.get.ensures in
    let here = slot_marked c.args.clafers.now c.args.slots.now c.args.high c.loop-slot.slot c.get.result.now c.in_ok-marks.marks.items c.index.result.now c.in_ok-marks.ensures.marks c.get.ensures known c.index.ensures in
    elim c.if-index.branch [
      | then-index+in_ok-push w ↦
          w.found-is ∙ w.in_ok-push.ensures.ok ∙ ap (λ (xs : List ℕ). xs ++ c.loop-slot.slot ∷ []) c.loop-slot.invariant
          ∙ sym (filter_kept (λ j. has (concrete_below c.args.clafers.now c.args.high) (slot_clafer c.args.slots.now j)) c.loop-slot.slot (here ∙ w.if-index.true))
      | else-index w ↦
          w.found-is ∙ c.loop-slot.invariant
          ∙ sym (filter_dropped (λ j. has (concrete_below c.args.clafers.now c.args.high) (slot_clafer c.args.slots.now j)) c.loop-slot.slot (here ∙ w.if-index.false))
    ]
