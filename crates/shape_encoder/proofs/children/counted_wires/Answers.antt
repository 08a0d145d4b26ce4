use Rattle.std.proofs.Common.{List, [], ◌∷◌, ◌++◌, sym, ap, ◌∙◌}
use Rattle.bool_circuit.specs.declared.gate.Wire.{Wire}
use Rattle.shape_encoder.specs.Counting.{is_marked}
use Rattle.shape_encoder.proofs.Tabling.{wires_more, wires_same}
use Rattle.shape_encoder.proofs.children.counted_wires.Goals as goal
use Rattle.shape_encoder.proofs.children.counted_wires.Goals.{then-is_marked+in_ok-push, else-is_marked}

pub loop-at-preserved : goal.loop-at-preserved
loop-at-preserved c = elim c.if-is_marked.branch [
  | then-is_marked+in_ok-push w ↦
      w.wires-is ∙ w.in_ok-push.ensures.ok ∙ ap (λ (ws : List Wire). ws ++ c.get-child.result.now.here ∷ []) c.loop-at.invariant
      ∙ wires_more (is_marked c.args.marks.now.items) c.args.children.now c.loop-at.at c.get-child.result.now c.get-child.ensures (sym c.is_marked.ensures ∙ w.if-is_marked.true)
  | else-is_marked w ↦
      w.wires-is ∙ c.loop-at.invariant ∙ wires_same (is_marked c.args.marks.now.items) c.args.children.now c.loop-at.at c.get-child.result.now c.get-child.ensures (sym c.is_marked.ensures ∙ w.if-is_marked.false)
]
