use Rattle.std.proofs.Common.{length, ◌∙◌, sym, ap, subst, refl, List}
use Rattle.bool_circuit.specs.declared.gate.Gate.{Gate}
use Rattle.set_bits.specs.Fitting.{IsRead}
use Rattle.instance_encoder.proofs.Valuing.{valued_more, valued_same, none_valued}
use Rattle.instance_encoder.proofs.integers.values.Goals as goal
use Rattle.instance_encoder.proofs.integers.values.Goals.{then-refers_to_int+in_ok-wires+in_ok-push, else-refers_to_int}

pub loop-slot-init : goal.loop-slot-init
loop-slot-init c = none_valued c.args.clafers.now c.args.slots.now (length c.args.circuit.now) c.args.bits c.args.circuit.now c.new-values.result c.new-values.ensures c.requires.read refl

pub loop-slot-preserved : goal.loop-slot-preserved
loop-slot-preserved c = elim c.if-refers_to_int.branch [
  | then-refers_to_int+in_ok-wires+in_ok-push w ↦
      valued_more c.args.clafers.now c.args.slots.now (length c.args.circuit.now) c.args.bits c.loop-slot.slot c.get.result.now c.loop-slot.circuit c.if-refers_to_int.circuit c.loop-slot.values c.if-refers_to_int.values w.in_ok-wires.wires
      c.get.ensures (sym c.refers_to_int.ensures ∙ w.if-refers_to_int.true) c.loop-slot.invariant w.in_ok-wires.ensures.wires
      (subst (λ (g : List Gate). IsRead g (length g)) (sym w.circuit-is) w.in_ok-wires.ensures.read) (ap length w.circuit-is ∙ w.in_ok-wires.ensures.size) (w.values-is ∙ w.in_ok-push.ensures.ok)
  | else-refers_to_int w ↦
      valued_same c.args.clafers.now c.args.slots.now (length c.args.circuit.now) c.args.bits c.loop-slot.slot c.get.result.now c.loop-slot.circuit c.if-refers_to_int.circuit c.loop-slot.values c.if-refers_to_int.values
      c.get.ensures (sym c.refers_to_int.ensures ∙ w.if-refers_to_int.false) c.loop-slot.invariant w.circuit-is w.values-is
]
