use Rattle.std.proofs.Common.{arith, ap, ◌∙◌, ◌+◌, ◌*◌, length}
use Rattle.std.specs.Prelude.{nat_le}
use Rattle.bool_circuit.proofs.Extending.{extends_within}
use Rattle.std.proofs.lemmas.List.{length-map}
use Rattle.set_bits.specs.declared.sets.Member.{Member}
use Rattle.node_encoder.proofs.Emptiness.{counted_slots, members_wires, marks_few}
use Rattle.node_encoder.proofs.amounts.at_least.Goals as goal

pub at_least-requires-clause-wires_in : goal.at_least-requires-clause-wires_in
at_least-requires-clause-wires_in c = members_wires c.args.circuit.now c.args.set.now c.in_ok-wires.wires c.in_ok-wires.ensures c.requires.set.wires

pub at_least-requires-clause-room : goal.at_least-requires-clause-room
at_least-requires-clause-room c =
    let l = marks_few (length c.args.set.now) (length c.in_ok-wires.wires) c.args.k (ap length c.in_ok-wires.ensures ∙ length-map c.args.set.now (λ (m : Member). m.here)) c.requires.few in
    let r = c.requires.room in
    omega (arith, l, r)

pub returns-clause-value : goal.returns-clause-value
returns-clause-value c = λ bits n h. c.in_ok-wire.ensures.value bits ∙ ap (nat_le c.args.k) (counted_slots c.args.circuit.now c.args.set.now c.in_ok-wires.wires bits n c.in_ok-wires.ensures c.requires.set.ascending h)

pub returns-clause-extends : goal.returns-clause-extends
returns-clause-extends c =
    extends_within c.args.circuit.now c.at_least.new.circuit (2 * length c.in_ok-wires.wires * (c.args.k + 1) + 3) (4 * length c.args.set.now + 3)
    (marks_few (length c.args.set.now) (length c.in_ok-wires.wires) c.args.k (ap length c.in_ok-wires.ensures ∙ length-map c.args.set.now (λ (m : Member). m.here)) c.requires.few) c.in_ok-wire.ensures.extends
