use Rattle.std.proofs.Common.{arith, ap, ◌∙◌, ℕ, ◌+◌, ◌*◌, length}
use Rattle.std.specs.Prelude.{nat_le}
use Rattle.clf_tree.specs.Lists.{numbers_below}
use Rattle.bool_circuit.proofs.Extending.{extends_within}
use Rattle.std.proofs.lemmas.List.{length-map}
use Rattle.set_bits.specs.declared.sets.Member.{Member}
use Rattle.set_bits.specs.Sets.{is_in}
use Rattle.node_encoder.proofs.Emptiness.{counted_slots, members_wires, none_counted}
use Rattle.node_encoder.proofs.comparing.is_empty.Goals as goal

pub at_most-requires-clause-wires_in : goal.at_most-requires-clause-wires_in
at_most-requires-clause-wires_in c = members_wires c.args.circuit.now c.args.set.now c.in_ok-wires.wires c.in_ok-wires.ensures c.requires.set.wires

pub at_most-requires-clause-room : goal.at_most-requires-clause-room
at_most-requires-clause-room c =
    let l = ap length c.in_ok-wires.ensures ∙ length-map c.args.set.now (λ (m : Member). m.here) in
    let r = c.requires.room in
    omega (arith, l, r)

pub returns-clause-value : goal.returns-clause-value
returns-clause-value c = λ bits n h.
    c.in_ok-wire.ensures.value bits
    ∙ ap (λ (m : ℕ). nat_le m 0) (counted_slots c.args.circuit.now c.args.set.now c.in_ok-wires.wires bits n c.in_ok-wires.ensures c.requires.set.ascending h)
    ∙ none_counted (λ s. is_in c.args.circuit.now c.args.set.now s bits) (numbers_below n)

pub returns-clause-extends : goal.returns-clause-extends
returns-clause-extends c =
    let l = ap length c.in_ok-wires.ensures ∙ length-map c.args.set.now (λ (m : Member). m.here) in
    extends_within c.args.circuit.now c.at_most.new.circuit (2 * length c.in_ok-wires.wires * (0 + 1) + 3) (2 * length c.args.set.now + 3) (omega (arith, l)) c.in_ok-wire.ensures.extends
