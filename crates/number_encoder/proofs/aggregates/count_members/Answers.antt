use Rattle.std.proofs.Common.{◌+◌, ◌≤◌, ◌∙◌, ap, length, min, subst, sym}
use Rattle.bool_circuit.specs.Circuit.{Extends}
use Rattle.clf_tree.specs.CoreWeights.{binary_digits}
use Rattle.number_encoder.proofs.Totalled.{count_room, count_wired, count_told}
use Rattle.number_encoder.proofs.aggregates.count_members.Goals as goal

pub count-requires-clause-wires_in : goal.count-requires-clause-wires_in
count-requires-clause-wires_in c = count_wired c.args.circuit.now c.args.set.now c.in_ok-wires.wires c.in_ok-wires.ensures c.requires.set

pub count-requires-clause-room : goal.count-requires-clause-room
count-requires-clause-room c = subst (λ n. length c.args.circuit.now + n ≤ 268435456) (sym (count_room c.args.width c.min-needed.result c.args.set.now c.in_ok-wires.wires (c.min-needed.ensures ∙ ap (λ n. min c.args.width (n + 1)) (c.binary_digits.ensures.digits ∙ ap binary_digits c.len.ensures)) c.in_ok-wires.ensures)) c.requires.room

pub returns-in_err-number-clause-extends : goal.returns-in_err-number-clause-extends
returns-in_err-number-clause-extends c = subst (Extends c.args.circuit.now c.count.new.circuit) (count_room c.args.width c.min-needed.result c.args.set.now c.in_ok-wires.wires (c.min-needed.ensures ∙ ap (λ n. min c.args.width (n + 1)) (c.binary_digits.ensures.digits ∙ ap binary_digits c.len.ensures)) c.in_ok-wires.ensures) c.in_err-number.ensures.extends

pub returns-clause-value : goal.returns-clause-value
returns-clause-value c = count_told c.args.circuit.now c.count.new.circuit c.args.set.now c.in_ok-wires.wires c.in_ok-number.number c.args.width c.min-needed.result c.requires.set c.requires.some (c.min-needed.ensures ∙ ap (λ n. min c.args.width (n + 1)) (c.binary_digits.ensures.digits ∙ ap binary_digits c.len.ensures)) c.in_ok-wires.ensures c.in_ok-number.ensures.cut

pub returns-clause-extends : goal.returns-clause-extends
returns-clause-extends c = subst (Extends c.args.circuit.now c.count.new.circuit) (count_room c.args.width c.min-needed.result c.args.set.now c.in_ok-wires.wires (c.min-needed.ensures ∙ ap (λ n. min c.args.width (n + 1)) (c.binary_digits.ensures.digits ∙ ap binary_digits c.len.ensures)) c.in_ok-wires.ensures) c.in_ok-number.ensures.extends
