use Rattle.std.proofs.Common.{◌+◌, ◌*◌, ◌<◌, ◌∙◌, ap, length, min, subst, sym, arith}
use Rattle.bool_circuit.proofs.Extending.{extends_within}
use Rattle.set_bits.specs.Fitting.{value_width}
use Rattle.clf_tree.specs.CoreWeights.{binary_digits, range_width}
use Rattle.number_encoder.specs.Costs.{total_cost}
use Rattle.number_encoder.proofs.Ranges.{range_some, width_same}
use Rattle.number_encoder.proofs.Totalled.{least_some, total_room, total_right, total_told}
use Rattle.number_encoder.proofs.aggregates.total.Goals as goal

pub sum_if-requires-clause-parts_in : goal.sum_if-requires-clause-parts_in
sum_if-requires-clause-parts_in c = total_right c.args.circuit.now c.args.ground.now.layout.now c.args.set.now c.in_ok-summands.summands c.in_ok-summands.ensures c.requires.set c.requires.laid.values

pub sum_if-requires-clause-some : goal.sum_if-requires-clause-some
sum_if-requires-clause-some c = least_some c.args.width (range_width c.args.ground.now.scopes.now + binary_digits (length c.args.set.now)) c.min-needed.result c.requires.some (let r = range_some c.args.ground.now.scopes.now in omega (arith, r)) (c.min-needed.ensures ∙ ap (λ n. min c.args.width (n + c.binary_digits.result)) c.range_width.ensures.bits ∙ ap (λ n. min c.args.width (range_width c.args.ground.now.scopes.now + n)) (c.binary_digits.ensures.digits ∙ ap binary_digits c.len.ensures))

pub sum_if-requires-clause-room : goal.sum_if-requires-clause-room
sum_if-requires-clause-room c = let e = (total_room c.args.ground.now.scopes.now c.args.ground.now.layout.now c.args.width c.min-needed.result c.args.set.now c.in_ok-summands.summands (c.min-needed.ensures ∙ ap (λ n. min c.args.width (n + c.binary_digits.result)) c.range_width.ensures.bits ∙ ap (λ n. min c.args.width (range_width c.args.ground.now.scopes.now + n)) (c.binary_digits.ensures.digits ∙ ap binary_digits c.len.ensures)) c.in_ok-summands.ensures) in omega (arith, e, c.requires.room)

pub returns-in_err-number-clause-extends : goal.returns-in_err-number-clause-extends
returns-in_err-number-clause-extends c = extends_within c.args.circuit.now c.sum_if.new.circuit (32 * ((length c.in_ok-summands.summands + 1) * (c.min-needed.result + 1))) (total_cost c.args.ground.now.scopes.now c.args.width (length c.args.set.now)) (total_room c.args.ground.now.scopes.now c.args.ground.now.layout.now c.args.width c.min-needed.result c.args.set.now c.in_ok-summands.summands (c.min-needed.ensures ∙ ap (λ n. min c.args.width (n + c.binary_digits.result)) c.range_width.ensures.bits ∙ ap (λ n. min c.args.width (range_width c.args.ground.now.scopes.now + n)) (c.binary_digits.ensures.digits ∙ ap binary_digits c.len.ensures)) c.in_ok-summands.ensures) c.in_err-number.ensures.extends

pub returns-clause-some : goal.returns-clause-some
returns-clause-some c =
    subst (λ n. 0 < n) (sym c.in_ok-number.ensures.width) (least_some c.args.width (range_width c.args.ground.now.scopes.now + binary_digits (length c.args.set.now)) c.min-needed.result c.requires.some (let r = range_some c.args.ground.now.scopes.now in omega (arith, r)) (c.min-needed.ensures ∙ ap (λ n. min c.args.width (n + c.binary_digits.result)) c.range_width.ensures.bits ∙ ap (λ n. min c.args.width (range_width c.args.ground.now.scopes.now + n)) (c.binary_digits.ensures.digits ∙ ap binary_digits c.len.ensures)))

pub returns-clause-value : goal.returns-clause-value
returns-clause-value c =
    total_told c.args.circuit.now c.sum_if.new.circuit c.args.ground.now.scopes.now c.args.ground.now.layout.now c.args.set.now c.in_ok-summands.summands c.in_ok-number.number c.args.width c.min-needed.result (value_width c.args.ground.now.scopes.now) c.requires.set c.requires.laid.values (width_same c.args.ground.now.scopes.now) c.args.ground.now.fits.widths
    c.requires.some (c.min-needed.ensures ∙ ap (λ n. min c.args.width (n + c.binary_digits.result)) c.range_width.ensures.bits ∙ ap (λ n. min c.args.width (range_width c.args.ground.now.scopes.now + n)) (c.binary_digits.ensures.digits ∙ ap binary_digits c.len.ensures)) c.in_ok-summands.ensures c.in_ok-number.ensures.cut

pub returns-clause-extends : goal.returns-clause-extends
returns-clause-extends c = extends_within c.args.circuit.now c.sum_if.new.circuit (32 * ((length c.in_ok-summands.summands + 1) * (c.min-needed.result + 1))) (total_cost c.args.ground.now.scopes.now c.args.width (length c.args.set.now)) (total_room c.args.ground.now.scopes.now c.args.ground.now.layout.now c.args.width c.min-needed.result c.args.set.now c.in_ok-summands.summands (c.min-needed.ensures ∙ ap (λ n. min c.args.width (n + c.binary_digits.result)) c.range_width.ensures.bits ∙ ap (λ n. min c.args.width (range_width c.args.ground.now.scopes.now + n)) (c.binary_digits.ensures.digits ∙ ap binary_digits c.len.ensures)) c.in_ok-summands.ensures) c.in_ok-number.ensures.extends
