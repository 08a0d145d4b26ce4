use Rattle.std.proofs.Common.{◌≡◌, ◌&&◌, get_or, true, false, ap, sym, ◌∙◌, arith}
use Rattle.std.proofs.lemmas.List.Folds.{list_all_more, list_all_at}
use Rattle.std.proofs.lemmas.Option.{get_or_from_slice_get}
use Rattle.integer_bits.specs.Totals.{is_constant_of}
use Rattle.integer_bits.proofs.products.is_constant.Goals as goal

pub returns-then-not-is_fixed : goal.returns-then-not-is_fixed
returns-then-not-is_fixed c =
    let e = get_or_from_slice_get c.args.a.now c.loop-at.at c.get-wire.result.now c.get-wire.result.now c.get-wire.ensures in
    let f : is_constant_of c.args.circuit.now c.get-wire.result.now ≡ false = (let a = c.is_fixed.ensures in let b = c.if-not-is_fixed.true in cc) in
    sym (list_all_at (is_constant_of c.args.circuit.now) c.args.a.now c.loop-at.at c.get-wire.result.now (omega (arith, c.len-at-end.ensures)) (ap (is_constant_of c.args.circuit.now) e ∙ f))

pub loop-at-preserved : goal.loop-at-preserved
loop-at-preserved c =
    let e = get_or_from_slice_get c.args.a.now c.loop-at.at c.get-wire.result.now c.get-wire.result.now c.get-wire.ensures in
    let f : is_constant_of c.args.circuit.now c.get-wire.result.now ≡ true = (let a = c.is_fixed.ensures in let b = c.if-not-is_fixed.false in cc) in
    list_all_more (is_constant_of c.args.circuit.now) c.args.a.now c.loop-at.at c.get-wire.result.now (omega (arith, c.len-at-end.ensures))
    ∙ ap (λ b. b && is_constant_of c.args.circuit.now (get_or c.args.a.now c.loop-at.at c.get-wire.result.now)) c.loop-at.invariant ∙ ap (is_constant_of c.args.circuit.now) e ∙ f
