use Rattle.std.proofs.Common.{◌≡◌, ◌∙◌, ◌++◌, ◌∷◌, [], sym, ap, subst, rules, arith, map, List, length, Some, slice_set, ◌<◌}
use Rattle.std.specs.Prelude.{ℤ, not}
use Rattle.std.proofs.lemmas.Int.{to_z-of_z}
use mir.Syntax.{w64}
use mir.Val.{SFits, to_z, of_z}
use Rattle.bool_circuit.specs.Circuit.{entry}
use Rattle.bool_circuit.specs.declared.gate.Wire.{Wire}
use Rattle.integer_bits.specs.Numbers.{integer_of}
use Rattle.instance_decoder.specs.Tables.{HoldsIntegers}
use Rattle.instance_decoder.proofs.Noting.{integer_new, free_there}
use Rattle.instance_decoder.proofs.tables.note_integer.Goals as goal

pub returns-then-is_none-clause-noted : goal.returns-then-is_none-clause-noted
returns-then-is_none-clause-noted c = λ values h.
    let f : SFits w64 c.integer_of.result = search rules in
    let within : c.args.value.now.slot < length c.args.table.now.items = omega (arith, c.if-slot-len.false, c.len.ensures, c.args.table.now.ok.0) in
    let e : to_z w64 (of_z w64 c.integer_of.result) ≡ integer_of (map (entry c.args.bits.now) c.args.value.now.bits) =
    to_z-of_z w64 c.integer_of.result f ∙ c.integer_of.ensures ∙ ap (λ (ws : List Wire). integer_of (map (entry c.args.bits.now) ws)) c.as_slice.ensures in
    subst (λ (z : ℤ). HoldsIntegers c.args.bits.now (values ++ c.args.value.now ∷ []) (slice_set c.args.table.now.items c.args.value.now.slot (Some z))) (sym e)
    (integer_new c.args.bits.now values c.args.value.now c.args.table.now.items within (free_there c.args.table.now.items c.args.value.now.slot c.index.result.now within c.index.ensures (ap not c.if-is_none.ensures)) h)
