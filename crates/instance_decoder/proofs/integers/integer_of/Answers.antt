use Rattle.std.proofs.Common.{◌∙◌, rules, arith, length, map}
use Rattle.std.proofs.lemmas.Int.{to_z-of_z}
use Rattle.std.proofs.lemmas.List.{length-map}
use mir.Syntax.{w64}
use mir.Val.{SFits, to_z}
use Rattle.bool_circuit.specs.Circuit.{entry}
use Rattle.instance_decoder.proofs.Spelling.{rest_small, lower}
use Rattle.instance_decoder.proofs.integers.integer_of.Goals as goal

pub with_lower-total-requires : goal.with_lower-total-requires
with_lower-total-requires c =
    let s = rest_small (map (entry c.args.bits.now) c.args.wires.now) c.loop-behind.behind (length c.args.wires.now) (to_z w64 c.loop-behind.total-bits) (length-map c.args.wires.now (entry c.args.bits.now)) c.requires (omega (arith, c.loop-behind.auto.behind)) c.loop-behind-test.true c.loop-behind.invariant in
    record { least = s.0; most = s.1 }

pub loop-behind-preserved : goal.loop-behind-preserved
loop-behind-preserved c =
    let f : SFits w64 c.with_lower-total.result = search rules in
    lower c.args.bits.now c.args.wires.now c.loop-behind.behind (to_z w64 c.loop-behind.total-bits) _ c.bit-low.result (omega (arith, c.loop-behind.auto.behind)) c.loop-behind-test.true c.loop-behind.invariant c.bit-low.ensures
    (to_z-of_z w64 c.with_lower-total.result f ∙ c.with_lower-total.ensures)
