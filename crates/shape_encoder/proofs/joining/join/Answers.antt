use Rattle.std.proofs.Common.{◌≡◌, ◌&&◌, subst}
use Rattle.bool_circuit.specs.Circuit.{wire_value}
use Rattle.set_bits.specs.Sets.{is_here}
use Rattle.shape_encoder.proofs.Turning.{join_more}
use Rattle.shape_encoder.proofs.joining.join.Goals as goal

pub loop-at-preserved : goal.loop-at-preserved
loop-at-preserved c =
    join_more c.args.circuit.now c.loop-at.circuit c.both.new.circuit c.or.new.self c.args.table.now.items c.args.edges.now c.loop-at.at c.get-edge.result.now c.loop-at.some c.in_ok-taken.taken c.in_ok-some-2.some
    c.requires.table_in c.requires.bits c.get-edge.ensures c.loop-at.invariant c.in_ok-taken.ensures.extends c.in_ok-some-2.ensures.extends c.in_ok-some-2.ensures.wire
    (λ bits. subst (λ o. wire_value c.both.new.circuit c.in_ok-taken.taken bits ≡ (is_here c.loop-at.circuit o bits && wire_value c.loop-at.circuit c.get-edge.result.now.here bits)) c.wire_of.ensures (c.in_ok-taken.ensures.value bits))
    c.in_ok-some-2.ensures.value
