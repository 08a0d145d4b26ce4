use Rattle.std.proofs.Common.{arith, subst, ◌≡◌, length}
use Rattle.bool_circuit.specs.Circuit.{IsWireOf}
use Rattle.set_bits.specs.Counts.{IsCountedSoFar}
use Rattle.set_bits.proofs.Marks.{none_counted, count_more, at_least_exact, wire_at}
use Rattle.set_bits.proofs.counts.count_up.Goals as goal

pub loop-at-init : goal.loop-at-init
loop-at-init c =
    none_counted c.args.circuit.now c.constant.new.self c.constant-2.new.self c.args.wires.now c.in_ok-marks.marks c.args.n c.in_ok-on.on c.in_ok-off.off
    c.in_ok-on.ensures.extends c.in_ok-off.ensures.extends c.in_ok-on.ensures.wire c.in_ok-on.ensures.value c.in_ok-off.ensures.wire c.in_ok-off.ensures.value c.in_ok-marks.ensures.len c.in_ok-marks.ensures.same

pub count_one-requires-clause-wire_in : goal.count_one-requires-clause-wire_in
count_one-requires-clause-wire_in c =
    let w : IsWireOf c.args.circuit.now c.get-wire.result.now = wire_at c.args.circuit.now c.args.wires.now c.loop-at.at c.get-wire.result.now c.requires.wires_in c.get-wire.ensures in
    let e = c.loop-at.invariant.extends.at_least in omega arith

pub loop-at-preserved : goal.loop-at-preserved
loop-at-preserved c =
    count_more c.args.circuit.now c.loop-at.circuit c.count_one.new.circuit c.args.wires.now c.loop-at.marks c.in_ok-next.next c.args.n c.loop-at.at c.in_ok-on.on c.get-wire.result.now c.in_ok-next.ensures.marked.0
    c.loop-at.invariant c.requires.wires_in (omega (arith, c.len-at-end.ensures)) c.get-wire.ensures c.in_ok-next.ensures.marked.1

pub returns-clause-wire : goal.returns-clause-wire
returns-clause-wire c = wire_at c.loop-at.circuit c.loop-at.marks _ c.get-last.result.now c.loop-at.invariant.wires c.get-last.ensures

pub returns-clause-value : goal.returns-clause-value
returns-clause-value c =
    let last : c.loop-at.at ≡ length c.args.wires.now = omega (arith, c.len-at-end.ensures) in
    at_least_exact c.args.circuit.now c.loop-at.circuit c.args.wires.now c.loop-at.marks c.args.n c.in_ok-on.on c.get-last.result.now c.requires.some
    (subst (λ k. IsCountedSoFar c.args.circuit.now c.args.wires.now c.args.n c.in_ok-on.on k c.loop-at.circuit c.loop-at.marks) last c.loop-at.invariant) c.get-last.ensures
