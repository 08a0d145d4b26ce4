use Rattle.std.proofs.Common.{◌+◌, arith}
use Rattle.bool_circuit.specs.Circuit.{wire_value}
use Rattle.canonical_encoder.proofs.Wires.{slot_below, live_wire, followed, followed_apart}
use Rattle.canonical_encoder.proofs.slots.and_follows.Goals as goal

pub overflow_add-behind : goal.overflow_add-behind
overflow_add-behind c =
    let below = slot_below c.args.circuit.now c.args.ground.now.core.now.clafers c.args.ground.now.scopes.now c.args.ground.now.layout.now
    (c.args.slot + 1) c.args.ground.now.fits c.requires.laid c.requires.slot_in in
    omega (arith, below, c.requires.room)

pub returns-then-get-clause-value : goal.returns-then-get-clause-value
returns-then-get-clause-value c = λ bits.
    followed_apart c.args.ground.now.core.now.clafers c.args.ground.now.layout.now bits c.args.slot c.get.result.now c.get-2.result.now
    (wire_value c.args.circuit.now c.args.all bits) c.get.ensures c.get-2.ensures c.if-get.true

pub and_implied-requires-clause-condition_in : goal.and_implied-requires-clause-condition_in
and_implied-requires-clause-condition_in c =
    live_wire c.args.circuit.now c.args.ground.now.layout.now (c.args.slot + 1) c.get-next.result.now c.requires.laid c.get-next.ensures

pub and_implied-requires-clause-needed_in : goal.and_implied-requires-clause-needed_in
and_implied-requires-clause-needed_in c =
    live_wire c.args.circuit.now c.args.ground.now.layout.now c.args.slot c.get-here.result.now c.requires.laid c.get-here.ensures

pub returns-clause-value : goal.returns-clause-value
returns-clause-value c =
    followed c.args.circuit.now c.and_implied.new.circuit c.and_parents.new.circuit c.args.ground.now.core.now.clafers
    c.args.ground.now.scopes.now c.args.ground.now.layout.now c.args.slot c.get.result.now c.get-2.result.now
    c.args.all c.get-here.result.now c.get-next.result.now c.in_ok-live.live c.in_ok-right.right
    c.args.ground.now.fits c.requires.laid c.requires.slot_in c.requires.acyclic c.get.ensures c.get-2.ensures c.if-get.false
    c.get-here.ensures c.get-next.ensures c.in_ok-live.ensures.value c.in_ok-right.ensures.value
