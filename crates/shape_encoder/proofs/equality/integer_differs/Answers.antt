use Rattle.std.proofs.Common.{◌+◌, length, arith}
use Rattle.shape_encoder.specs.Comparing.{integer_pair_cost, integer_pairs_cost}
use Rattle.shape_encoder.proofs.Compared.{cost_step}
use Rattle.shape_encoder.proofs.Unequal.{integer_more, integers_room, slot_of, slot_stays}
use Rattle.shape_encoder.proofs.equality.integer_differs.Goals as goal

pub and_integers_differ-requires-clause-earlier_is : goal.and_integers_differ-requires-clause-earlier_is
and_integers_differ-requires-clause-earlier_is c =
    slot_stays c.args.circuit.now c.loop-at.circuit (integer_pairs_cost c.args.layout.now c.args.later.now c.loop-at.at + 1) (length c.args.layout.now.live) c.get-earlier.result.now c.loop-at.invariant.extends
    (slot_of c.args.circuit.now c.args.layout.now c.loop-at.at c.get-earlier.result.now c.requires.value_bits c.get-earlier.ensures)

pub and_integers_differ-requires-clause-later_is : goal.and_integers_differ-requires-clause-later_is
and_integers_differ-requires-clause-later_is c =
    slot_stays c.args.circuit.now c.loop-at.circuit (integer_pairs_cost c.args.layout.now c.args.later.now c.loop-at.at + 1) (length c.args.layout.now.live) c.args.later.now c.loop-at.invariant.extends c.requires.later_is

pub and_integers_differ-requires-clause-room : goal.and_integers_differ-requires-clause-room
and_integers_differ-requires-clause-room c = omega (arith, c.requires.room, c.loop-at.invariant.extends.at_most, integers_room c.args.layout.now c.args.later.now c.loop-at.at c.args.place c.get-earlier.result.now c.get-earlier.ensures c.loop-at-test.true)

pub returns-in_err-all-2-clause-extends : goal.returns-in_err-all-2-clause-extends
returns-in_err-all-2-clause-extends c =
    cost_step c.args.circuit.now c.loop-at.circuit c.and_integers_differ.new.circuit (integer_pairs_cost c.args.layout.now c.args.later.now c.loop-at.at) (integer_pair_cost c.args.layout.now c.get-earlier.result.now c.args.later.now) (integer_pairs_cost c.args.layout.now c.args.later.now c.args.place)
    (integers_room c.args.layout.now c.args.later.now c.loop-at.at c.args.place c.get-earlier.result.now c.get-earlier.ensures c.loop-at-test.true) c.loop-at.invariant.extends c.in_err-all-2.ensures.extends

pub loop-at-preserved : goal.loop-at-preserved
loop-at-preserved c =
    integer_more c.args.circuit.now c.loop-at.circuit c.and_integers_differ.new.circuit c.args.clafers.now c.args.layout.now c.args.later.now c.loop-at.at c.get-earlier.result.now c.loop-at.all c.in_ok-all-2.all c.get-earlier.ensures
    c.loop-at.invariant c.in_ok-all-2.ensures.extends c.in_ok-all-2.ensures.wire c.in_ok-all-2.ensures.value
