use Rattle.std.proofs.Common.{◌+◌, ◌*◌, length, max, arith}
use Rattle.bool_circuit.proofs.Extending.{extends_trans}
use Rattle.number_encoder.specs.Values.{widest}
use Rattle.number_encoder.specs.Costs.{pair_cost}
use Rattle.number_encoder.proofs.Standing.{part_stays}
use Rattle.number_encoder.proofs.Compared.{none_found, found_more, other_here, other_right, pair_room, pair_within}
use Rattle.number_encoder.proofs.values.find_among.Goals as goal

pub loop-at-init : goal.loop-at-init
loop-at-init c = none_found c.args.circuit.now c.args.part.now c.args.others.now (max (length c.args.part.now.bits) (widest c.args.others.now)) c.args.none c.requires.none_in c.requires.none_false

pub equal_parts-requires-clause-a_in : goal.equal_parts-requires-clause-a_in
equal_parts-requires-clause-a_in c = part_stays c.args.circuit.now c.loop-at.circuit (c.loop-at.at * pair_cost (max (length c.args.part.now.bits) (widest c.args.others.now))) c.args.part.now c.loop-at.invariant.extends c.requires.part_in

pub equal_parts-requires-clause-b_in : goal.equal_parts-requires-clause-b_in
equal_parts-requires-clause-b_in c = other_right c.args.circuit.now c.loop-at.circuit c.args.others.now c.loop-at.at (c.loop-at.at * pair_cost (max (length c.args.part.now.bits) (widest c.args.others.now))) c.get-other.result.now c.requires.others_in c.get-other.ensures c.loop-at.invariant.extends

pub equal_parts-requires-clause-room : goal.equal_parts-requires-clause-room
equal_parts-requires-clause-room c =
    let r = pair_room c.args.circuit.now c.loop-at.circuit c.args.part.now c.args.others.now c.loop-at.at 268435456 c.get-other.result.now c.get-other.ensures (omega arith) c.loop-at.invariant.extends c.requires.room in
    omega (arith, r)

pub returns-in_err-same-clause-extends : goal.returns-in_err-same-clause-extends
returns-in_err-same-clause-extends c =
    pair_within c.args.circuit.now c.loop-at.circuit c.equal_parts.new.circuit c.args.part.now c.args.others.now c.loop-at.at (4 * (max (length c.args.part.now.bits) (length c.get-other.result.now.bits) + 1)) c.get-other.result.now c.get-other.ensures (omega arith) c.loop-at.invariant.extends (omega arith) c.in_err-same.ensures.extends

pub or_both-requires-clause-a_in : goal.or_both-requires-clause-a_in
or_both-requires-clause-a_in c =
    other_here c.args.circuit.now c.loop-at.circuit c.equal_parts.new.circuit c.args.others.now c.loop-at.at (c.loop-at.at * pair_cost (max (length c.args.part.now.bits) (widest c.args.others.now))) (4 * (max (length c.args.part.now.bits) (length c.get-other.result.now.bits) + 1)) c.get-other.result.now c.requires.others_in c.get-other.ensures c.loop-at.invariant.extends c.in_ok-same.ensures.extends

pub or_both-requires-clause-room : goal.or_both-requires-clause-room
or_both-requires-clause-room c =
    let r = pair_room c.args.circuit.now c.loop-at.circuit c.args.part.now c.args.others.now c.loop-at.at 268435456 c.get-other.result.now c.get-other.ensures (omega arith) c.loop-at.invariant.extends c.requires.room in
    omega (arith, r, c.in_ok-same.ensures.extends.at_most)

pub returns-in_err-more-clause-extends : goal.returns-in_err-more-clause-extends
returns-in_err-more-clause-extends c =
    pair_within c.args.circuit.now c.loop-at.circuit c.or_both.new.circuit c.args.part.now c.args.others.now c.loop-at.at ((4 * (max (length c.args.part.now.bits) (length c.get-other.result.now.bits) + 1)) + 2) c.get-other.result.now c.get-other.ensures (omega arith) c.loop-at.invariant.extends (omega arith)
    (extends_trans c.loop-at.circuit c.equal_parts.new.circuit c.or_both.new.circuit (4 * (max (length c.args.part.now.bits) (length c.get-other.result.now.bits) + 1)) 2 c.in_ok-same.ensures.extends c.in_err-more.ensures.extends)

pub loop-at-preserved : goal.loop-at-preserved
loop-at-preserved c =
    found_more c.args.circuit.now c.loop-at.circuit c.equal_parts.new.circuit c.or_both.new.circuit c.args.part.now c.args.others.now c.loop-at.at c.get-other.result.now c.loop-at.found c.in_ok-same.same c.in_ok-more.more
    c.requires.part_in c.requires.others_in c.get-other.ensures c.loop-at.invariant c.in_ok-same.ensures.extends c.in_ok-more.ensures.extends c.in_ok-more.ensures.wire c.in_ok-same.ensures.value c.in_ok-more.ensures.value
