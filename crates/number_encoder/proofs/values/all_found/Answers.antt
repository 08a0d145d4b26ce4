use Rattle.std.proofs.Common.{◌+◌, ◌*◌, length, max, arith}
use Rattle.bool_circuit.proofs.Extending.{extends_trans}
use Rattle.number_encoder.specs.Values.{widest}
use Rattle.number_encoder.specs.Costs.{pair_cost, row_cost}
use Rattle.number_encoder.proofs.Standing.{parts_stay}
use Rattle.number_encoder.proofs.Compared.{other_here, other_right, row_room, row_within}
use Rattle.std.proofs.Common.{◌∙◌}
use Rattle.number_encoder.proofs.Matched.{none_needed, needed_more}
use Rattle.number_encoder.proofs.values.all_found.Goals as goal

pub loop-at-init : goal.loop-at-init
loop-at-init c = none_needed c.args.circuit.now c.args.parts.now c.args.others.now (max (widest c.args.parts.now) (widest c.args.others.now)) c.args.first c.requires.first_in c.requires.first_true

pub find_among-requires-clause-part_in : goal.find_among-requires-clause-part_in
find_among-requires-clause-part_in c = other_right c.args.circuit.now c.loop-at.circuit c.args.parts.now c.loop-at.at (c.loop-at.at * (row_cost (length c.args.others.now) (max (widest c.args.parts.now) (widest c.args.others.now)))) c.get-part.result.now c.requires.parts_in c.get-part.ensures c.loop-at.invariant.extends

pub find_among-requires-clause-others_in : goal.find_among-requires-clause-others_in
find_among-requires-clause-others_in c = parts_stay c.args.circuit.now c.loop-at.circuit (c.loop-at.at * (row_cost (length c.args.others.now) (max (widest c.args.parts.now) (widest c.args.others.now)))) c.args.others.now c.loop-at.invariant.extends c.requires.others_in

pub find_among-requires-clause-none_false : goal.find_among-requires-clause-none_false
find_among-requires-clause-none_false c = λ bits. c.loop-at.invariant.extends.keeps c.args.none c.requires.none_in bits ∙ c.requires.none_false bits

pub find_among-requires-clause-room : goal.find_among-requires-clause-room
find_among-requires-clause-room c =
    let r = row_room c.args.circuit.now c.loop-at.circuit c.args.parts.now c.args.others.now c.loop-at.at 268435456 c.get-part.result.now c.get-part.ensures (omega arith) c.loop-at.invariant.extends c.requires.room in
    omega (arith, r)

pub returns-in_err-found-clause-extends : goal.returns-in_err-found-clause-extends
returns-in_err-found-clause-extends c =
    row_within c.args.circuit.now c.loop-at.circuit c.find_among.new.circuit c.args.parts.now c.args.others.now c.loop-at.at (length c.args.others.now * pair_cost (max (length c.get-part.result.now.bits) (widest c.args.others.now))) c.get-part.result.now c.get-part.ensures (omega arith) c.loop-at.invariant.extends (omega arith) c.in_err-found.ensures.extends

pub and_if-requires-clause-test_in : goal.and_if-requires-clause-test_in
and_if-requires-clause-test_in c =
    other_here c.args.circuit.now c.loop-at.circuit c.find_among.new.circuit c.args.parts.now c.loop-at.at (c.loop-at.at * (row_cost (length c.args.others.now) (max (widest c.args.parts.now) (widest c.args.others.now)))) (length c.args.others.now * pair_cost (max (length c.get-part.result.now.bits) (widest c.args.others.now))) c.get-part.result.now c.requires.parts_in c.get-part.ensures c.loop-at.invariant.extends c.in_ok-found.ensures.extends

pub and_if-requires-clause-room : goal.and_if-requires-clause-room
and_if-requires-clause-room c =
    let r = row_room c.args.circuit.now c.loop-at.circuit c.args.parts.now c.args.others.now c.loop-at.at 268435456 c.get-part.result.now c.get-part.ensures (omega arith) c.loop-at.invariant.extends c.requires.room in
    omega (arith, r, c.in_ok-found.ensures.extends.at_most)

pub returns-in_err-more-clause-extends : goal.returns-in_err-more-clause-extends
returns-in_err-more-clause-extends c =
    row_within c.args.circuit.now c.loop-at.circuit c.and_if.new.circuit c.args.parts.now c.args.others.now c.loop-at.at ((length c.args.others.now * pair_cost (max (length c.get-part.result.now.bits) (widest c.args.others.now))) + 3) c.get-part.result.now c.get-part.ensures (omega arith) c.loop-at.invariant.extends (omega arith)
    (extends_trans c.loop-at.circuit c.find_among.new.circuit c.and_if.new.circuit (length c.args.others.now * pair_cost (max (length c.get-part.result.now.bits) (widest c.args.others.now))) 3 c.in_ok-found.ensures.extends c.in_err-more.ensures.extends)

pub loop-at-preserved : goal.loop-at-preserved
loop-at-preserved c =
    needed_more c.args.circuit.now c.loop-at.circuit c.find_among.new.circuit c.and_if.new.circuit c.args.parts.now c.args.others.now c.loop-at.at c.get-part.result.now c.loop-at.all c.in_ok-found.found c.in_ok-more.more
    c.requires.parts_in c.requires.others_in c.get-part.ensures c.loop-at.invariant c.in_ok-found.ensures.found c.in_ok-more.ensures.extends c.in_ok-more.ensures.wire c.in_ok-more.ensures.value
