use Rattle.std.proofs.Common.{◌+◌, ◌*◌, length, max, subst, sym, arith}
use Rattle.bool_circuit.specs.Circuit.{IsWireOf}
use Rattle.bool_circuit.proofs.Extending.{extends_trans}
use Rattle.shape_encoder.proofs.Steps.{all_item}
use Rattle.number_encoder.specs.Values.{widest}
use Rattle.number_encoder.specs.Costs.{pair_cost}
use Rattle.number_encoder.specs.Comparing.{IsRowSoFar}
use Rattle.number_encoder.proofs.Standing.{part_stays}
use Rattle.number_encoder.proofs.Compared.{none_seen, row_more, other_here, other_right, pair_room, pair_within}
use Rattle.number_encoder.proofs.values.compare_row.Goals as goal

pub loop-at-init : goal.loop-at-init
loop-at-init c =
    subst (λ ws. IsRowSoFar c.args.circuit.now c.args.part.now c.args.others.now c.args.seen.now (max (length c.args.part.now.bits) (widest c.args.others.now)) 0 c.args.circuit.now c.args.none ws) (sym c.new-next.ensures)
    (none_seen c.args.circuit.now c.args.part.now c.args.others.now c.args.seen.now (max (length c.args.part.now.bits) (widest c.args.others.now)) c.args.none c.requires.none_in c.requires.none_false)

pub equal_parts-requires-clause-a_in : goal.equal_parts-requires-clause-a_in
equal_parts-requires-clause-a_in c = part_stays c.args.circuit.now c.loop-at.circuit (c.loop-at.at * pair_cost (max (length c.args.part.now.bits) (widest c.args.others.now))) c.args.part.now c.loop-at.invariant.among.extends c.requires.part_in

pub equal_parts-requires-clause-b_in : goal.equal_parts-requires-clause-b_in
equal_parts-requires-clause-b_in c = other_right c.args.circuit.now c.loop-at.circuit c.args.others.now c.loop-at.at (c.loop-at.at * pair_cost (max (length c.args.part.now.bits) (widest c.args.others.now))) c.get-other.result.now c.requires.others_in c.get-other.ensures c.loop-at.invariant.among.extends

pub equal_parts-requires-clause-room : goal.equal_parts-requires-clause-room
equal_parts-requires-clause-room c =
    let r = pair_room c.args.circuit.now c.loop-at.circuit c.args.part.now c.args.others.now c.loop-at.at 268435456 c.get-other.result.now c.get-other.ensures (omega arith) c.loop-at.invariant.among.extends c.requires.room in
    omega (arith, r)

pub returns-in_err-same-clause-extends : goal.returns-in_err-same-clause-extends
returns-in_err-same-clause-extends c =
    pair_within c.args.circuit.now c.loop-at.circuit c.equal_parts.new.circuit c.args.part.now c.args.others.now c.loop-at.at (4 * (max (length c.args.part.now.bits) (length c.get-other.result.now.bits) + 1)) c.get-other.result.now c.get-other.ensures (omega arith) c.loop-at.invariant.among.extends (omega arith) c.in_err-same.ensures.extends

pub or_both-requires-clause-a_in : goal.or_both-requires-clause-a_in
or_both-requires-clause-a_in c =
    other_here c.args.circuit.now c.loop-at.circuit c.equal_parts.new.circuit c.args.others.now c.loop-at.at (c.loop-at.at * pair_cost (max (length c.args.part.now.bits) (widest c.args.others.now))) (4 * (max (length c.args.part.now.bits) (length c.get-other.result.now.bits) + 1)) c.get-other.result.now c.requires.others_in c.get-other.ensures c.loop-at.invariant.among.extends c.in_ok-same.ensures.extends

pub or_both-requires-clause-room : goal.or_both-requires-clause-room
or_both-requires-clause-room c =
    let r = pair_room c.args.circuit.now c.loop-at.circuit c.args.part.now c.args.others.now c.loop-at.at 268435456 c.get-other.result.now c.get-other.ensures (omega arith) c.loop-at.invariant.among.extends c.requires.room in
    omega (arith, r, c.in_ok-same.ensures.extends.at_most)

pub returns-in_err-more-clause-extends : goal.returns-in_err-more-clause-extends
returns-in_err-more-clause-extends c =
    pair_within c.args.circuit.now c.loop-at.circuit c.or_both.new.circuit c.args.part.now c.args.others.now c.loop-at.at ((4 * (max (length c.args.part.now.bits) (length c.get-other.result.now.bits) + 1)) + 2) c.get-other.result.now c.get-other.ensures (omega arith) c.loop-at.invariant.among.extends (omega arith)
    (extends_trans c.loop-at.circuit c.equal_parts.new.circuit c.or_both.new.circuit (4 * (max (length c.args.part.now.bits) (length c.get-other.result.now.bits) + 1)) 2 c.in_ok-same.ensures.extends c.in_err-more.ensures.extends)

pub or_both-requires-in-loop-at-clause-first_in : goal.or_both-requires-in-loop-at-clause-first_in
or_both-requires-in-loop-at-clause-first_in c =
    let w = all_item (IsWireOf c.args.circuit.now) c.args.seen.now c.loop-at.at c.get-mark.result.now c.requires.seen_in c.get-mark.ensures in
    omega (arith, w, c.loop-at.invariant.among.extends.at_least, c.in_ok-same.ensures.extends.at_least, c.in_ok-more.ensures.extends.at_least)

pub or_both-requires-in-loop-at-clause-room : goal.or_both-requires-in-loop-at-clause-room
or_both-requires-in-loop-at-clause-room c =
    let r = pair_room c.args.circuit.now c.loop-at.circuit c.args.part.now c.args.others.now c.loop-at.at 268435456 c.get-other.result.now c.get-other.ensures (omega arith) c.loop-at.invariant.among.extends c.requires.room in
    omega (arith, r, c.in_ok-same.ensures.extends.at_most, c.in_ok-more.ensures.extends.at_most)

pub returns-in_err-marked-clause-extends : goal.returns-in_err-marked-clause-extends
returns-in_err-marked-clause-extends c =
    pair_within c.args.circuit.now c.loop-at.circuit c.or_both-in-loop-at.new.circuit c.args.part.now c.args.others.now c.loop-at.at ((4 * (max (length c.args.part.now.bits) (length c.get-other.result.now.bits) + 1)) + 2 + 2) c.get-other.result.now c.get-other.ensures (omega arith) c.loop-at.invariant.among.extends (omega arith)
    (extends_trans c.loop-at.circuit c.or_both.new.circuit c.or_both-in-loop-at.new.circuit ((4 * (max (length c.args.part.now.bits) (length c.get-other.result.now.bits) + 1)) + 2) 2 (extends_trans c.loop-at.circuit c.equal_parts.new.circuit c.or_both.new.circuit (4 * (max (length c.args.part.now.bits) (length c.get-other.result.now.bits) + 1)) 2 c.in_ok-same.ensures.extends c.in_ok-more.ensures.extends) c.in_err-marked.ensures.extends)

pub returns-in_err-push-clause-extends : goal.returns-in_err-push-clause-extends
returns-in_err-push-clause-extends c =
    pair_within c.args.circuit.now c.loop-at.circuit c.or_both-in-loop-at.new.circuit c.args.part.now c.args.others.now c.loop-at.at ((4 * (max (length c.args.part.now.bits) (length c.get-other.result.now.bits) + 1)) + 2 + 2) c.get-other.result.now c.get-other.ensures (omega arith) c.loop-at.invariant.among.extends (omega arith)
    (extends_trans c.loop-at.circuit c.or_both.new.circuit c.or_both-in-loop-at.new.circuit ((4 * (max (length c.args.part.now.bits) (length c.get-other.result.now.bits) + 1)) + 2) 2 (extends_trans c.loop-at.circuit c.equal_parts.new.circuit c.or_both.new.circuit (4 * (max (length c.args.part.now.bits) (length c.get-other.result.now.bits) + 1)) 2 c.in_ok-same.ensures.extends c.in_ok-more.ensures.extends) c.in_ok-marked.ensures.extends)

pub loop-at-preserved : goal.loop-at-preserved
loop-at-preserved c =
    subst (λ ws. IsRowSoFar c.args.circuit.now c.args.part.now c.args.others.now c.args.seen.now (max (length c.args.part.now.bits) (widest c.args.others.now)) (c.loop-at.at + 1) c.or_both-in-loop-at.new.circuit c.in_ok-more.more ws) (sym c.in_ok-push.ensures.ok)
    (row_more c.args.circuit.now c.loop-at.circuit c.equal_parts.new.circuit c.or_both.new.circuit c.or_both-in-loop-at.new.circuit c.args.part.now c.args.others.now c.args.seen.now c.loop-at.next c.loop-at.at c.get-other.result.now c.get-mark.result.now c.loop-at.found c.in_ok-same.same c.in_ok-more.more c.in_ok-marked.marked
    c.requires.part_in c.requires.others_in c.requires.seen_in c.requires.seen_len c.get-other.ensures c.get-mark.ensures c.loop-at.invariant c.in_ok-same.ensures.extends c.in_ok-more.ensures.extends c.in_ok-marked.ensures.extends
    c.in_ok-same.ensures.wire c.in_ok-more.ensures.wire c.in_ok-marked.ensures.wire c.in_ok-same.ensures.value c.in_ok-more.ensures.value c.in_ok-marked.ensures.value)
