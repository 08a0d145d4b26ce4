use Rattle.std.proofs.Common.{◌+◌, ◌*◌, length, max, subst, sym, arith}
use Rattle.bool_circuit.proofs.Extending.{extends_trans}
use Rattle.number_encoder.specs.Values.{widest}
use Rattle.number_encoder.specs.Costs.{pair_cost, row_cost}
use Rattle.number_encoder.proofs.Standing.{parts_stay}
use Rattle.number_encoder.proofs.Compared.{other_here, other_right, row_room, row_within}
use Rattle.std.proofs.Common.{◌∙◌, ap}
use Rattle.std.specs.Prelude.{replicate}
use Rattle.number_encoder.specs.Comparing.{AreRowsSoFar}
use Rattle.number_encoder.proofs.Matched.{nothing_seen, rows_more}
use Rattle.number_encoder.proofs.values.compare_rows.Goals as goal

pub loop-at-init : goal.loop-at-init
loop-at-init c =
    subst (λ ws. AreRowsSoFar c.args.circuit.now c.args.parts.now c.args.others.now (max (widest c.args.parts.now) (widest c.args.others.now)) 0 c.args.circuit.now c.args.first ws)
    (sym (c.in_ok-seen.ensures ∙ ap (λ n. replicate n c.args.none) c.len.ensures))
    (nothing_seen c.args.circuit.now c.args.parts.now c.args.others.now (max (widest c.args.parts.now) (widest c.args.others.now)) c.args.none c.args.first c.requires.none_in c.requires.first_in c.requires.none_false c.requires.first_true)

pub compare_row-requires-clause-part_in : goal.compare_row-requires-clause-part_in
compare_row-requires-clause-part_in c = other_right c.args.circuit.now c.loop-at.circuit c.args.parts.now c.loop-at.at (c.loop-at.at * (row_cost (length c.args.others.now) (max (widest c.args.parts.now) (widest c.args.others.now)))) c.get-part.result.now c.requires.parts_in c.get-part.ensures c.loop-at.invariant.found.extends

pub compare_row-requires-clause-others_in : goal.compare_row-requires-clause-others_in
compare_row-requires-clause-others_in c = parts_stay c.args.circuit.now c.loop-at.circuit (c.loop-at.at * (row_cost (length c.args.others.now) (max (widest c.args.parts.now) (widest c.args.others.now)))) c.args.others.now c.loop-at.invariant.found.extends c.requires.others_in

pub compare_row-requires-clause-none_false : goal.compare_row-requires-clause-none_false
compare_row-requires-clause-none_false c = λ bits. c.loop-at.invariant.found.extends.keeps c.args.none c.requires.none_in bits ∙ c.requires.none_false bits

pub compare_row-requires-clause-room : goal.compare_row-requires-clause-room
compare_row-requires-clause-room c =
    let r = row_room c.args.circuit.now c.loop-at.circuit c.args.parts.now c.args.others.now c.loop-at.at 268435456 c.get-part.result.now c.get-part.ensures (omega arith) c.loop-at.invariant.found.extends c.requires.room in
    omega (arith, r)

pub returns-in_err-found-clause-extends : goal.returns-in_err-found-clause-extends
returns-in_err-found-clause-extends c =
    row_within c.args.circuit.now c.loop-at.circuit c.compare_row.new.circuit c.args.parts.now c.args.others.now c.loop-at.at (length c.args.others.now * pair_cost (max (length c.get-part.result.now.bits) (widest c.args.others.now))) c.get-part.result.now c.get-part.ensures (omega arith) c.loop-at.invariant.found.extends (omega arith) c.in_err-found.ensures.extends

pub and_if-requires-clause-test_in : goal.and_if-requires-clause-test_in
and_if-requires-clause-test_in c =
    other_here c.args.circuit.now c.loop-at.circuit c.compare_row.new.circuit c.args.parts.now c.loop-at.at (c.loop-at.at * (row_cost (length c.args.others.now) (max (widest c.args.parts.now) (widest c.args.others.now)))) (length c.args.others.now * pair_cost (max (length c.get-part.result.now.bits) (widest c.args.others.now))) c.get-part.result.now c.requires.parts_in c.get-part.ensures c.loop-at.invariant.found.extends c.in_ok-found.ensures.extends

pub and_if-requires-clause-room : goal.and_if-requires-clause-room
and_if-requires-clause-room c =
    let r = row_room c.args.circuit.now c.loop-at.circuit c.args.parts.now c.args.others.now c.loop-at.at 268435456 c.get-part.result.now c.get-part.ensures (omega arith) c.loop-at.invariant.found.extends c.requires.room in
    omega (arith, r, c.in_ok-found.ensures.extends.at_most)

pub returns-in_err-more-clause-extends : goal.returns-in_err-more-clause-extends
returns-in_err-more-clause-extends c =
    row_within c.args.circuit.now c.loop-at.circuit c.and_if.new.circuit c.args.parts.now c.args.others.now c.loop-at.at ((length c.args.others.now * pair_cost (max (length c.get-part.result.now.bits) (widest c.args.others.now))) + 3) c.get-part.result.now c.get-part.ensures (omega arith) c.loop-at.invariant.found.extends (omega arith)
    (extends_trans c.loop-at.circuit c.compare_row.new.circuit c.and_if.new.circuit (length c.args.others.now * pair_cost (max (length c.get-part.result.now.bits) (widest c.args.others.now))) 3 c.in_ok-found.ensures.extends c.in_err-more.ensures.extends)

pub loop-at-preserved : goal.loop-at-preserved
loop-at-preserved c =
    rows_more c.args.circuit.now c.loop-at.circuit c.compare_row.new.circuit c.and_if.new.circuit c.args.parts.now c.args.others.now c.loop-at.at c.get-part.result.now c.loop-at.all _ c.in_ok-more.more c.loop-at.seen _
    c.requires.parts_in c.requires.others_in c.get-part.ensures c.loop-at.invariant c.in_ok-found.ensures.row c.in_ok-more.ensures.extends c.in_ok-more.ensures.wire c.in_ok-more.ensures.value
