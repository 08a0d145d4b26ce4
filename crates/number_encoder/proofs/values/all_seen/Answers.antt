use Rattle.std.proofs.Common.{arith}
use Rattle.bool_circuit.specs.Circuit.{IsWireOf}
use Rattle.integer_bits.specs.Totals.{IsPartOf}
use Rattle.shape_encoder.proofs.Steps.{all_item}
use Rattle.number_encoder.proofs.Matched.{none_asked, asked_more}
use Rattle.number_encoder.proofs.values.all_seen.Goals as goal

pub loop-at-init : goal.loop-at-init
loop-at-init c = none_asked c.args.circuit.now c.args.parts.now c.args.seen.now c.args.first c.requires.first_in

pub and_if-requires-clause-test_in : goal.and_if-requires-clause-test_in
and_if-requires-clause-test_in c = let w = (all_item (IsPartOf c.args.circuit.now) c.args.parts.now c.loop-at.at c.get.result.now c.requires.parts_in c.get.ensures).here in omega (arith, w, c.loop-at.invariant.extends.at_least)

pub and_if-requires-clause-then_in : goal.and_if-requires-clause-then_in
and_if-requires-clause-then_in c = let w = all_item (IsWireOf c.args.circuit.now) c.args.seen.now c.loop-at.at c.get-mark.result.now c.requires.seen_in c.get-mark.ensures in omega (arith, w, c.loop-at.invariant.extends.at_least)

pub loop-at-preserved : goal.loop-at-preserved
loop-at-preserved c =
    asked_more c.args.circuit.now c.loop-at.circuit c.and_if.new.circuit c.args.parts.now c.args.seen.now c.loop-at.at c.get.result.now c.args.first c.get-mark.result.now c.loop-at.all c.in_ok-more.more
    c.requires.parts_in c.requires.seen_in c.requires.seen_len c.get.ensures c.get-mark.ensures c.loop-at.invariant c.in_ok-more.ensures.extends c.in_ok-more.ensures.wire c.in_ok-more.ensures.value
