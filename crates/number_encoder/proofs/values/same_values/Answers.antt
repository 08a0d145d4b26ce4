use Rattle.std.proofs.Common.{◌+◌, ◌*◌, length, max, arith}
use Rattle.bool_circuit.proofs.Extending.{extends_trans, extends_within}
use Rattle.number_encoder.specs.Values.{widest}
use Rattle.number_encoder.specs.Costs.{row_cost, values_cost}
use Rattle.number_encoder.proofs.Matched.{cost_is, same_told}
use Rattle.number_encoder.proofs.values.same_values.Goals as goal

pub constant-requires : goal.constant-requires
constant-requires c = omega (arith, cost_is (length c.args.a.now) (length c.args.b.now) (max (widest c.args.a.now) (widest c.args.b.now)), c.requires.room)

pub returns-in_err-none-clause-extends : goal.returns-in_err-none-clause-extends
returns-in_err-none-clause-extends c = extends_within c.args.circuit.now c.constant.new.self 1 (values_cost (length c.args.a.now) (length c.args.b.now) (max (widest c.args.a.now) (widest c.args.b.now))) (omega (arith, cost_is (length c.args.a.now) (length c.args.b.now) (max (widest c.args.a.now) (widest c.args.b.now)))) c.in_err-none.ensures.extends

pub constant-requires-2 : goal.constant-requires-2
constant-requires-2 c = omega (arith, cost_is (length c.args.a.now) (length c.args.b.now) (max (widest c.args.a.now) (widest c.args.b.now)), c.requires.room, c.in_ok-none.ensures.extends.at_most)

pub returns-in_err-first-clause-extends : goal.returns-in_err-first-clause-extends
returns-in_err-first-clause-extends c =
    extends_within c.args.circuit.now c.constant-2.new.self (1 + 1) (values_cost (length c.args.a.now) (length c.args.b.now) (max (widest c.args.a.now) (widest c.args.b.now))) (omega (arith, cost_is (length c.args.a.now) (length c.args.b.now) (max (widest c.args.a.now) (widest c.args.b.now)))) (extends_trans c.args.circuit.now c.constant.new.self c.constant-2.new.self 1 1 c.in_ok-none.ensures.extends c.in_err-first.ensures.extends)

pub compare_rows-requires-clause-room : goal.compare_rows-requires-clause-room
compare_rows-requires-clause-room c = omega (arith, cost_is (length c.args.a.now) (length c.args.b.now) (max (widest c.args.a.now) (widest c.args.b.now)), c.requires.room, c.in_ok-none.ensures.extends.at_most, c.in_ok-first.ensures.extends.at_most)

pub returns-in_err-all-clause-extends : goal.returns-in_err-all-clause-extends
returns-in_err-all-clause-extends c =
    extends_within c.args.circuit.now c.compare_rows.new.circuit (1 + 1 + (length c.args.a.now * row_cost (length c.args.b.now) (max (widest c.args.a.now) (widest c.args.b.now)))) (values_cost (length c.args.a.now) (length c.args.b.now) (max (widest c.args.a.now) (widest c.args.b.now))) (omega (arith, cost_is (length c.args.a.now) (length c.args.b.now) (max (widest c.args.a.now) (widest c.args.b.now)))) (extends_trans c.args.circuit.now c.constant-2.new.self c.compare_rows.new.circuit (1 + 1) (length c.args.a.now * row_cost (length c.args.b.now) (max (widest c.args.a.now) (widest c.args.b.now))) (extends_trans c.args.circuit.now c.constant.new.self c.constant-2.new.self 1 1 c.in_ok-none.ensures.extends c.in_ok-first.ensures.extends) c.in_err-all.ensures.extends)

pub all_seen-requires-clause-room : goal.all_seen-requires-clause-room
all_seen-requires-clause-room c = omega (arith, cost_is (length c.args.a.now) (length c.args.b.now) (max (widest c.args.a.now) (widest c.args.b.now)), c.requires.room, c.in_ok-none.ensures.extends.at_most, c.in_ok-first.ensures.extends.at_most, c.in_ok-all.ensures.extends.at_most)

pub returns-in_err-wire-clause-extends : goal.returns-in_err-wire-clause-extends
returns-in_err-wire-clause-extends c =
    extends_within c.args.circuit.now c.all_seen.new.circuit (1 + 1 + (length c.args.a.now * row_cost (length c.args.b.now) (max (widest c.args.a.now) (widest c.args.b.now))) + 3 * length c.args.b.now) (values_cost (length c.args.a.now) (length c.args.b.now) (max (widest c.args.a.now) (widest c.args.b.now))) (omega (arith, cost_is (length c.args.a.now) (length c.args.b.now) (max (widest c.args.a.now) (widest c.args.b.now))))
    (extends_trans c.args.circuit.now c.compare_rows.new.circuit c.all_seen.new.circuit (1 + 1 + (length c.args.a.now * row_cost (length c.args.b.now) (max (widest c.args.a.now) (widest c.args.b.now)))) (3 * length c.args.b.now) (extends_trans c.args.circuit.now c.constant-2.new.self c.compare_rows.new.circuit (1 + 1) (length c.args.a.now * row_cost (length c.args.b.now) (max (widest c.args.a.now) (widest c.args.b.now))) (extends_trans c.args.circuit.now c.constant.new.self c.constant-2.new.self 1 1 c.in_ok-none.ensures.extends c.in_ok-first.ensures.extends) c.in_ok-all.ensures.extends) c.in_err-wire.ensures.extends)

pub returns-clause-value : goal.returns-clause-value
returns-clause-value c =
    same_told c.args.circuit.now c.constant-2.new.self c.compare_rows.new.circuit c.all_seen.new.circuit c.args.a.now c.args.b.now (1 + 1) (max (widest c.args.a.now) (widest c.args.b.now)) _ c.in_ok-wire.wire _ c.requires.a_in c.requires.b_in (extends_trans c.args.circuit.now c.constant.new.self c.constant-2.new.self 1 1 c.in_ok-none.ensures.extends c.in_ok-first.ensures.extends) c.in_ok-all.ensures.rows c.in_ok-wire.ensures.seen

pub returns-clause-extends : goal.returns-clause-extends
returns-clause-extends c =
    extends_within c.args.circuit.now c.all_seen.new.circuit (1 + 1 + (length c.args.a.now * row_cost (length c.args.b.now) (max (widest c.args.a.now) (widest c.args.b.now))) + 3 * length c.args.b.now) (values_cost (length c.args.a.now) (length c.args.b.now) (max (widest c.args.a.now) (widest c.args.b.now))) (omega (arith, cost_is (length c.args.a.now) (length c.args.b.now) (max (widest c.args.a.now) (widest c.args.b.now))))
    (extends_trans c.args.circuit.now c.compare_rows.new.circuit c.all_seen.new.circuit (1 + 1 + (length c.args.a.now * row_cost (length c.args.b.now) (max (widest c.args.a.now) (widest c.args.b.now)))) (3 * length c.args.b.now) (extends_trans c.args.circuit.now c.constant-2.new.self c.compare_rows.new.circuit (1 + 1) (length c.args.a.now * row_cost (length c.args.b.now) (max (widest c.args.a.now) (widest c.args.b.now))) (extends_trans c.args.circuit.now c.constant.new.self c.constant-2.new.self 1 1 c.in_ok-none.ensures.extends c.in_ok-first.ensures.extends) c.in_ok-all.ensures.extends) c.in_ok-wire.ensures.extends)
