use Rattle.std.proofs.Common.{◌+◌, ◌<◌, ◌≡◌, length, arith, rules, refl}
use Rattle.bool_circuit.specs.Circuit.{AreWiresOf}
use Rattle.bool_circuit.proofs.Extending.{wires_stay}
use Rattle.integer_bits.proofs.Trees.{joined, count_of_split, count_cost, count_twice, count_joined, first_and_others, wires_of_split, length_of_split}
use Rattle.integer_bits.proofs.totals.+count_within.Goals as goal

pub count_within-requires-2 : goal.count_within-requires-2
count_within-requires-2 t c =
    let back : AreWiresOf c.args.circuit.now c.split_at.result.1.now = wires_of_split c.args.circuit.now _ _ c.args.wires.now c.split_at.result.1.now c.split_at.ensures.back c.requires.wires_in in
    let some : 0 < length c.args.wires.now = search (rules, c.is_empty.ensures, c.if-is_empty.false) in
    let all : length c.args.wires.now ≡ (length c.split_at.result.0.now + length c.split_at.result.1.now) + 1 = length_of_split _ _ c.args.wires.now c.split_at.result.0.now c.split_at.result.1.now c.split_at.ensures.front_len c.split_at.ensures.back_len refl some in (
      search rules,
      (
        wires_stay c.args.circuit.now c.count_within.new.circuit _ c.split_at.result.1.now c.in_ok-first.ensures.extends back,
        (
          c.requires.some,
          omega (arith, count_cost c.args.width (length c.split_at.result.0.now) (length c.split_at.result.1.now) (length c.args.wires.now) all, c.in_ok-first.ensures.extends.at_most),
        ),
      ),
    )

pub returns-in_err-rest-clause-extends : goal.returns-in_err-rest-clause-extends
returns-in_err-rest-clause-extends t c =
    let some : 0 < length c.args.wires.now = search (rules, c.is_empty.ensures, c.if-is_empty.false) in
    count_twice c.args.width (length c.split_at.result.0.now) (length c.split_at.result.1.now) (length c.args.wires.now) c.args.circuit.now c.count_within.new.circuit c.count_within-2.new.circuit
    (length_of_split _ _ c.args.wires.now c.split_at.result.0.now c.split_at.result.1.now c.split_at.ensures.front_len c.split_at.ensures.back_len refl some) c.in_ok-first.ensures.extends c.in_err-rest.ensures.extends

pub returns-in_err-sum-clause-extends : goal.returns-in_err-sum-clause-extends
returns-in_err-sum-clause-extends t c =
    let some : 0 < length c.args.wires.now = search (rules, c.is_empty.ensures, c.if-is_empty.false) in
    count_joined c.args.width (length c.split_at.result.0.now) (length c.split_at.result.1.now) (length c.args.wires.now) c.args.circuit.now c.count_within.new.circuit c.count_within-2.new.circuit c.add_within.new.circuit
    (length_of_split _ _ c.args.wires.now c.split_at.result.0.now c.split_at.result.1.now c.split_at.ensures.front_len c.split_at.ensures.back_len refl some) c.in_ok-first.ensures.extends c.in_ok-rest.ensures.extends c.in_err-sum.ensures.extends

pub returns-clause-extends : goal.returns-clause-extends
returns-clause-extends t c =
    let some : 0 < length c.args.wires.now = search (rules, c.is_empty.ensures, c.if-is_empty.false) in
    count_joined c.args.width (length c.split_at.result.0.now) (length c.split_at.result.1.now) (length c.args.wires.now) c.args.circuit.now c.count_within.new.circuit c.count_within-2.new.circuit c.add_within.new.circuit
    (length_of_split _ _ c.args.wires.now c.split_at.result.0.now c.split_at.result.1.now c.split_at.ensures.front_len c.split_at.ensures.back_len refl some) c.in_ok-first.ensures.extends c.in_ok-rest.ensures.extends c.in_ok-sum.ensures.extends

pub returns-clause-sum : goal.returns-clause-sum
returns-clause-sum t c =
    let back : AreWiresOf c.args.circuit.now c.split_at.result.1.now = wires_of_split c.args.circuit.now _ _ c.args.wires.now c.split_at.result.1.now c.split_at.ensures.back c.requires.wires_in in
    let some : 0 < length c.args.wires.now = search (rules, c.is_empty.ensures, c.if-is_empty.false) in
    joined c.args.width _ c.count_within.new.circuit c.count_within-2.new.circuit c.add_within.new.circuit _ _ _ _ c.in_ok-first.first c.in_ok-rest.rest c.in_ok-sum.sum
    c.in_ok-first.ensures.sum c.in_ok-rest.ensures.extends c.in_ok-rest.ensures.sum c.in_ok-sum.ensures.sum
    (λ bits. count_of_split _ c.args.circuit.now c.count_within.new.circuit c.count_within-2.new.circuit _ c.args.wires.now c.split_at.result.0.now c.split_at.result.1.now _ _ _ bits (first_and_others _ c.args.wires.now _ refl some) c.split_at.ensures.front c.split_at.ensures.back
    c.in_ok-first.ensures.extends c.in_ok-rest.ensures.extends (c.requires.wires_in 0 _ some) back)
