use Rattle.std.proofs.Common.{◌+◌, ◌*◌, ◌<◌, ◌≡◌, length, sym, subst, arith, rules}
use Rattle.std.proofs.lemmas.List.Elements.{All-drop}
use Rattle.bool_circuit.specs.Circuit.{IsWireOf, AreWiresOf}
use Rattle.bool_circuit.proofs.Extending.{wires_stay}
use Rattle.integer_bits.proofs.Shifting.{times_joined}
use Rattle.integer_bits.proofs.Trees.{tree_twice, tree_joined, tree_room, join_room}
use Rattle.integer_bits.proofs.products.+times.Goals as goal

pub times-requires-2 : goal.times-requires-2
times-requires-2 t c =
    let high : AreWiresOf c.args.circuit.now c.split_at.result.1.now = subst (AreWiresOf c.args.circuit.now) (sym c.split_at.ensures.back) (All-drop (IsWireOf c.args.circuit.now) _ c.args.by.now c.requires.by_in) in
    let some : 0 < length c.split_at.result.0.now = omega (arith, c.split_at.ensures.front_len, c.split_at.ensures.back_len) in
    let rest : 0 < length c.split_at.result.1.now = omega (arith, c.split_at.ensures.front_len, c.split_at.ensures.back_len) in
    let both : length c.args.by.now ≡ length c.split_at.result.0.now + length c.split_at.result.1.now = omega (arith, c.split_at.ensures.front_len, c.split_at.ensures.back_len) in (
      search rules,
      (
        wires_stay c.args.circuit.now c.times.new.circuit _ c.args.a.now c.in_ok-first.ensures.extends c.requires.a_in,
        (
          c.requires.a_some,
          (
            wires_stay c.args.circuit.now c.times.new.circuit _ c.split_at.result.1.now c.in_ok-first.ensures.extends high,
            (
              rest,
              (
                c.requires.some,
                tree_room (3 * c.args.width + 1) (5 * c.args.width + 1) (length c.split_at.result.0.now) (length c.split_at.result.1.now) (length c.args.by.now) _ c.args.circuit.now c.times.new.circuit some rest both c.requires.room c.in_ok-first.ensures.extends,
              ),
            ),
          ),
        ),
      ),
    )

pub returns-in_err-rest-clause-extends : goal.returns-in_err-rest-clause-extends
returns-in_err-rest-clause-extends t c =
    tree_twice (3 * c.args.width + 1) (5 * c.args.width + 1) (length c.split_at.result.0.now) (length c.split_at.result.1.now) (length c.args.by.now) c.args.circuit.now c.times.new.circuit c.times-2.new.circuit
    (omega (arith, c.split_at.ensures.front_len)) (omega (arith, c.split_at.ensures.back_len)) (omega (arith, c.split_at.ensures.front_len, c.split_at.ensures.back_len)) c.in_ok-first.ensures.extends c.in_err-rest.ensures.extends

pub add_shifted-requires-clause-room : goal.add_shifted-requires-clause-room
add_shifted-requires-clause-room t c =
    join_room (3 * c.args.width + 1) (5 * c.args.width + 1) (length c.split_at.result.0.now) (length c.split_at.result.1.now) (length c.args.by.now) _ c.args.circuit.now c.times.new.circuit c.times-2.new.circuit
    (omega (arith, c.split_at.ensures.front_len)) (omega (arith, c.split_at.ensures.back_len)) (omega (arith, c.split_at.ensures.front_len, c.split_at.ensures.back_len)) c.requires.room c.in_ok-first.ensures.extends c.in_ok-rest.ensures.extends

pub returns-in_err-sum-clause-extends : goal.returns-in_err-sum-clause-extends
returns-in_err-sum-clause-extends t c =
    tree_joined (3 * c.args.width + 1) (5 * c.args.width + 1) (length c.split_at.result.0.now) (length c.split_at.result.1.now) (length c.args.by.now) c.args.circuit.now c.times.new.circuit c.times-2.new.circuit c.add_shifted.new.circuit
    (omega (arith, c.split_at.ensures.front_len)) (omega (arith, c.split_at.ensures.back_len)) (omega (arith, c.split_at.ensures.front_len, c.split_at.ensures.back_len)) c.in_ok-first.ensures.extends c.in_ok-rest.ensures.extends c.in_err-sum.ensures.extends

pub returns-clause-extends : goal.returns-clause-extends
returns-clause-extends t c =
    tree_joined (3 * c.args.width + 1) (5 * c.args.width + 1) (length c.split_at.result.0.now) (length c.split_at.result.1.now) (length c.args.by.now) c.args.circuit.now c.times.new.circuit c.times-2.new.circuit c.add_shifted.new.circuit
    (omega (arith, c.split_at.ensures.front_len)) (omega (arith, c.split_at.ensures.back_len)) (omega (arith, c.split_at.ensures.front_len, c.split_at.ensures.back_len)) c.in_ok-first.ensures.extends c.in_ok-rest.ensures.extends c.in_ok-sum.ensures.extends

pub returns-clause-product : goal.returns-clause-product
returns-clause-product t c =
    let high : AreWiresOf c.args.circuit.now c.split_at.result.1.now = subst (AreWiresOf c.args.circuit.now) (sym c.split_at.ensures.back) (All-drop (IsWireOf c.args.circuit.now) _ c.args.by.now c.requires.by_in) in
    times_joined c.args.width _ _ c.args.circuit.now c.times.new.circuit c.times-2.new.circuit c.add_shifted.new.circuit c.args.a.now c.args.by.now c.split_at.result.0.now c.split_at.result.1.now c.in_ok-first.first c.in_ok-rest.rest c.in_ok-sum.sum c.args.signed _
    c.split_at.ensures.front c.split_at.ensures.back (omega (arith, c.split_at.ensures.front_len, c.split_at.ensures.back_len)) c.requires.a_in high c.in_ok-first.ensures.extends c.in_ok-rest.ensures.extends c.in_ok-first.ensures.product c.in_ok-rest.ensures.product c.in_ok-sum.ensures.sum
