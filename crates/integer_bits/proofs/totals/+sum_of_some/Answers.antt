use Rattle.std.proofs.Common.{◌+◌, ◌*◌, ◌<◌, ◌≡◌, length, sym, subst, arith, rules}
use Rattle.std.proofs.lemmas.List.Elements.{All-drop}
use Rattle.integer_bits.specs.Totals.{ArePartsOf, IsPartOf}
use Rattle.integer_bits.proofs.Trees.{joined, parts_stay, sum_of_split, tree_twice, tree_joined, tree_room, join_room}
use Rattle.integer_bits.proofs.totals.+sum_of_some.Goals as goal

pub sum_of_some-requires-2 : goal.sum_of_some-requires-2
sum_of_some-requires-2 t c =
    let back : ArePartsOf c.args.circuit.now c.split_at.result.1.now = subst (ArePartsOf c.args.circuit.now) (sym c.split_at.ensures.back) (All-drop (IsPartOf c.args.circuit.now) _ c.args.parts.now c.requires.parts_in) in
    let some : 0 < length c.split_at.result.0.now = omega (arith, c.split_at.ensures.front_len, c.split_at.ensures.back_len) in
    let rest : 0 < length c.split_at.result.1.now = omega (arith, c.split_at.ensures.front_len, c.split_at.ensures.back_len) in
    let both : length c.args.parts.now ≡ length c.split_at.result.0.now + length c.split_at.result.1.now = omega (arith, c.split_at.ensures.front_len, c.split_at.ensures.back_len) in (
      search rules,
      (
        parts_stay _ c.args.circuit.now c.sum_of_some.new.circuit c.split_at.result.1.now c.in_ok-first.ensures.extends back,
        (
          rest,
          (
            c.requires.some,
            tree_room c.args.width (5 * c.args.width) (length c.split_at.result.0.now) (length c.split_at.result.1.now) (length c.args.parts.now) _ c.args.circuit.now c.sum_of_some.new.circuit some rest both c.requires.room c.in_ok-first.ensures.extends,
          ),
        ),
      ),
    )

pub returns-in_err-rest-clause-extends : goal.returns-in_err-rest-clause-extends
returns-in_err-rest-clause-extends t c =
    tree_twice c.args.width (5 * c.args.width) (length c.split_at.result.0.now) (length c.split_at.result.1.now) (length c.args.parts.now) c.args.circuit.now c.sum_of_some.new.circuit c.sum_of_some-2.new.circuit
    (omega (arith, c.split_at.ensures.front_len)) (omega (arith, c.split_at.ensures.back_len)) (omega (arith, c.split_at.ensures.front_len, c.split_at.ensures.back_len)) c.in_ok-first.ensures.extends c.in_err-rest.ensures.extends

pub add_within-requires-clause-room : goal.add_within-requires-clause-room
add_within-requires-clause-room t c =
    join_room c.args.width (5 * c.args.width) (length c.split_at.result.0.now) (length c.split_at.result.1.now) (length c.args.parts.now) _ c.args.circuit.now c.sum_of_some.new.circuit c.sum_of_some-2.new.circuit
    (omega (arith, c.split_at.ensures.front_len)) (omega (arith, c.split_at.ensures.back_len)) (omega (arith, c.split_at.ensures.front_len, c.split_at.ensures.back_len)) c.requires.room c.in_ok-first.ensures.extends c.in_ok-rest.ensures.extends

pub returns-in_err-sum-clause-extends : goal.returns-in_err-sum-clause-extends
returns-in_err-sum-clause-extends t c =
    tree_joined c.args.width (5 * c.args.width) (length c.split_at.result.0.now) (length c.split_at.result.1.now) (length c.args.parts.now) c.args.circuit.now c.sum_of_some.new.circuit c.sum_of_some-2.new.circuit c.add_within.new.circuit
    (omega (arith, c.split_at.ensures.front_len)) (omega (arith, c.split_at.ensures.back_len)) (omega (arith, c.split_at.ensures.front_len, c.split_at.ensures.back_len)) c.in_ok-first.ensures.extends c.in_ok-rest.ensures.extends c.in_err-sum.ensures.extends

pub returns-clause-sum : goal.returns-clause-sum
returns-clause-sum t c =
    let back : ArePartsOf c.args.circuit.now c.split_at.result.1.now = subst (ArePartsOf c.args.circuit.now) (sym c.split_at.ensures.back) (All-drop (IsPartOf c.args.circuit.now) _ c.args.parts.now c.requires.parts_in) in
    joined c.args.width _ c.sum_of_some.new.circuit c.sum_of_some-2.new.circuit c.add_within.new.circuit _ _ _ (λ bits. 0) c.in_ok-first.first c.in_ok-rest.rest c.in_ok-sum.sum
    c.in_ok-first.ensures.sum c.in_ok-rest.ensures.extends c.in_ok-rest.ensures.sum c.in_ok-sum.ensures.sum
    (λ bits. sum_of_split _ c.args.circuit.now c.sum_of_some.new.circuit c.args.parts.now c.split_at.result.0.now c.split_at.result.1.now _ bits c.split_at.ensures.front c.split_at.ensures.back c.in_ok-first.ensures.extends back)

pub returns-clause-extends : goal.returns-clause-extends
returns-clause-extends t c =
    tree_joined c.args.width (5 * c.args.width) (length c.split_at.result.0.now) (length c.split_at.result.1.now) (length c.args.parts.now) c.args.circuit.now c.sum_of_some.new.circuit c.sum_of_some-2.new.circuit c.add_within.new.circuit
    (omega (arith, c.split_at.ensures.front_len)) (omega (arith, c.split_at.ensures.back_len)) (omega (arith, c.split_at.ensures.front_len, c.split_at.ensures.back_len)) c.in_ok-first.ensures.extends c.in_ok-rest.ensures.extends c.in_ok-sum.ensures.extends
