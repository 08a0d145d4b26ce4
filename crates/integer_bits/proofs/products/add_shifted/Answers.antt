use Rattle.bool_circuit.proofs.Extending.{wires_stay}
use Rattle.integer_bits.proofs.Shifting.{wires_shifted, shifted_sum}
use Rattle.integer_bits.proofs.Widening.{number_of_narrowed}
use Rattle.integer_bits.proofs.products.add_shifted.Goals as goal

pub add_within-requires-clause-b_in : goal.add_within-requires-clause-b_in
add_within-requires-clause-b_in c =
    number_of_narrowed c.args.width c.constant.new.self c.in_ok-shifted.shifted c.in_ok-few.few c.in_ok-few.ensures
    (wires_shifted c.constant.new.self c.args.by c.in_ok-off.off c.args.b.now c.in_ok-shifted.shifted c.in_ok-shifted.ensures c.in_ok-off.ensures.wire (wires_stay c.args.circuit.now c.constant.new.self _ c.args.b.now c.in_ok-off.ensures.extends c.requires.b_in.wires))

pub returns-clause-sum : goal.returns-clause-sum
returns-clause-sum c =
    shifted_sum c.args.width c.args.by _ c.args.circuit.now c.constant.new.self c.add_within.new.circuit c.in_ok-off.off c.args.a.now c.args.b.now c.in_ok-shifted.shifted c.in_ok-few.few c.in_ok-sum.sum
    c.in_ok-off.ensures.extends c.requires.a_in c.requires.b_in c.in_ok-shifted.ensures c.in_ok-off.ensures.value c.in_ok-few.ensures c.in_ok-sum.ensures.sum
