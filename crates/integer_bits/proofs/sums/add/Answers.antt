use Rattle.integer_bits.proofs.Cutting.{kept_exact}
use Rattle.integer_bits.proofs.Adding.{added_cut}
use Rattle.integer_bits.proofs.Widening.{number_of_narrowed}
use Rattle.integer_bits.proofs.sums.add.Goals as goal

pub add_within-requires-clause-a_in : goal.add_within-requires-clause-a_in
add_within-requires-clause-a_in c = number_of_narrowed c.args.width c.args.circuit.now c.args.a.now c.in_ok-a.a c.in_ok-a.ensures c.requires.a_in

pub add_within-requires-clause-b_in : goal.add_within-requires-clause-b_in
add_within-requires-clause-b_in c = number_of_narrowed c.args.width c.args.circuit.now c.args.b.now c.in_ok-b.b c.in_ok-b.ensures c.requires.b_in

pub returns-clause-value : goal.returns-clause-value
returns-clause-value c = λ bits f. kept_exact c.args.width _ _ c.requires.some
    (added_cut c.args.width c.args.circuit.now c.add_within.new.circuit c.args.a.now c.args.b.now c.in_ok-a.a c.in_ok-b.b c.in_ok-sum.sum _ c.requires.some
    c.in_ok-a.ensures c.in_ok-b.ensures c.in_ok-sum.ensures.sum c.in_ok-wires.ensures.items bits) f

pub returns-clause-cut : goal.returns-clause-cut
returns-clause-cut c =
    added_cut c.args.width c.args.circuit.now c.add_within.new.circuit c.args.a.now c.args.b.now c.in_ok-a.a c.in_ok-b.b c.in_ok-sum.sum _ c.requires.some
    c.in_ok-a.ensures c.in_ok-b.ensures c.in_ok-sum.ensures.sum c.in_ok-wires.ensures.items
