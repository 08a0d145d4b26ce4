use Rattle.integer_bits.proofs.Adding.{negative_cut}
use Rattle.integer_bits.proofs.Cutting.{kept_exact}
use Rattle.integer_bits.proofs.Widening.{number_of_narrowed}
use Rattle.integer_bits.proofs.negation.negate.Goals as goal

pub negate_within-requires-clause-a_in : goal.negate_within-requires-clause-a_in
negate_within-requires-clause-a_in c = number_of_narrowed c.args.width c.args.circuit.now c.args.a.now c.in_ok-a.a c.in_ok-a.ensures c.requires.a_in

pub returns-clause-value : goal.returns-clause-value
returns-clause-value c = λ bits f. kept_exact c.args.width _ _ c.requires.some
    (negative_cut c.args.width c.args.circuit.now c.negate_within.new.circuit c.args.a.now c.in_ok-a.a c.in_ok-negative.negative _ c.requires.some c.in_ok-a.ensures c.in_ok-negative.ensures.negative c.in_ok-wires.ensures.items bits) f

pub returns-clause-cut : goal.returns-clause-cut
returns-clause-cut c =
    negative_cut c.args.width c.args.circuit.now c.negate_within.new.circuit c.args.a.now c.in_ok-a.a c.in_ok-negative.negative _ c.requires.some c.in_ok-a.ensures c.in_ok-negative.ensures.negative c.in_ok-wires.ensures.items
