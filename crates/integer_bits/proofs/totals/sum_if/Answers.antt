use Rattle.std.proofs.Common.{subst}
use Rattle.integer_bits.specs.Numbers.{StandsFor}
use Rattle.integer_bits.specs.Totals.{sum_of_parts}
use Rattle.integer_bits.proofs.Cutting.{stands_cut, kept_exact}
use Rattle.integer_bits.proofs.totals.sum_if.Goals as goal

pub returns-clause-value : goal.returns-clause-value
returns-clause-value c = λ bits f. kept_exact c.args.width _ _ c.requires.some
    (stands_cut c.args.width c.sum_within.new.circuit _ c.in_ok-sum.sum _ (subst (λ ps. StandsFor c.args.width c.sum_within.new.circuit (sum_of_parts c.args.circuit.now ps) c.in_ok-sum.sum) c.as_slice.ensures c.in_ok-sum.ensures.sum) c.requires.some c.in_ok-wires.ensures.items bits) f

pub returns-clause-cut : goal.returns-clause-cut
returns-clause-cut c =
    stands_cut c.args.width c.sum_within.new.circuit _ c.in_ok-sum.sum _ (subst (λ ps. StandsFor c.args.width c.sum_within.new.circuit (sum_of_parts c.args.circuit.now ps) c.in_ok-sum.sum) c.as_slice.ensures c.in_ok-sum.ensures.sum) c.requires.some c.in_ok-wires.ensures.items
