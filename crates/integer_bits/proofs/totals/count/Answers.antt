use Rattle.std.proofs.Common.{subst}
use Rattle.std.specs.Prelude.{pos}
use Rattle.bool_circuit.specs.Circuit.{wire_values}
use Rattle.integer_bits.specs.Numbers.{StandsFor}
use Rattle.integer_bits.specs.Totals.{count_true}
use Rattle.integer_bits.proofs.Cutting.{stands_cut, kept_exact}
use Rattle.integer_bits.proofs.totals.count.Goals as goal

pub returns-clause-value : goal.returns-clause-value
returns-clause-value c = λ bits f. kept_exact c.args.width _ _ c.requires.some
    (stands_cut c.args.width c.count_within.new.circuit _ c.in_ok-sum.sum _ (subst (λ ps. StandsFor c.args.width c.count_within.new.circuit (λ bits. pos (count_true (wire_values c.args.circuit.now ps bits))) c.in_ok-sum.sum) c.as_slice.ensures c.in_ok-sum.ensures.sum) c.requires.some c.in_ok-all.ensures.items bits) f

pub returns-clause-cut : goal.returns-clause-cut
returns-clause-cut c =
    stands_cut c.args.width c.count_within.new.circuit _ c.in_ok-sum.sum _ (subst (λ ps. StandsFor c.args.width c.count_within.new.circuit (λ bits. pos (count_true (wire_values c.args.circuit.now ps bits))) c.in_ok-sum.sum) c.as_slice.ensures c.in_ok-sum.ensures.sum) c.requires.some c.in_ok-all.ensures.items
