use Rattle.std.proofs.Common.{arith, refl}
use Rattle.integer_bits.proofs.BitTests.{less_exact, fits_all}
use Rattle.integer_bits.proofs.Resizing.{needed_fits}
use Rattle.integer_bits.proofs.comparison.less.Goals as goal

pub returns-clause-value : goal.returns-clause-value
returns-clause-value c =
    less_exact c.args.circuit.now c.is_first_below.new.circuit c.below_bit.new.circuit c.args.a.now c.args.b.now c.in_ok-long_a.long_a c.in_ok-long_b.long_b _ _ c.in_ok-told.told c.get-x.result.now c.get-y.result.now c.in_ok-more.more
    refl c.in_ok-long_a.ensures.items c.in_ok-long_b.ensures.items c.requires.a_some c.requires.b_some
    (fits_all c.needed.result _ 0 c.args.a.now (omega (arith, c.max-last.ensures, c.needed.ensures.some)) (needed_fits c.needed.result c.args.a.now c.needed.ensures.some c.needed.ensures.within c.needed.ensures.same) c.args.circuit.now)
    (fits_all c.needed-2.result _ 0 c.args.b.now (omega (arith, c.max-last.ensures, c.needed-2.ensures.some)) (needed_fits c.needed-2.result c.args.b.now c.needed-2.ensures.some c.needed-2.ensures.within c.needed-2.ensures.same) c.args.circuit.now)
    (c.in_ok-long_a.ensures.wires c.args.circuit.now c.requires.a_in) (c.in_ok-long_b.ensures.wires c.args.circuit.now c.requires.b_in)
    c.in_ok-told.ensures.test c.get-x.ensures c.get-y.ensures c.in_ok-more.ensures.value
