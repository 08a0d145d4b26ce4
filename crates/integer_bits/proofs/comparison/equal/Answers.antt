use Rattle.std.proofs.Common.{arith}
use Rattle.integer_bits.proofs.BitTests.{equal_exact, fits_all}
use Rattle.integer_bits.proofs.Resizing.{needed_fits}
use Rattle.integer_bits.proofs.comparison.equal.Goals as goal

pub returns-clause-value : goal.returns-clause-value
returns-clause-value c =
    equal_exact c.args.circuit.now c.differ_first.new.circuit c.not.new.self c.args.a.now c.args.b.now c.in_ok-long_a.long_a c.in_ok-long_b.long_b _ c.in_ok-differ.differ c.in_ok-same.same
    (omega (arith, c.max-width.ensures, c.needed.ensures.some)) c.in_ok-long_a.ensures.items c.in_ok-long_b.ensures.items c.requires.a_some c.requires.b_some
    (fits_all c.needed.result _ 0 c.args.a.now (omega (arith, c.max-width.ensures, c.needed.ensures.some)) (needed_fits c.needed.result c.args.a.now c.needed.ensures.some c.needed.ensures.within c.needed.ensures.same) c.args.circuit.now)
    (fits_all c.needed-2.result _ 0 c.args.b.now (omega (arith, c.max-width.ensures, c.needed-2.ensures.some)) (needed_fits c.needed-2.result c.args.b.now c.needed-2.ensures.some c.needed-2.ensures.within c.needed-2.ensures.same) c.args.circuit.now)
    c.in_ok-differ.ensures.test c.in_ok-same.ensures.value
