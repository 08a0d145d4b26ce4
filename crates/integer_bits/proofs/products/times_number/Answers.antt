use Rattle.integer_bits.proofs.Cutting.{kept_exact}
use Rattle.integer_bits.proofs.Shifting.{product_cut}
use Rattle.integer_bits.proofs.products.times_number.Goals as goal

pub returns-clause-value : goal.returns-clause-value
returns-clause-value c = λ bits f. kept_exact c.args.width _ _ c.requires.some
    (product_cut c.args.width c.args.circuit.now c.times.new.circuit c.args.a.now c.args.b.now c.in_ok-by.by c.as_slice.result.now c.in_ok-product.product _ c.requires.some c.in_ok-by.ensures c.as_slice.ensures c.in_ok-product.ensures.product c.in_ok-wires.ensures.items bits) f

pub returns-clause-cut : goal.returns-clause-cut
returns-clause-cut c =
    product_cut c.args.width c.args.circuit.now c.times.new.circuit c.args.a.now c.args.b.now c.in_ok-by.by c.as_slice.result.now c.in_ok-product.product _ c.requires.some c.in_ok-by.ensures c.as_slice.ensures c.in_ok-product.ensures.product c.in_ok-wires.ensures.items
