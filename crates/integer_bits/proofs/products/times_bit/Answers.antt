use Rattle.integer_bits.proofs.Shifting.{times_signed, times_unsigned}
use Rattle.integer_bits.proofs.products.times_bit.Goals as goal

pub returns-then-signed-clause-product : goal.returns-then-signed-clause-product
returns-then-signed-clause-product c =
    times_signed c.args.width c.args.circuit.now c.where_here.new.circuit c.negate_within.new.circuit c.args.by c.args.a.now c.in_ok-part.part c.in_ok-negative.negative c.args.signed c.if-signed.true c.in_ok-part.ensures.number c.in_ok-negative.ensures.negative

pub returns-clause-product : goal.returns-clause-product
returns-clause-product c =
    times_unsigned c.args.width c.args.circuit.now c.where_here.new.circuit c.args.by c.args.a.now c.in_ok-part.part c.args.signed c.if-signed.false c.in_ok-part.ensures.number
