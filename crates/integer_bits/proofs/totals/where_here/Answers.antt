use Rattle.integer_bits.proofs.Masks.{where_stands}
use Rattle.integer_bits.proofs.totals.where_here.Goals as goal

pub returns-clause-number : goal.returns-clause-number
returns-clause-number c = where_stands c.args.width c.args.circuit.now c.mask.new.circuit c.args.here c.args.a.now c.in_ok-few.few c.in_ok-masked.masked c.in_ok-few.ensures c.in_ok-masked.ensures.masked
