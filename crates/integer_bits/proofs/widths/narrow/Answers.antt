use Rattle.integer_bits.proofs.Resizing.{narrowed}
use Rattle.integer_bits.proofs.widths.narrow.Goals as goal

pub returns : goal.returns
returns c = narrowed c.args.width c.needed.result c.min-few.result c.args.a.now c.in_ok-wires.wires c.min-few.ensures c.needed.ensures.some c.needed.ensures.within c.requires.some c.needed.ensures.same c.in_ok-wires.ensures.items
