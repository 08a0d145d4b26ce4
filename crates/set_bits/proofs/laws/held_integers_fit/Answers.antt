use Rattle.set_bits.proofs.Staying.{held_fits}
use Rattle.set_bits.proofs.laws.held_integers_fit.Goals as goal

pub returns : goal.returns
returns c = held_fits
