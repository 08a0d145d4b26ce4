use Rattle.shown_instance.proofs.Spelled.{bits_there}
use Rattle.shown_instance.proofs.laws.each_instance_has_bits.Goals as goal

pub returns : goal.returns
returns c = bits_there c.what_fits_is_kept.ensures.size c.what_fits_is_kept.ensures.spells
