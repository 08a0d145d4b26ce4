use Rattle.shown_instance.proofs.Packing.{packed_shows}
use Rattle.shown_instance.proofs.laws.packed_bits_show.Goals as goal

pub returns : goal.returns
returns c = packed_shows
