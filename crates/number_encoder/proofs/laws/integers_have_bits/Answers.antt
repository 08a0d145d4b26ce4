use Rattle.number_encoder.proofs.Ranges.{range_some}
use Rattle.number_encoder.proofs.laws.integers_have_bits.Goals as goal

pub returns : goal.returns
returns c = range_some
