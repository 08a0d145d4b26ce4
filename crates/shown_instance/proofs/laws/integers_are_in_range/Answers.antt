use Rattle.shown_instance.proofs.Packing.{shaped_in_range}
use Rattle.shown_instance.proofs.laws.integers_are_in_range.Goals as goal

pub returns : goal.returns
returns c = shaped_in_range
