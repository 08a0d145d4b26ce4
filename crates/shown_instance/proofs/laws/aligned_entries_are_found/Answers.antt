use Rattle.shown_instance.proofs.Aligning.{aligned_found}
use Rattle.shown_instance.proofs.laws.aligned_entries_are_found.Goals as goal

pub returns : goal.returns
returns c = aligned_found
