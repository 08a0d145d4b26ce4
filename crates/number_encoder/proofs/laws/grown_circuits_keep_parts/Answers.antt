use Rattle.number_encoder.proofs.Standing.{parts_stay, present_stays}
use Rattle.number_encoder.proofs.laws.grown_circuits_keep_parts.Goals as goal

pub returns : goal.returns
returns c = record { parts = parts_stay; values = present_stays }
