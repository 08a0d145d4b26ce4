use Rattle.canonical_encoder.proofs.Told.{told, shown_told}
use Rattle.canonical_encoder.proofs.laws.canonical_slots_show_canonical_instances.Goals as goal

pub returns-clause-told : goal.returns-clause-told
returns-clause-told c = told

pub returns-clause-shown : goal.returns-clause-shown
returns-clause-shown c = shown_told
