use Rattle.shown_instance.proofs.Whole.{consistent_bits_show, shown_bits_consistent}
use Rattle.shown_instance.proofs.consistency.consistent_bits_show_an_instance.Goals as goal

pub returns : goal.returns
returns c = record { shown = consistent_bits_show; consistent = shown_bits_consistent }
