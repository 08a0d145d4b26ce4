use Rattle.shown_instance.proofs.Counts.{entries_counted}
use Rattle.shown_instance.proofs.Placing.{children_told}
use Rattle.shown_instance.proofs.counting.entries_are_counted.Goals as goal

pub returns : goal.returns
returns c = record { all = λ layout bits asked. entries_counted asked layout bits; below = children_told }
