use Rattle.shape_encoder.specs.Comparing.{HoldsKin}
use Rattle.shape_encoder.proofs.kin.slots_of_clafers.Given as goal

abbrev pub invariant-loop-slot : goal.invariant-loop-slot
invariant-loop-slot l = HoldsKin l.layout l.slot l.count l.table.items
