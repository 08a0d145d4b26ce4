use Rattle.std.proofs.Common.{◌≡◌}
use Rattle.std.specs.List.{filter}
use Rattle.clf_tree.specs.Lists.{numbers_below, has}
use Rattle.clf_tree.specs.Hierarchy.{concrete_below}
use Rattle.set_bits.specs.Fitting.{slot_clafer}
use Rattle.instance_encoder.proofs.near.slots_below.Given as goal

abbrev pub invariant-loop-slot : goal.invariant-loop-slot
invariant-loop-slot l = l.found ≡ filter (λ j. has (concrete_below l.clafers l.high) (slot_clafer l.slots j)) (numbers_below l.slot)
