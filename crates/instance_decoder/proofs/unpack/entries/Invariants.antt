use Rattle.std.proofs.Common.{◌≡◌, map}
use Rattle.std.specs.List.{filter}
use Rattle.clf_tree.specs.Lists.{numbers_below}
use Rattle.shown_instance.specs.Shown.{entry_at, is_live}
use Rattle.instance_decoder.proofs.unpack.entries.Given as goal

abbrev pub invariant-loop-slot : goal.invariant-loop-slot
invariant-loop-slot l = l.entries ≡ map (entry_at l.layout l.bits) (filter (is_live l.layout l.bits) (numbers_below l.slot))
