use Rattle.std.proofs.Common.{◌≡◌, ◌++◌, map, take}
use Rattle.std.specs.Prelude.{is_some}
use Rattle.instance_decoder.proofs.packing.push_lives.Given as goal

abbrev pub invariant-loop-at : goal.invariant-loop-at
invariant-loop-at l = l.bits ≡ l.fn.bits ++ map is_some (take l.at l.table)
