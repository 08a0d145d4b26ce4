use Rattle.std.proofs.Common.{◌≡◌, true}
use Rattle.std.specs.Prelude.{not}
use Rattle.std.specs.List.{list_all}
use Rattle.instance_decoder.specs.Packing.{Adds}
use Rattle.instance_decoder.proofs.numbers.push_false.Given as goal

abbrev pub invariant-loop-at : goal.invariant-loop-at
invariant-loop-at l = Adds l.fn.bits l.bits l._at (λ bs. list_all not bs ≡ true)
