use Rattle.std.proofs.Common.{◌≡◌, take, true}
use Rattle.std.specs.List.{list_all}
use Rattle.integer_bits.specs.Totals.{is_constant_of}
use Rattle.integer_bits.proofs.products.is_constant.Given as goal

abbrev pub invariant-loop-at : goal.invariant-loop-at
invariant-loop-at l = list_all (is_constant_of l.circuit) (take l.at l.a) ≡ true
