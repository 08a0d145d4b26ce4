use Rattle.std.proofs.Common.{◌-◌}
use Rattle.integer_bits.specs.Numbers.{FitsBits}
use Rattle.instance_decoder.specs.Packing.{Adds, SpellsBefore}
use Rattle.instance_decoder.proofs.numbers.push_spelled.Given as goal

abbrev pub invariant-loop-at : goal.invariant-loop-at
invariant-loop-at l = record {
  fits : FitsBits (l.count - l._at) l.rest;
  adds : Adds l.fn.bits l.bits l._at (SpellsBefore l.value l.rest);
}
