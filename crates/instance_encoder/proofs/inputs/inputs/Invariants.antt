use Rattle.std.proofs.Common.{◌≡◌, ◌+◌, length, map}
use Rattle.std.specs.List.{range_with_len}
use Rattle.set_bits.specs.Fitting.{IsRead}
use Rattle.instance_encoder.proofs.inputs.inputs.Given as goal

abbrev pub invariant-loop-at : goal.invariant-loop-at
invariant-loop-at l = record {
  read : IsRead l.circuit (length l.circuit);
  size : length l.circuit ≡ length l.fn.circuit + l._at;
  wires : map (λ w. w.number) l.wires ≡ range_with_len (length l.fn.circuit) l._at;
}
