use Rattle.std.proofs.Common.{◌≡◌, ◌*◌, length}
use Rattle.std.specs.Prelude.{IfSome}
use Rattle.set_bits.specs.Fitting.{ends_below}
use Rattle.instance_encoder.specs.Wiring.{IsWiredSoFar, near_of, near_slots}
use Rattle.instance_encoder.proofs.edges.edges.Given as goal

abbrev pub invariant-loop-from : goal.invariant-loop-from
invariant-loop-from l = record {
  wired : IsWiredSoFar (length l.fn.circuit) (l.from * length l.slots) (ends_below (near_of l.tie l.clafers) l.slots l.from) l.circuit l.edges;
  kept : IfSome l.near.clafer (λ c. l.near.slots ≡ near_slots l.tie l.clafers l.slots c);
}
