use Rattle.std.proofs.Common.{◌≤◌, ◌+◌, length, take}
use Rattle.instance_encoder.proofs.Wiring.{IsMore}
use Rattle.instance_encoder.proofs.edges.push_edges.Given as goal

abbrev pub invariant-loop-at : goal.invariant-loop-at
invariant-loop-at l = record {
  room : length l.circuit ≤ length l.fn.circuit + l.at;
  more : IsMore l.from (take l.at l.near) l.fn.circuit l.fn.edges l.circuit l.edges;
}
