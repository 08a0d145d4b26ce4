use Rattle.std.proofs.Common.{take}
use Rattle.clause_encoder.specs.Encoding.{EncodesGates}
use Rattle.clause_encoder.proofs.encode.gate_clauses.Given as goal

abbrev pub invariant-loop-number : goal.invariant-loop-number
invariant-loop-number l = EncodesGates (take l.number l.gates) l.clauses
