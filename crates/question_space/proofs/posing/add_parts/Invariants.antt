use Rattle.std.proofs.Common.{◌≡◌, ◌++◌, map, take}
use Rattle.question_space.proofs.posing.add_parts.Given as goal
use Rattle.question_space.specs.Encoding.{literal_of}

abbrev pub invariant-loop-wire : goal.invariant-loop-wire
invariant-loop-wire l = l.parts ≡ l.fn.parts ++ map literal_of (take l.wire-index l.wires)
