use Rattle.std.proofs.Common.{◌≡◌, length}
use Rattle.question_space.proofs.questions.inputs_alone.Given as goal
use Rattle.set_bits.specs.Fitting.{IsRead}

abbrev pub invariant-loop-at : goal.invariant-loop-at
invariant-loop-at l = IsRead l.circuit (length l.circuit) × (length l.circuit ≡ l._at)
