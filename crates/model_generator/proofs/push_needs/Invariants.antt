-- The lines of the features so far.
use Rattle.std.proofs.Common.{◌≡◌, ◌++◌}
use Rattle.model_generator.specs.Generated.{implied_line, is_implied}
use Rattle.model_generator.proofs.Lines.{lines}
use Rattle.model_generator.proofs.push_needs.Given as goal

abbrev pub invariant-loop-feature : goal.invariant-loop-feature
invariant-loop-feature l = l.text ≡ l.initial.text ++ lines implied_line is_implied l.feature
