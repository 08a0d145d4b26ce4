-- The lines of the features so far.
use Rattle.std.proofs.Common.{◌≡◌, ◌++◌}
use Rattle.std.specs.List.{flat_map}
use Rattle.model_generator.specs.Generated.{optional_line, numbers_below}
use Rattle.model_generator.proofs.push_features.Given as goal

abbrev pub invariant-loop-feature : goal.invariant-loop-feature
invariant-loop-feature l = l.text ≡ l.initial.text ++ flat_map optional_line (numbers_below l.feature)
