use Rattle.std.proofs.Common.{◌≡◌, take}
use Rattle.model_evaluator.specs.Sources.{reached}
use Rattle.model_evaluator.proofs.node_sets.parent_list.Given as goal

abbrev pub invariant-loop-entry : goal.invariant-loop-entry
invariant-loop-entry l = l.found ≡ reached (λ x. x.parent) l.set.nodes (take l.entry-index l.entries)
