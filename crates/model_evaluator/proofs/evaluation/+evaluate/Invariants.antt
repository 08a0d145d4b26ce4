use Rattle.std.proofs.Common.{◌≡◌, ◌<◌, ◌++◌, take}
use Rattle.clf_tree.specs.Meaning.{is_true}
use Rattle.clf_tree.specs.Tree.{tree}
use Rattle.model_evaluator.specs.Asked.{found_in}
use Rattle.model_evaluator.specs.Computed.{computed}
use Rattle.model_evaluator.proofs.evaluation.+evaluate.Given as goal

abbrev pub invariant-found_among-loop-tuple : goal.invariant-found_among-loop-tuple
invariant-found_among-loop-tuple l = record {
  so_far : l.found ≡ found_in l.wanted (λ ns. is_true (computed l.model.clafers l.tables.entries (tree l.body) (record { within = l.within; this = l.place.this; bound = l.place.bound ++ ns }))) (take l.tuple-index l.tuples);
  few : l.found < l.limit;
}
