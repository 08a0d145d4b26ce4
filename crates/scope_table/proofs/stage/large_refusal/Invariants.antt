use Rattle.std.proofs.Common.{◌≡◌, ◌-◌, length}
use Rattle.std.specs.Prelude.{slice_get}
use Rattle.std.specs.List.{flat_map, range_with_len}
use Rattle.clf_tree.specs.declared.scopes.Given.{Given}
use Rattle.clf_tree.specs.Lists.{numbers_below}
use Rattle.scope_table.specs.Refusals.{large_refusals}
use Rattle.scope_table.specs.Steps.{IsGiven, AreLargest}
use Rattle.scope_table.proofs.stage.large_refusal.Given as goal

abbrev pub invariant-loop-clafer : goal.invariant-loop-clafer
invariant-loop-clafer l =
    (given : Given) → IsGiven l.clafers given.scopes l.table → AreLargest l.clafers given l.of
    → slice_get (flat_map (large_refusals l.clafers given) (numbers_below (length l.clafers))) 0
    ≡ slice_get (flat_map (large_refusals l.clafers given) (range_with_len l.clafer (length l.clafers - l.clafer))) 0
