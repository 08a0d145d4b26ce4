use Rattle.std.proofs.Common.{◌≡◌, take}
use Rattle.scope_table.proofs.stage.narrowed.Given as goal

abbrev pub invariant-loop-most : goal.invariant-loop-most
invariant-loop-most l = l.narrow ≡ take l.most-index l.of
