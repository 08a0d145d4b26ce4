use Rattle.std.proofs.Common.{◌≡◌, sum, take}
use Rattle.scope_table.specs.Largest.{told}
use Rattle.scope_table.proofs.stage.sum_of.Given as goal

abbrev pub invariant-loop-most : goal.invariant-loop-most
invariant-loop-most l = l.total ≡ told (sum (take l.most-index l.of))
