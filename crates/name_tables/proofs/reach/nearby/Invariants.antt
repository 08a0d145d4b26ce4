use Rattle.std.proofs.Common.{◌≡◌, take, map}
use Rattle.name_tables.specs.Labels.{only_at}
use Rattle.name_tables.proofs.reach.nearby.Given as goal

abbrev pub invariant-loop-clafer : goal.invariant-loop-clafer
invariant-loop-clafer l = l.all ≡ map (only_at l.labels) (take l.clafer-index l.clafers)
