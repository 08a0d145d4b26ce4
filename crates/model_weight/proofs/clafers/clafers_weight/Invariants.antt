use Rattle.std.proofs.Common.{◌≡◌, map, sum}
use Rattle.clf_tree.specs.Lists.{numbers_below}
use Rattle.model_weight.specs.Capped.{capped}
use Rattle.model_weight.specs.Clafers.{light_at}
use Rattle.model_weight.proofs.clafers.clafers_weight.Given as goal

abbrev pub invariant-loop-clafer : goal.invariant-loop-clafer
invariant-loop-clafer l = l.total ≡ capped (sum (map (light_at l.rooms.clafers.now l.rooms.scopes.now) (numbers_below l.clafer)))
