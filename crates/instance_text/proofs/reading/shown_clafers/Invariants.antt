use Rattle.std.proofs.Common.{◌≡◌, map}
use Rattle.clf_tree.specs.Lists.{numbers_below}
use Rattle.instance_text.specs.Names.{shown_clafer}
use Rattle.instance_text.proofs.reading.shown_clafers.Given as goal

abbrev pub invariant-loop-clafer : goal.invariant-loop-clafer
invariant-loop-clafer l = l.names ≡ map (shown_clafer l.clafers) (numbers_below l.clafer)
