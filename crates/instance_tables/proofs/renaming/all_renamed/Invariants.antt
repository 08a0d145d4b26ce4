use Rattle.std.proofs.Common.{◌≡◌, map, take}
use Rattle.clf_tree.specs.Renaming.{renamed}
use Rattle.instance_tables.proofs.renaming.all_renamed.Given as goal

abbrev pub invariant-loop-entry : goal.invariant-loop-entry
invariant-loop-entry l = l.new.items ≡ map (renamed l.numbers) (take l.entry-index l.entries)
