use Rattle.std.proofs.Common.{◌≡◌, ◌++◌, [], drop, None, true}
use Rattle.std.specs.List.{list_all}
use Rattle.instance_text.specs.Reading.{rising}
use Rattle.instance_text.proofs.Rising.{is_upto}
use Rattle.instance_text.proofs.entries.instance_of.Given as goal

-- the entries that are left lead to the instance, and none that is there is above the last one
abbrev pub invariant-loop-entry : goal.invariant-loop-entry
invariant-loop-entry l = (l.instance.entries ++ rising l.last (drop l.entry-index l.entries) ≡ rising None l.entries) × (list_all (is_upto l.last) l.instance.entries ≡ true)
