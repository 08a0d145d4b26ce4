use Rattle.std.proofs.Common.{◌≡◌, drop}
use Rattle.std.specs.List.{list_all}
use Rattle.instance_text.specs.Placed.{is_placed}
use Rattle.instance_text.proofs.entries.are_placed.Given as goal

abbrev pub invariant-loop-entry : goal.invariant-loop-entry
invariant-loop-entry l = list_all (is_placed l.clafers) (drop l.entry-index l.entries) ≡ list_all (is_placed l.clafers) l.entries
