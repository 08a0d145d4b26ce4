-- The parts so far are written.
use Rattle.std.proofs.Common.{◌≡◌, ◌++◌, take, map}
use Rattle.report_json.specs.Json.{commas, entry_json}
use Rattle.report_json.proofs.lists.push_entries.Given as goal

abbrev pub invariant-loop-at : goal.invariant-loop-at
invariant-loop-at l = l.text ≡ l.initial.text ++ commas (map (entry_json l.clafers) (take l.at l.entries))
