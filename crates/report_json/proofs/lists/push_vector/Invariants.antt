-- The parts so far are written.
use Rattle.std.proofs.Common.{◌≡◌, ◌++◌, take, map}
use Rattle.report_json.specs.Json.{commas, value_json}
use Rattle.report_json.proofs.lists.push_vector.Given as goal

abbrev pub invariant-loop-at : goal.invariant-loop-at
invariant-loop-at l = l.text ≡ l.initial.text ++ commas (map value_json (take l.at l.values))
