-- The parts so far are written.
use Rattle.std.proofs.Common.{◌≡◌, ◌++◌, take, map}
use Rattle.report_json.specs.Json.{commas, witnessed_json}
use Rattle.report_json.proofs.lists.push_points.Given as goal

abbrev pub invariant-loop-at : goal.invariant-loop-at
invariant-loop-at l = l.text ≡ l.initial.text ++ commas (map (witnessed_json l.clafers) (take l.at l.points))
