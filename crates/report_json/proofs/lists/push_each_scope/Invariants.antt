-- The parts so far are written.
use Rattle.std.proofs.Common.{◌≡◌, ◌++◌, take, map}
use Rattle.report_json.specs.Json.{commas, scope_json}
use Rattle.report_json.proofs.lists.push_each_scope.Given as goal

abbrev pub invariant-loop-at : goal.invariant-loop-at
invariant-loop-at l = l.text ≡ l.initial.text ++ commas (map (scope_json l.clafers l.scopes) (take l.at l.list))
