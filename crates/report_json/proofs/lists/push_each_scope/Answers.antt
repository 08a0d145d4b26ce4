-- One more scope, with its comma.
use Rattle.std.proofs.Common.{◌<◌, length, rules}
use Rattle.report_json.specs.Json.{scope_json}
use Rattle.report_json.proofs.Parts.{part_more}
use Rattle.report_json.proofs.lists.push_each_scope.Goals as goal

pub loop-at-preserved : goal.loop-at-preserved
loop-at-preserved c =
    let list = c.args.list.now in
    let less : c.loop-at.at < length list = search rules in
    part_more (scope_json c.args.clafers.now c.args.scopes.now) list c.loop-at.at 0 c.args.text.now c.loop-at.text c.push_comma.new.text
    c.push_scope.new.text less c.loop-at.invariant c.in_ok-push_comma.ensures c.in_ok-push_scope.ensures
