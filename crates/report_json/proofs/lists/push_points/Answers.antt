-- One more point, with its comma.
use Rattle.std.proofs.Common.{◌++◌, ◌<◌, length, ◌∙◌, ap, rules}
use Rattle.clf_tree.specs.declared.vector.Point.{Point}
use Rattle.report_json.specs.Json.{witnessed_json}
use Rattle.report_json.proofs.Parts.{part_more}
use Rattle.report_json.proofs.lists.push_points.Goals as goal

pub loop-at-preserved : goal.loop-at-preserved
loop-at-preserved c =
    let points = c.args.points.now in
    let text = witnessed_json c.args.clafers.now in
    let less : c.loop-at.at < length points = search rules in
    part_more text points c.loop-at.at c.index-points-at.result c.args.text.now c.loop-at.text c.push_comma.new.text
    c.push_witnessed.new.text less c.loop-at.invariant c.in_ok-push_comma.ensures
    (c.in_ok-push_witnessed.ensures ∙ ap (λ (p : Point). c.push_comma.new.text ++ text p) c.index-points-at.is)
