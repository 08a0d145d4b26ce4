-- One more value, with its comma.
use Rattle.std.proofs.Common.{◌++◌, ◌<◌, length, get_or, ◌∙◌, ap, rules}
use Rattle.std.specs.Prelude.{ℤ, pos, FitsSigned}
use Rattle.std.specs.Int.{w128}
use Rattle.std.proofs.Math.Facts.{to_z-of_z}
use Rattle.report_json.specs.Json.{value_json}
use Rattle.report_json.proofs.Parts.{part_more}
use Rattle.report_json.proofs.lists.push_vector.Goals as goal

pub loop-at-preserved : goal.loop-at-preserved
loop-at-preserved c =
    let values = c.args.values.now in
    let at = c.loop-at.at in
    let less : at < length values = search rules in
    let fits : FitsSigned w128 (get_or values at (pos 0)) = search rules in
    part_more value_json values at (pos 0) c.args.text.now c.loop-at.text c.push_comma.new.text c.push_integer.new.text less
    c.loop-at.invariant c.in_ok-push_comma.ensures
    (c.in_ok-push_integer.ensures ∙ ap (λ (z : ℤ). c.push_comma.new.text ++ value_json z) (to_z-of_z fits))
