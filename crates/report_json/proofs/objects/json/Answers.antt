-- The parts of the report, one behind the other.
use Rattle.std.proofs.Common.{List, ◌++◌, ◌∙◌, ap}
use Rattle.std.specs.Prelude.{codes, decimal}
use Rattle.clf_tree.specs.declared.model.Clafer.{Clafer}
use Rattle.json.specs.Print.{quoted}
use Rattle.report_json.specs.Json.{json_report, claims_of, range_json, points_json, result_of, scopes_json}
use Rattle.report_json.proofs.Parts.{nine}
use Rattle.report_json.proofs.objects.json.Goals as goal

pub returns : goal.returns
unfolding json_report
returns c =
    let clafers = c.args.model.now.clafers in
    let scopes = c.args.scopes.now in
    let outcome = c.args.outcome.now in
    nine (codes "{\"claims\":" ++ decimal (claims_of outcome)) (range_json scopes) (codes ",\"points\":[") (points_json clafers outcome)
    (codes "]") (codes ",\"result\":") (quoted (result_of outcome)) (codes ",\"scopes\":[") (scopes_json clafers scopes) (codes "]}\n")
    c.new-text.ensures c.in_ok-push_claims.ensures c.in_ok-push_range.ensures c.in_ok-extend.ensures.ok
    (c.in_ok-push_found.ensures ∙ ap (λ (k : List Clafer). c.extend.new.self ++ points_json k outcome) c.as_slice-clafers.ensures)
    c.in_ok-extend-2.ensures.ok c.in_ok-push_result.ensures c.in_ok-extend-3.ensures.ok
    (c.in_ok-push_scopes.ensures ∙ ap (λ (k : List Clafer). c.extend-3.new.self ++ scopes_json k scopes) c.as_slice-clafers.ensures)
    c.in_ok-extend-4.ensures.ok
