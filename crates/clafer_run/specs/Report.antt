-- The reports of a run.
use Rattle.std.specs.Prelude.{ℕ, List, [], if◌then◌else◌}
use Rattle.std.specs.Option.{option_map_or}
use Rattle.clf_tree.specs.declared.instance.Instance.{Instance}
use Rattle.clf_tree.specs.declared.vector.Front.{Front}
use Rattle.clf_tree.specs.declared.vector.FrontEnd.TheVariants.{Finished}
use Rattle.command_words.specs.declared.reading.Request.{Request}
use Rattle.model_reader.specs.declared.reader.Read.{Read}
use Rattle.front_report.specs.declared.outcome.Outcome.{Outcome}
use Rattle.front_report.specs.declared.outcome.Outcome.TheVariants as told
use Rattle.front_report.specs.Summary.{summary}
use Rattle.front_report.specs.Texts.{text_report}
use Rattle.report_json.specs.Json.{json_report}

-- as text or as JSON
abbrev pub report : Request → Read → Outcome → List ℕ
report request read outcome =
    if request.json then json_report read.model read.scopes outcome else text_report read.model read.scopes outcome

-- of a generated model there is a summary in place of a report
abbrev pub summary_or : Request → Front → List ℕ → List ℕ
summary_or request found otherwise = option_map_or (λ number. summary number found) request.generate otherwise

-- a front of nothing, with its one claim
abbrev pub nothing_found : Front
nothing_found = record { points = []; ended = Finished; claims = 1 }

abbrev pub instance_report : Request → Read → Instance → List ℕ
instance_report request read found = report request read (told.One found)

abbrev pub no_instance_report : Request → Read → List ℕ
no_instance_report request read = summary_or request nothing_found (report request read told.NoInstance)

abbrev pub spent_report : Request → Read → List ℕ
spent_report request read = report request read told.OneSpent

abbrev pub front_report : Request → Read → Front → List ℕ
front_report request read found = summary_or request found (report request read (told.Front found))
