-- The report as text.
use Rattle.std.specs.Prelude.{ℕ, List, ◌++◌, codes}
use Rattle.clf_tree.specs.declared.model.Model.{Model}
use Rattle.clf_tree.specs.declared.scopes.Scopes.{Scopes}
use Rattle.instance_text.specs.Show.{show}
use Rattle.front_report.specs.declared.outcome.Outcome.{Outcome}
use Rattle.front_report.specs.declared.outcome.Outcome.TheVariants as told
use Rattle.front_report.specs.Head.{head}
use Rattle.front_report.specs.Points.{claims_line, front_lines}

abbrev pub body : Model → Outcome → List ℕ
body model (told.One found) = codes "instance\n" ++ show model found.entries
body model told.NoInstance = codes "no instance\n" ++ claims_line 1
body model told.OneSpent = codes "unfinished E100 0\n" ++ claims_line 0
body model (told.Front found) = front_lines model found

-- the head, then what was found
unfoldable pub text_report : Model → Scopes → Outcome → List ℕ
text_report model scopes outcome = head model.clafers scopes ++ body model outcome
