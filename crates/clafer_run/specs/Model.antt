-- The outcome for a model text within the limit.
use Rattle.std.specs.Prelude.{◌≡◌, ℕ, List, Option, None, Some}
use Rattle.clf_base.specs.declared.fault.Refusal.{Refusal}
use Rattle.clf_base.specs.declared.status.Status.{Status}
use Rattle.clf_base.specs.declared.status.Status.TheVariants.{Done, NoInstance, Refused, Unfinished}
use Rattle.clf_tree.specs.declared.instance.Instance.{Instance}
use Rattle.clf_tree.specs.declared.vector.Front.{Front}
use Rattle.command_words.specs.declared.reading.Request.{Request}
use Rattle.command_words.specs.declared.wanted.Wanted.{Wanted}
use Rattle.command_words.specs.declared.wanted.Wanted.TheVariants as wanted
use Rattle.model_reader.specs.declared.reader.Read.{Read}
use Rattle.model_reader.specs.Reading.{IsReadOf, IsRefused}
use Rattle.question_space.specs.declared.spending.Spending.{Spending}
use Rattle.any_instance.specs.Settled.{IsInstance, IsRefuted, IsSpentOn}
use Rattle.front_report.specs.Refusals.{error_line}
use Rattle.clafer_run.specs.declared.ending.Ending.{Ending}
use Rattle.clafer_run.specs.Fronts.{IsWhole, IsPart, IsTooLong}
use Rattle.clafer_run.specs.Report.{instance_report, no_instance_report, spent_report, front_report}

-- the status alone, with nothing handed back
pub record IsBare (ending : Ending) (status : Status) : Type 0 where
  pub status_is : ending.status ≡ status
  pub nothing_spent : ending.spent ≡ None
  pub nothing_closed : ending.closed ≡ None

-- the output and the ending for a refusal
abbrev pub IsTold : Refusal → List ℕ → Ending → Type 0
IsTold refusal output ending = (output ≡ error_line refusal) × IsBare ending Refused

-- there is an instance, and its tree is told
pub record TellsInstance (request : Request) (read : Read) (output : List ℕ) : Type 0 where
  pub found : Instance
  pub instance : IsInstance read.model read.scopes found.entries
  pub told : output ≡ instance_report request read found

-- there is a front of this kind, and its points are told
pub record TellsFront (request : Request) (read : Read) (output : List ℕ) (kind : Front → Type 0) : Type 0 where
  pub found : Front
  pub is : kind found
  pub told : output ≡ front_report request read found

-- what a model's output, status and what is handed back say: an instance, or none with a closing, or a spent budget with a spending
abbrev pub OneOutcome : Request → Read → List ℕ → Status → Option Spending → Option Spending → Type 0
OneOutcome request read output Done None None = TellsInstance request read output
OneOutcome request read output NoInstance None (Some closed) =
    IsRefuted read closed × (output ≡ no_instance_report request read)
OneOutcome request read output Unfinished (Some spent) None =
    IsSpentOn read request.budget spent × (output ≡ spent_report request read)
OneOutcome request read output _ _ _ = ⊥

-- the same for the front: it is told whole, with a closing; or there is no instance, with a closing; or points of it with a spending, or
-- as many as are told, with nothing
abbrev pub FrontOutcome : Request → Read → List ℕ → Status → Option Spending → Option Spending → Type 0
FrontOutcome request read output Done None (Some closed) = TellsFront request read output (IsWhole read closed)
FrontOutcome request read output NoInstance None (Some closed) =
    IsRefuted read closed × (output ≡ no_instance_report request read)
FrontOutcome request read output Unfinished (Some spent) None = TellsFront request read output (IsPart read request.budget spent)
FrontOutcome request read output Unfinished None None = TellsFront request read output (IsTooLong read)
FrontOutcome request read output _ _ _ = ⊥

abbrev pub OneAnswer : Request → Read → List ℕ → Ending → Type 0
OneAnswer request read output ending = OneOutcome request read output ending.status ending.spent ending.closed

abbrev pub FrontAnswer : Request → Read → List ℕ → Ending → Type 0
FrontAnswer request read output ending = FrontOutcome request read output ending.status ending.spent ending.closed

-- the outcome for what is asked for
abbrev pub WantedOutcome : Wanted → Request → Read → List ℕ → Ending → Type 0
WantedOutcome wanted.One = OneAnswer
WantedOutcome wanted.Front = FrontAnswer

abbrev pub ReadOutcome : Request → Read → List ℕ → Ending → Type 0
ReadOutcome request = WantedOutcome request.wanted request

-- the output and the ending for a text within the limit: that of its first refusal, or else that of what it is read as
pub data TextReading (request : Request) (text : List ℕ) (output : List ℕ) (ending : Ending) : Type 0 where
  refused : (refusal : Refusal) → IsRefused text request.given refusal → IsTold refusal output ending
      → TextReading request text output ending
  read : (found : Read) → IsReadOf text request.given found → ReadOutcome request found output ending
      → TextReading request text output ending

unfoldable pub ModelOutcome : Request → List ℕ → List ℕ → Ending → Type 0
ModelOutcome request text output ending = TextReading request text output ending
