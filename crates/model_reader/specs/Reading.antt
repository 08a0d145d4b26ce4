-- What a text and given scopes are read as: a model, its scopes and its weight; and the first refusal on the way.
use Rattle.std.specs.Prelude.{◌≡◌, ℕ, List, [], Some, None}
use Rattle.clf_base.specs.declared.fault.Fault.{Fault}
use Rattle.clf_base.specs.declared.fault.Fault.TheVariants as fault
use Rattle.clf_base.specs.declared.fault.Refusal.{Refusal}
use Rattle.clf_tree.specs.declared.model.Model.{Model}
use Rattle.clf_tree.specs.declared.scopes.Scopes.{Scopes}
use Rattle.clf_tree.specs.declared.scopes.Given.{Given}
use Rattle.scope_table.specs.Refusals.{IsFirst, AreScopes, refusals as scope_refusals}
use Rattle.int_widths.specs.Weight.{model_weight}
use Rattle.model_weight.specs.Refusals.{refusal as weight_refusal}
use Rattle.model_reader.specs.declared.reader.Read.{Read}
use Rattle.model_reader.specs.Models.{IsTypedText, HasNoModel}

-- the text has this model, and its scopes are these, of which nothing is refused
pub record HasScopes (text : List ℕ) (given : Given) (model : Model) (scopes : Scopes) : Type 0 where
  pub typed : IsTypedText text model
  pub accepted : scope_refusals model.clafers given ≡ []
  pub scopes_are : AreScopes model.clafers given scopes

-- besides, nothing is refused of its goals, its integers and its weight, which is this
pub record IsReadOf (text : List ℕ) (given : Given) (read : Read) : Type 0 where
  pub has_scopes : HasScopes text given read.model read.scopes
  pub accepted : weight_refusal read.scopes read.model ≡ None
  pub weighs : read.weight ≡ model_weight read.scopes read.model

-- the first refusal of a text with given scopes: of its model, else of the scopes, else of its goals, its integers and its weight
pub data IsRefused (text : List ℕ) (given : Given) : Refusal → Type 0 where
  no_model : {refusal : Refusal} → HasNoModel text refusal → IsRefused text given refusal
  no_scopes : {model : Model} {refusal : Refusal} → IsTypedText text model → IsFirst (scope_refusals model.clafers given) (Some refusal) → IsRefused text given refusal
  too_heavy : {model : Model} {scopes : Scopes} {refusal : Refusal} → HasScopes text given model scopes → weight_refusal scopes model ≡ Some refusal → IsRefused text given refusal

-- what holds of a refusal; want of memory says nothing
abbrev pub WhenRefused : Fault → (Refusal → Type 0) → Type 0
WhenRefused (fault.Refused refusal) p = p refusal
WhenRefused fault.NoMemory p = Unit {0}
