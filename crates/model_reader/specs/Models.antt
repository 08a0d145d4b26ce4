-- The model that a text stands for, its names looked up and its expressions of fitting kinds; and the first refusal on the way.
use Rattle.std.specs.Prelude.{◌≡◌, ℕ, List, Some, None}
use Rattle.clf_base.specs.declared.fault.Refusal.{Refusal}
use Rattle.refusal_order.specs.Order.{first_refusal}
use Rattle.clf_tree.specs.declared.module.Item.{Item}
use Rattle.clf_tree.specs.declared.plain.Plain.{Plain}
use Rattle.clf_tree.specs.declared.model.Model.{Model}
use Rattle.clafer_desugar.specs.Refusals.{refusals}
use Rattle.model_resolver.specs.Resolved.{IsResolved, refusal_of}
use Rattle.type_checker.specs.Refusals.{model_refusal}
use Rattle.model_reader.specs.Texts.{SpellsItems, module_of, IsPlainText, HasNoModule}

-- the text has a plain model in which no name is refused, and this is its model
pub record IsNamedText (text : List ℕ) (model : Model) : Type 0 where
  pub plain : Plain
  pub of_text : IsPlainText text plain
  pub accepted : refusal_of plain ≡ None
  pub resolved : IsResolved plain model

-- besides, each operand in it fits its position
pub record IsTypedText (text : List ℕ) (model : Model) : Type 0 where
  pub named : IsNamedText text model
  pub accepted : model_refusal model ≡ None

-- the first refusal of a text that has no such model: of its module, else of its plain model, else of its names, else of its kinds
pub data HasNoModel (text : List ℕ) : Refusal → Type 0 where
  no_module : {refusal : Refusal} → HasNoModule text refusal → HasNoModel text refusal
  no_plain : {items : List Item} {refusal : Refusal} → SpellsItems text items → first_refusal (refusals (module_of items)) ≡ Some refusal → HasNoModel text refusal
  no_names : {plain : Plain} {refusal : Refusal} → IsPlainText text plain → refusal_of plain ≡ Some refusal → HasNoModel text refusal
  no_kinds : {model : Model} {refusal : Refusal} → IsNamedText text model → model_refusal model ≡ Some refusal → HasNoModel text refusal
