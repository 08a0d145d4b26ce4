-- What a text stands for before its names are looked up: its tokens, its module and its plain model; and its first refusal where it
-- has no module.
use Rattle.std.specs.Prelude.{◌≡◌, ℕ, List, None, Result, Ok, Err}
use Rattle.clf_base.specs.declared.fault.Refusal.{Refusal}
use Rattle.refusal_order.specs.Order.{first_refusal}
use Rattle.clf_tree.specs.declared.token.Token.{Token}
use Rattle.clf_tree.specs.declared.module.Item.{Item}
use Rattle.clf_tree.specs.declared.module.Module.{Module}
use Rattle.clf_tree.specs.declared.plain.Plain.{Plain}
use Rattle.clafer_lexer.specs.Cuts.{IsLexed, IsFirstRefusal as HasNoTokens}
use Rattle.clafer_lexer.specs.Layout.{laid}
use Rattle.clafer_grammar.specs.Symbols.{symbols}
use Rattle.clafer_grammar.specs.Modules.{SpellsModule}
use Rattle.clafer_parser.specs.Limits.{AreFine, IsFirstRefusal as SpellsNoModule}
use Rattle.clafer_desugar.specs.PlainModel.{plain_of}
use Rattle.clafer_desugar.specs.Refusals.{refusals}

-- the laid tokens of a text
abbrev pub IsLaidText : List ℕ → List Token → Type 0
IsLaidText text out = (tokens : List Token) × IsLexed text tokens × (laid tokens ≡ Ok out)

-- the text is cut and laid, its tokens are within the limits and are used, and they spell the module of these items
pub record SpellsItems (text : List ℕ) (items : List Item) : Type 0 where
  pub tokens : List Token
  pub laid_text : IsLaidText text tokens
  pub fine : AreFine (symbols tokens)
  pub spelled : SpellsModule (symbols tokens) items

abbrev pub module_of : List Item → Module
module_of items = record { items = items }

-- the text has a module of which nothing is refused, and this is its plain model
pub record IsPlainText (text : List ℕ) (plain : Plain) : Type 0 where
  pub items : List Item
  pub spelled : SpellsItems text items
  pub accepted : first_refusal (refusals (module_of items)) ≡ None
  pub model : plain ≡ plain_of (module_of items)

-- the first refusal of a text that has no module: of its cut into tokens, else of their layout, else of the laid tokens
pub data HasNoModule (text : List ℕ) : Refusal → Type 0 where
  no_tokens : {refusal : Refusal} → HasNoTokens text refusal → HasNoModule text refusal
  no_layout : {tokens : List Token} {refusal : Refusal} → IsLexed text tokens → laid tokens ≡ Err refusal → HasNoModule text refusal
  not_spelled : {tokens : List Token} {refusal : Refusal} → IsLaidText text tokens → SpellsNoModule (symbols tokens) refusal → HasNoModule text refusal
