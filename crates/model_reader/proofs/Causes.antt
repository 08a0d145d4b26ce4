-- A refusal of a stage is the first of the text.
use Rattle.std.proofs.Common.{◌≡◌, ℕ, ◌≤◌, ◌<◌, ◌^◌, List, length, Option, Some, None, Result, Ok, Err, ap, arith, ◌∙◌}
use Rattle.clf_base.specs.declared.fault.Fault.{Fault}
use Rattle.clf_base.specs.declared.fault.Fault.TheVariants as fault
use Rattle.clf_base.specs.declared.fault.Refusal.{Refusal}
use Rattle.clf_tree.specs.declared.token.Token.{Token}
use Rattle.clf_tree.specs.declared.module.Item.{Item}
use Rattle.clafer_lexer.specs.Cuts as cuts
use Rattle.clafer_lexer.specs.Cuts.{IsLexed, IsFirstRefusal as HasNoTokens}
use Rattle.clafer_lexer.specs.Layout.{laid}
use Rattle.clafer_grammar.specs.Symbols.{symbols}
use Rattle.clafer_parser.specs.Limits as limits
use Rattle.clafer_parser.specs.Limits.{IsFirstRefusal as SpellsNoModule}
use Rattle.clafer_desugar.specs.PlainModel.{count_items}
use Rattle.clafer_desugar.specs.Refusals as plain
use Rattle.clf_tree.specs.declared.plain.Plain.{Plain}
use Rattle.clf_tree.specs.declared.model.Clafer.{Clafer}
use Rattle.clf_tree.specs.declared.model.Model.{Model}
use Rattle.clf_tree.specs.declared.scopes.Scopes.{Scopes}
use Rattle.clf_tree.specs.declared.scopes.Given.{Given}
use Rattle.clafer_desugar.specs.PlainModel.{plain_of}
use Rattle.model_resolver.specs.Resolved as names
use Rattle.type_checker.specs.Refusals as kinds
use Rattle.scope_table.specs.Refusals as scopes
use Rattle.model_weight.specs.Refusals as weights
use Rattle.model_reader.specs.Texts.{IsLaidText, SpellsItems, IsPlainText, HasNoModule, module_of}
use Rattle.model_reader.specs.Models.{IsNamedText, IsTypedText, HasNoModel}
use Rattle.model_reader.specs.Reading.{HasScopes, IsRefused, WhenRefused}

pub when_lexed : (text : List ℕ) (f : Fault) → cuts.WhenRefused f (HasNoTokens text) → WhenRefused f (HasNoModule text)
when_lexed text (fault.Refused r) h = HasNoModule.no_tokens h
when_lexed text fault.NoMemory h = tt

pub when_laid : (text : List ℕ) (tokens : List Token) (f : Fault) → IsLexed text tokens → cuts.WhenRefused f (λ r. laid tokens ≡ Err r) → WhenRefused f (HasNoModule text)
when_laid text tokens (fault.Refused r) lexed h = HasNoModule.no_layout lexed h
when_laid text tokens fault.NoMemory lexed h = tt

pub when_parsed : (text : List ℕ) (tokens : List Token) (f : Fault) → IsLaidText text tokens → limits.WhenRefused f (SpellsNoModule (symbols tokens)) → WhenRefused f (HasNoModule text)
when_parsed text tokens (fault.Refused r) laid_text h = HasNoModule.not_spelled laid_text h
when_parsed text tokens fault.NoMemory laid_text h = tt

pub in_module : (text : List ℕ) (f : Fault) → WhenRefused f (HasNoModule text) → WhenRefused f (HasNoModel text)
in_module text (fault.Refused r) h = HasNoModel.no_module h
in_module text fault.NoMemory h = tt

pub in_plain : (text : List ℕ) (items : List Item) (f : Fault) → SpellsItems text items → plain.Explains (module_of items) f → WhenRefused f (HasNoModel text)
in_plain text items (fault.Refused r) spelled h = HasNoModel.no_plain spelled h
in_plain text items fault.NoMemory spelled h = tt

pub in_names : (text : List ℕ) (plain : Plain) (f : Fault) → IsPlainText text plain → names.Explains plain f → WhenRefused f (HasNoModel text)
in_names text plain (fault.Refused r) of_text h = HasNoModel.no_names of_text h
in_names text plain fault.NoMemory of_text h = tt

pub in_kinds : (text : List ℕ) (model : Model) (f : Fault) → IsNamedText text model → kinds.Explains model f → WhenRefused f (HasNoModel text)
in_kinds text model (fault.Refused r) named h = HasNoModel.no_kinds named h
in_kinds text model fault.NoMemory named h = tt

pub in_model : (text : List ℕ) (given : Given) (f : Fault) → WhenRefused f (HasNoModel text) → WhenRefused f (IsRefused text given)
in_model text given (fault.Refused r) h = IsRefused.no_model h
in_model text given fault.NoMemory h = tt

pub in_scopes : (text : List ℕ) (given : Given) (model : Model) (f : Fault) → IsTypedText text model → scopes.Explains model.clafers given f → WhenRefused f (IsRefused text given)
in_scopes text given model (fault.Refused r) typed h = IsRefused.no_scopes typed h
in_scopes text given model fault.NoMemory typed h = tt

pub in_weight : (text : List ℕ) (given : Given) (model : Model) (range : Scopes) (f : Fault) → HasScopes text given model range → weights.Explains range model f → WhenRefused f (IsRefused text given)
in_weight text given model range (fault.Refused r) has h = IsRefused.too_heavy has h
in_weight text given model range fault.NoMemory has h = tt
