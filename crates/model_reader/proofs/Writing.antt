-- The plain model of a text is a written one.
use Rattle.std.proofs.Common.{◌≡◌, ℕ, List, None, Ok, sym, subst}
use Rattle.std.specs.Prelude.{IsTrue}
use Rattle.refusal_order.specs.Order.{first_refusal}
use Rattle.clf_tree.specs.declared.token.Token.{Token}
use Rattle.clf_tree.specs.declared.module.Module.{Module}
use Rattle.clf_tree.specs.declared.plain.Plain.{Plain}
use Rattle.clafer_lexer.specs.Cuts.{IsLexed}
use Rattle.clafer_lexer.specs.Layout.{laid}
use Rattle.clafer_grammar.specs.Symbols.{Symbol, symbols}
use Rattle.clafer_grammar.specs.Modules.{SpellsModule}
use Rattle.clafer_desugar.specs.PlainModel.{plain_of}
use Rattle.clafer_desugar.specs.Refusals.{refusals}
use Rattle.plain_models.specs.Written.{IsWritten}
use Rattle.written_modules.specs.Names.{have_names}
use Rattle.model_reader.specs.Texts.{module_of, IsPlainText}

-- the laws of names and of modules
abbrev pub NamesAreNames : Type 0
NamesAreNames = (text : List ℕ) (tokens laid_tokens : List Token) → IsLexed text tokens → laid tokens ≡ Ok laid_tokens → IsTrue (have_names (symbols laid_tokens))

abbrev pub ModulesAreWritten : Type 0
ModulesAreWritten = (tokens : List Symbol) (read : Module) → SpellsModule tokens read.items → IsTrue (have_names tokens) → first_refusal (refusals read) ≡ None → IsWritten (plain_of read)

pub is_written : NamesAreNames → ModulesAreWritten → (text : List ℕ) (plain : Plain) → IsPlainText text plain → IsWritten plain
is_written names modules text plain is =
    subst IsWritten (sym is.model)
    (modules (symbols is.spelled.tokens) (module_of is.items) is.spelled.spelled
    (names text is.spelled.laid_text.0 is.spelled.tokens is.spelled.laid_text.1 is.spelled.laid_text.2) is.accepted)
