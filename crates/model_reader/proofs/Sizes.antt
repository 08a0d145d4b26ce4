-- A model has no more clafers than its text has bytes.
use Rattle.std.proofs.Common.{◌≡◌, ℕ, suc, ◌≤◌, ◌<◌, ◌^◌, List, [], ◌∷◌, length, map, Option, Ok, refl, ap, ◌∙◌, arith}
use Rattle.std.proofs.lemmas.List.{length-map}
use Rattle.clf_tree.specs.declared.token.Token.{Token}
use Rattle.clf_tree.specs.declared.module.Module.{Module}
use Rattle.clf_tree.specs.declared.model.Clafer.{Clafer}
use Rattle.clf_tree.specs.declared.model.Model.{Model}
use Rattle.clf_tree.specs.declared.plain.Plain.{Plain}
use Rattle.clf_tree.specs.declared.plain.PlainClafer.{PlainClafer}
use Rattle.clafer_lexer.specs.Cuts.{IsLexed}
use Rattle.clafer_lexer.specs.Layout.{laid}
use Rattle.clafer_grammar.specs.Symbols.{symbols}
use Rattle.clafer_grammar.specs.Modules.{SpellsModule}
use Rattle.clafer_desugar.specs.PlainModel.{plain_of}
use Rattle.super_linker.specs.Supers.{linked_clafer, linked}
use Rattle.target_finder.specs.Targets.{target_of, with_targets, targeted}
use Rattle.model_resolver.specs.Resolved.{resolved_clafers}
use Rattle.model_reader.specs.Texts.{module_of, IsPlainText}
use Rattle.model_reader.specs.Models.{IsNamedText}

-- look-up leaves the number of clafers
as_many : (targets : List (Option ℕ)) (clafers : List Clafer) → length (with_targets targets clafers) ≡ length clafers
as_many [] clafers = refl
as_many (t ∷ targets) [] = refl
as_many (t ∷ targets) (k ∷ clafers) = ap suc (as_many targets clafers)

resolved_counts : (ks : List PlainClafer) → length (resolved_clafers ks) ≡ length ks
unfolding targeted
resolved_counts ks = as_many (map (target_of (linked ks)) ks) (linked ks) ∙ length-map ks (linked_clafer ks)

-- the law of plain models
abbrev pub PlainAreFew : Type 0
PlainAreFew = (text : List ℕ) (tokens laid_tokens : List Token) (read : Module) → IsLexed text tokens → laid tokens ≡ Ok laid_tokens
    → SpellsModule (symbols laid_tokens) read.items → length (plain_of read).clafers ≤ length text

pub plain_fits : PlainAreFew → (text : List ℕ) (plain : Plain) → IsPlainText text plain → length plain.clafers ≤ length text
plain_fits law text plain is =
    let all : length (plain_of (module_of is.items)).clafers ≤ length text =
    law text is.spelled.laid_text.0 is.spelled.tokens (module_of is.items) is.spelled.laid_text.1 is.spelled.laid_text.2 is.spelled.spelled in
    let same : length plain.clafers ≡ length (plain_of (module_of is.items)).clafers = ap (λ (p : Plain). length p.clafers) is.model in
    omega (arith, all, same)

pub model_fits : PlainAreFew → (text : List ℕ) (model : Model) → IsNamedText text model → length model.clafers ≤ length text
model_fits law text model is =
    let all : length is.plain.clafers ≤ length text = plain_fits law text is.plain is.of_text in
    let same : length model.clafers ≡ length is.plain.clafers = ap (λ (ks : List Clafer). length ks) is.resolved.clafers ∙ resolved_counts is.plain.clafers in
    omega (arith, all, same)

pub few : (n k : ℕ) → n ≤ k → k ≤ 1048576 → n < 2 ^ 32
few n k a b = omega (arith, a, b)
