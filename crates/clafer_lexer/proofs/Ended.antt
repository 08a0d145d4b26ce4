-- Laid tokens end with End.
use Rattle.std.proofs.Common.{◌≡◌, ℕ, List, [], ◌∷◌, ◌++◌, Option, Some, None, Result, Ok, Err, refl, sym, ap, subst, ◌∙◌, append_assoc, append-nil}
use Rattle.clf_base.specs.declared.fault.Refusal.{Refusal}
use Rattle.clf_tree.specs.declared.token.Token.{Token}
use Rattle.clf_tree.specs.declared.token.TokenKind.TheVariants.{End}
use Rattle.clafer_lexer.specs.declared.layout.Layout.{Layout}
use Rattle.clafer_lexer.specs.Cuts.{IsLexed, piece_tokens}
use Rattle.clafer_lexer.specs.Layout.{Marked, laid_kind, marks_before, laid_token, layout_after, with_marks, prepend, laid_from, laid, no_layout}
use Rattle.clafer_lexer.specs.Order.{IsEnded}

EndedOk : Result (List Token) Refusal → Type 0
EndedOk (Ok out) = IsEnded out
EndedOk (Err refusal) = Unit {0}

-- further tokens in front
longer : (front out : List Token) → IsEnded out → IsEnded (front ++ out)
longer front out o = (front ++ o.0, (o.1.0, ap (λ l. front ++ l) o.1.1 ∙ sym (append_assoc front o.0 (o.1.0 ∷ [])), o.1.2))

ended_from : (tokens : List Token) (last : Token) → last.kind ≡ End → (layout : Layout) → EndedOk (laid_from layout (tokens ++ last ∷ []))
unfolding laid_from EndedOk
ended_from [] last e layout = go (marks_before layout last)
  where
    go : (o : Option Marked) → EndedOk (with_marks layout last o (λ columns. laid_from (layout_after layout columns last) []))
    go None = tt
    go (Some m) = (m.marks, (laid_token layout last, append-nil (m.marks ++ laid_token layout last ∷ []), ap (laid_kind layout.brackets) e))
ended_from (token ∷ tokens) last e layout = go (marks_before layout token) (λ columns. ended_from tokens last e (layout_after layout columns token))
  where
    prepended : (front : List Token) (rest : Result (List Token) Refusal) → EndedOk rest → EndedOk (prepend front rest)
    prepended front (Ok out) h = longer front out h
    prepended front (Err refusal) h = tt

    go : (o : Option Marked) → ((columns : List ℕ) → EndedOk (laid_from (layout_after layout columns token) (tokens ++ last ∷ []))) →
        EndedOk (with_marks layout token o (λ columns. laid_from (layout_after layout columns token) (tokens ++ last ∷ [])))
    go None each = tt
    go (Some m) each = prepended (m.marks ++ laid_token layout token ∷ []) (laid_from (layout_after layout m.columns token) (tokens ++ last ∷ [])) (each m.columns)

pub laid_ended : (text : List ℕ) (tokens out : List Token) → IsLexed text tokens → laid tokens ≡ Ok out → IsEnded out
unfolding EndedOk
laid_ended text tokens out h e = subst EndedOk (ap (laid_from no_layout) (sym h.1.2) ∙ e) (ended_from h.1.0 _ refl no_layout)
