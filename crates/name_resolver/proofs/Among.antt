-- The clafers of a name, with one more item of the list.
use Rattle.std.proofs.Common.{◌≡◌, ℕ, ◌+◌, ◌<◌, true, false, List, [], ◌∷◌, ◌++◌, length, get_or, take, cond, ap, ◌∙◌, append-nil}
use Rattle.std.proofs.lemmas.List.{take_more}
use Rattle.std.proofs.lemmas.List.Elements.{filter-append}
use Rattle.clf_tree.specs.declared.model.Clafer.{Clafer}
use Rattle.name_resolver.specs.Ways.{is_named}
use Rattle.name_resolver.specs.Levels.{named}

named-more : (clafers : List Clafer) (name ms : List ℕ) (i : ℕ) → i < length ms
    → named clafers name (take (i + 1) ms) ≡ named clafers name (take i ms) ++ cond (is_named clafers name (get_or ms i 0)) (get_or ms i 0 ∷ []) []
named-more clafers name ms i within = ap (named clafers name) (take_more ms i 0 within) ∙ filter-append (is_named clafers name) (take i ms) (get_or ms i 0 ∷ [])

pub named-kept : (clafers : List Clafer) (name ms : List ℕ) (i : ℕ) → i < length ms → is_named clafers name (get_or ms i 0) ≡ true
    → named clafers name (take (i + 1) ms) ≡ named clafers name (take i ms) ++ get_or ms i 0 ∷ []
named-kept clafers name ms i within pass =
    named-more clafers name ms i within ∙ ap (λ b. named clafers name (take i ms) ++ cond b (get_or ms i 0 ∷ []) []) pass

pub named-dropped : (clafers : List Clafer) (name ms : List ℕ) (i : ℕ) → i < length ms → is_named clafers name (get_or ms i 0) ≡ false
    → named clafers name (take (i + 1) ms) ≡ named clafers name (take i ms)
named-dropped clafers name ms i within fail =
    named-more clafers name ms i within ∙ ap (λ b. named clafers name (take i ms) ++ cond b (get_or ms i 0 ∷ []) []) fail ∙ append-nil (named clafers name (take i ms))

pub ruleset named_steps = (named-kept, named-dropped)
