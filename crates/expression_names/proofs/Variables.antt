-- Looking for a variable from the outermost one on.
use Rattle.std.proofs.Common.{◌≡◌, ℕ, zero, suc, ◌+◌, ◌-◌, ◌<◌, List, [], ◌∷◌, length, drop, get_or, Option, Some, None, refl, ap, sym, ◌∙◌, arith}
use Rattle.std.specs.Option.{option_or}
use Rattle.clf_tree.specs.declared.token.Title.{Title}
use Rattle.expression_names.specs.Scopes.{if_named, variable}

or_again : (a b c : Option ℕ) → option_or (option_or a b) c ≡ option_or a (option_or b c)
or_again None b c = refl
or_again (Some x) b c = refl

pub variable-more : (ts : List Title) (name : List ℕ) (i : ℕ) (t : Title) (f : Option ℕ) → i < length ts → t ≡ get_or ts i t
    → option_or (variable (drop i ts) name) f ≡ option_or (variable (drop (i + 1) ts) name) (option_or (if_named name t (length ts - 1 - i)) f)
variable-more [] name i t f within is = absurd (omega (arith, within))
variable-more (s ∷ ts) name zero t f within is =
    let inside : length ts ≡ length (s ∷ ts) - 1 - 0 = omega arith in
    or_again (variable ts name) (if_named name s (length ts)) f
    ∙ ap (λ (k : ℕ). option_or (variable ts name) (option_or (if_named name s k) f)) inside
    ∙ ap (λ (z : Title). option_or (variable ts name) (option_or (if_named name z (length (s ∷ ts) - 1 - 0)) f)) (sym is)
variable-more (s ∷ ts) name (suc i) t f within is =
    let inside : length ts - 1 - i ≡ length (s ∷ ts) - 1 - suc i = omega arith in
    let same : suc (i + 1) ≡ suc i + 1 = omega arith in
    variable-more ts name i t f (omega (arith, within)) is
    ∙ ap (λ (k : ℕ). option_or (variable (drop (i + 1) ts) name) (option_or (if_named name t k) f)) inside
    ∙ ap (λ (k : ℕ). option_or (variable (drop k (s ∷ ts)) name) (option_or (if_named name t (length (s ∷ ts) - 1 - suc i)) f)) same

pub ruleset variable_steps = (variable-more)
