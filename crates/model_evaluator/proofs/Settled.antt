-- What a quantifier says, by the tuples that the code found.
use Rattle.std.proofs.Common.{◌≡◌, ℕ, ◌<◌, ◌≤◌, Bool, List, ap, sym, subst, ◌∙◌}
use Rattle.clf_tree.specs.declared.token.Word.{Word}
use Rattle.clf_tree.specs.declared.instance.Node.{Node}
use Rattle.clf_tree.specs.declared.kind.Within.{Within}
use Rattle.model_evaluator.specs.Asked.{looks_for, enough, settled, found_in}
use Rattle.model_evaluator.specs.Parts.{asked}
use Rattle.model_evaluator.proofs.Decided.{decided}
use Rattle.model_evaluator.proofs.Same.{asked_is}

pub quantifier_settled : (w : Word) (test : Within → List Node → Bool) (inner : Within) (ts : List (List Node)) (wanted : Bool) (limit found : ℕ)
    → wanted ≡ looks_for w → limit ≡ enough w
    → (found < limit → found ≡ found_in wanted (test inner) ts) → (limit ≤ found → limit ≤ found_in wanted (test inner) ts)
    → settled w found ≡ asked w test inner ts
quantifier_settled w test inner ts wanted limit found ew el h k =
    let same : found_in wanted (test inner) ts ≡ found_in (looks_for w) (test inner) ts = ap (λ x. found_in x (test inner) ts) ew in
    decided w (test inner) ts found (λ lt. h (subst (λ m. found < m) (sym el) lt) ∙ same)
    (λ le. subst (λ m. m ≤ found_in (looks_for w) (test inner) ts) el (subst (λ c. limit ≤ c) same (k (subst (λ m. m ≤ found) (sym el) le))))
    ∙ sym (asked_is w test inner ts)
