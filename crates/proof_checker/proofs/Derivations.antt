use Rattle.std.proofs.Common.{◌≡◌, ℕ, ◌+◌, ◌*◌, ◌<◌, ◌⊎◌, List, [], ◌∷◌, ◌++◌, length, get_or, take, drop, map, All, Any, sym, ap, ◌∙◌, subst, inl, inr, ⊎_elim, arith, length-append}
use Rattle.std.proofs.lemmas.Bool.{cases_eq}
use Rattle.std.proofs.lemmas.List.{drop_more, take_more, map_more, append_assoc, get_or_push, get_or_append_left}
use Rattle.std.proofs.lemmas.List.Quantifiers.{Any-push}
use Rattle.std.proofs.lemmas.List.Elements.{All-append, All-map, All-take, All-weaker}
use Rattle.clause_store.specs.declared.clause.Literal.{Literal}
use Rattle.clause_store.specs.declared.derivation.Chain.{Chain}
use Rattle.clause_store.specs.Literals.{HasVariablesBelow}
use Rattle.clause_store.specs.Resolution.{IsLawfulChain, IsLawful, known_clauses}
use Rattle.proof_checker.specs.Marks.{HasCodesBelow, HasChainCodesBelow}
use Rattle.proof_checker.specs.Checking.{IsChainWithin}

-- what chains may name has codes below a number where the given clauses and the chains do
pub known_below : (n : ℕ) (given : List (List Literal)) (chains : List Chain) (i : ℕ) → All (HasCodesBelow n) given → All (HasChainCodesBelow n) chains → All (HasCodesBelow n) (known_clauses given (take i chains))
known_below n given chains i all each =
    All-append (HasCodesBelow n) given (map (λ (chain : Chain). chain.result) (take i chains)) all (All-map (HasCodesBelow n) (λ (chain : Chain). chain.result) (take i chains) (All-weaker (HasChainCodesBelow n) (λ chain. HasCodesBelow n chain.result) (λ chain h. h.result) (take i chains) (All-take (HasChainCodesBelow n) i chains each)))

-- codes are below twice a number where variables are below it
pub codes_from_variables : (v n : ℕ) → n ≡ 2 * v → (literals : List Literal) → HasVariablesBelow v literals → HasCodesBelow n literals
codes_from_variables v n e literals all = λ k d h.
    let below = all k d h in
    omega arith

pub chain_codes_from_variables : (v n : ℕ) → n ≡ 2 * v → (chain : Chain) → IsChainWithin v chain → HasChainCodesBelow n chain
chain_codes_from_variables v n e chain w = record {
  pivots = λ k d h. (let below = w.pivots k d h in omega arith);
  result = codes_from_variables v n e chain.result w.result;
}

-- some element of a list with one more at its end
Any-push_cases : {X : Type 0} (P : X → Type 0) (xs : List X) (y : X) → Any P (xs ++ y ∷ []) → Any P xs ⊎ P y
Any-push_cases P xs y (k, x, h, e, p) =
    elim (cases_eq k (length xs)) [
      | inl q ↦ inr (subst P (sym e ∙ get_or_push xs y x k (sym q)) p)
      | inr d ↦
          let l = length-append xs (y ∷ []) in
          let low : k < length xs = omega arith in
          inl (k, x, low, sym (get_or_append_left xs (y ∷ []) x k low) ∙ e, p)
    ]

Any-append_left : {X : Type 0} (P : X → Type 0) (xs ys : List X) → Any P xs → Any P (xs ++ ys)
Any-append_left P xs ys (k, x, h, e, p) =
    let l = length-append xs ys in
    (k, x, omega arith, get_or_append_left xs ys x k h ∙ e, p)

abbrev pub HasEmptyResult : Chain → Type 0
HasEmptyResult chain = chain.result ≡ []

-- the chain at a place, and what is known after it
module _ (given : List (List Literal)) (chains : List Chain) (i : ℕ) (chain : Chain) (within : i < length chains) (is : chain ≡ get_or chains i chain) where
  known_more : known_clauses given (take (i + 1) chains) ≡ known_clauses given (take i chains) ++ chain.result ∷ []
  known_more =
      let f = λ (c : Chain). c.result in
      ap (λ xs. given ++ xs) (map_more f chains i chain within ∙ ap (λ c. map f (take i chains) ++ f c ∷ []) (sym is)) ∙ sym (append_assoc given (map f (take i chains)) (chain.result ∷ []))

  drop_chain : drop i chains ≡ chain ∷ drop (i + 1) chains
  drop_chain = drop_more chains i chain within ∙ ap (λ c. c ∷ drop (i + 1) chains) (sym is)

  pub lawful_onward : IsLawfulChain (known_clauses given (take i chains)) chain → IsLawful (known_clauses given (take (i + 1) chains)) (drop (i + 1) chains) → IsLawful (known_clauses given (take i chains)) (drop i chains)
  lawful_onward here rest = rw drop_chain (here, rw known_more at rest)

  pub lawful_back : IsLawful (known_clauses given (take i chains)) (drop i chains) → IsLawful (known_clauses given (take (i + 1) chains)) (drop (i + 1) chains)
  lawful_back all =
      let t = rw drop_chain at all in
      rw known_more t.1

  pub lawful_here : IsLawful (known_clauses given (take i chains)) (drop i chains) → IsLawfulChain (known_clauses given (take i chains)) chain
  lawful_here all =
      let t = rw drop_chain at all in
      t.0

  take_chain : take (i + 1) chains ≡ take i chains ++ chain ∷ []
  take_chain = take_more chains i chain within ∙ ap (λ c. take i chains ++ c ∷ []) (sym is)

  pub empty_here : chain.result ≡ [] → Any HasEmptyResult (take (i + 1) chains)
  empty_here e = rw take_chain (Any-push HasEmptyResult (take i chains) chain e)

  pub empty_before : Any HasEmptyResult (take i chains) → Any HasEmptyResult (take (i + 1) chains)
  empty_before a = rw take_chain (Any-append_left HasEmptyResult (take i chains) (chain ∷ []) a)

  pub empty_earlier : (chain.result ≡ [] → ⊥) → Any HasEmptyResult (take (i + 1) chains) → Any HasEmptyResult (take i chains)
  empty_earlier not_here a =
      let t = rw take_chain at a in
      ⊎_elim (λ h. h) (λ e. absurd (not_here e)) (Any-push_cases HasEmptyResult (take i chains) chain t)
