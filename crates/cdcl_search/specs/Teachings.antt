-- What a conflict adds.
use Rattle.std.specs.Prelude.{ℕ, ◌≡◌, ◌<◌, ◌++◌, [], ◌∷◌, List, length}
use Rattle.clause_store.specs.declared.derivation.Chain.{Chain}
use Rattle.cdcl_search.specs.Derivations.{IsTraced, IsClauseOf}
use Rattle.cdcl_search.specs.Learnings.{IsNoTautology, IsNew}

-- the store has one clause more, and the derivation one lawful chain more, whose result it is
pub record Adds (store : List (List ℕ)) (chains : List Chain) (store' : List (List ℕ)) (chains' : List Chain) (chain : Chain) (codes : List ℕ) : Type 0 where
  pub chain_added : chains' ≡ chains ++ chain ∷ []
  pub clause_added : store' ≡ store ++ codes ∷ []
  pub result_is : IsClauseOf codes chain.result
  pub traced : IsTraced store chain.start chain.steps codes

-- one lawful chain more, whose result is a new clause of the store
pub record IsTaught (store : List (List ℕ)) (chains : List Chain) (store' : List (List ℕ)) (chains' : List Chain) : Type 0 where
  pub chain : Chain
  pub codes : List ℕ
  pub adds : Adds store chains store' chains' chain codes
  pub new : IsNew store codes
  pub no_tautology : IsNoTautology codes
  pub some : 0 < length codes

-- one lawful chain more, whose result is empty
pub record IsRefuted (store : List (List ℕ)) (chains : List Chain) (store' : List (List ℕ)) (chains' : List Chain) : Type 0 where
  pub chain : Chain
  pub adds : Adds store chains store' chains' chain []
  pub empty : chain.result ≡ []
