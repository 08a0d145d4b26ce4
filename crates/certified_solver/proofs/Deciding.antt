-- What the ends of a search mean for the clauses that it was opened with.
use Rattle.std.proofs.Common.{ℕ, ◌≡◌, ◌≤◌, ◌^◌, [], List, All, length, arith, ap, sym, ◌∙◌, subst}
use Rattle.clause_store.specs.declared.clause.Literal.{Literal}
use Rattle.clause_store.specs.declared.derivation.Chain.{Chain}
use Rattle.clause_store.specs.Literals.{HasVariablesBelow}
use Rattle.clause_store.specs.Resolution.{IsLawful}
use Rattle.cdcl_search.specs.Progress.{Progress, IsRunEnded, AreNewResults}
use Rattle.cdcl_search.specs.declared.engine.Ended.TheVariants.{Spent}
use Rattle.certified_solver.specs.Verdicts.{IsSpent}
use Rattle.certified_solver.proofs.Counting.{fewer}

pub spent_verdict : (given : List (List Literal)) (old new : Progress) (budget : ℕ) (chains : List Chain) → new.given ≡ given → old.chains ≡ [] → IsLawful new.given new.chains → IsRunEnded old new budget Spent → chains ≡ new.chains
    → IsSpent given chains budget
spent_verdict given old new budget chains g z l e c =
    let none : length old.chains ≡ 0 = ap length z in
    let new_ones : AreNewResults new.given 0 new.chains = subst (λ n. AreNewResults new.given n new.chains) none e.1 in
    record {
      lawful = subst (λ x. IsLawful x chains) g (subst (λ x. IsLawful new.given x) (sym c) l);
      all = ap length c ∙ omega (arith, e.0, none);
      new = subst (λ x. AreNewResults x 0 chains) g (subst (λ x. AreNewResults new.given 0 x) (sym c) new_ones);
    }

-- a budget of 3 to the power of the number of variables is not spent
pub never_spent : (given : List (List Literal)) (chains : List Chain) (budget n : ℕ) → IsSpent given chains budget → All (HasVariablesBelow n) given → 3 ^ n ≤ budget → ⊥
never_spent given chains budget n s all h =
    let f = fewer given chains n s.lawful all s.new in
    omega (arith, f, s.all)
