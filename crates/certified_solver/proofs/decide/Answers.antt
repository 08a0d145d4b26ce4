use Rattle.std.proofs.Common.{◌∙◌, All, length, subst}
use Rattle.clause_store.specs.Literals.{HasVariablesBelow}
use Rattle.clause_store.specs.Satisfaction.{SatisfiesAll}
use Rattle.cdcl_search.specs.Progress.{IsRunEnded, assignment_of}
use Rattle.cdcl_search.specs.declared.engine.Ended.TheVariants.{Spent}
use Rattle.certified_solver.proofs.Deciding.{spent_verdict, never_spent}
use Rattle.certified_solver.proofs.decide.Goals as goal

pub returns-in_ok-values-in-Satisfied-clause-verdict : goal.returns-in_ok-values-in-Satisfied-clause-verdict
returns-in_ok-values-in-Satisfied-clause-verdict g c =
    subst (λ x. SatisfiesAll (assignment_of c.in_ok-values-in-Satisfied.values) x) (c.run.ensures.given ∙ c.in_ok-search.ensures.given) c.in_ok-values-in-Satisfied.ensures.satisfies

pub returns-in_ok-values-in-Satisfied-clause-values : goal.returns-in_ok-values-in-Satisfied-clause-values
returns-in_ok-values-in-Satisfied-clause-values g c =
    subst (λ x. All (HasVariablesBelow (length c.in_ok-values-in-Satisfied.values)) x) (c.run.ensures.given ∙ c.in_ok-search.ensures.given) c.in_ok-values-in-Satisfied.ensures.all

pub returns-in-Spent-clause-enough : goal.returns-in-Spent-clause-enough
returns-in-Spent-clause-enough g c =
    let old = c.in_ok-search.search in
    let new = c.run.new.self in
    let given = c.args.clauses.now.clauses in
    let chains = c.into_derivation-in-Spent.result.chains in
    let ended : IsRunEnded old new c.args.budget Spent = rw c.in-Spent.is at c.in_ok-run.ensures.ended in
    let spent = spent_verdict given old new c.args.budget chains (c.run.ensures.given ∙ c.in_ok-search.ensures.given) c.in_ok-search.ensures.chains c.run.ensures.lawful ended c.into_derivation-in-Spent.ensures.chains in
    λ n all h. never_spent given chains c.args.budget n spent all h
