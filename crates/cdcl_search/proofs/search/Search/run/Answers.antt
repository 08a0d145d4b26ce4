use Rattle.std.proofs.Common.{◌≡◌, map, true, false, ap, subst}
use Rattle.cdcl_search.specs.Derivations.{clause_of}
use Rattle.cdcl_search.specs.Runs.{given_clauses, IsEnded}
use Rattle.cdcl_search.specs.Progress.{Progress, Continues, IsRunEnded}
use Rattle.cdcl_search.specs.declared.engine.Ended.TheVariants.{Refuted, Spent}
use Rattle.cdcl_search.proofs.Progress_steps.{continued, run_refuted, run_spent}
use Rattle.cdcl_search.proofs.search.Search.run.Goals as goal

pub returns-in_err-run-clause-continues : goal.returns-in_err-run-clause-continues
returns-in_err-run-clause-continues g c =
    let old = c.self.inside.engine in
    let new = c.run.new.self in
    let same : given_clauses new ≡ given_clauses old = ap (λ xs. map clause_of xs) c.run.ensures.given in
    subst (λ (p : Progress). Continues p (record { given = given_clauses new; chains = new.chains.items; is_satisfied = false })) c.self.view_is
    (continued old new c.self.inside.is_satisfied false c.self.invariant.whole c.run.ensures.whole same c.run.ensures.longer)

pub returns-in-Satisfied-clause-continues : goal.returns-in-Satisfied-clause-continues
returns-in-Satisfied-clause-continues g c =
    let old = c.self.inside.engine in
    let new = c.run.new.self in
    let same : given_clauses new ≡ given_clauses old = ap (λ xs. map clause_of xs) c.run.ensures.given in
    subst (λ (p : Progress). Continues p (record { given = given_clauses new; chains = new.chains.items; is_satisfied = true })) c.self.view_is
    (continued old new c.self.inside.is_satisfied true c.self.invariant.whole c.run.ensures.whole same c.run.ensures.longer)

pub returns-in-Refuted-clause-continues : goal.returns-in-Refuted-clause-continues
returns-in-Refuted-clause-continues g c =
    let old = c.self.inside.engine in
    let new = c.run.new.self in
    let same : given_clauses new ≡ given_clauses old = ap (λ xs. map clause_of xs) c.run.ensures.given in
    subst (λ (p : Progress). Continues p (record { given = given_clauses new; chains = new.chains.items; is_satisfied = false })) c.self.view_is
    (continued old new c.self.inside.is_satisfied false c.self.invariant.whole c.run.ensures.whole same c.run.ensures.longer)

pub returns-in-Spent-clause-continues : goal.returns-in-Spent-clause-continues
returns-in-Spent-clause-continues g c =
    let old = c.self.inside.engine in
    let new = c.run.new.self in
    let same : given_clauses new ≡ given_clauses old = ap (λ xs. map clause_of xs) c.run.ensures.given in
    subst (λ (p : Progress). Continues p (record { given = given_clauses new; chains = new.chains.items; is_satisfied = false })) c.self.view_is
    (continued old new c.self.inside.is_satisfied false c.self.invariant.whole c.run.ensures.whole same c.run.ensures.longer)

pub returns-in-Refuted-clause-ended : goal.returns-in-Refuted-clause-ended
returns-in-Refuted-clause-ended g c =
    let old = c.self.inside.engine in
    let new = c.run.new.self in
    let ended : IsEnded old new c.args.budget Refuted = rw c.in-Refuted.is at c.in_ok-run.ensures.ended in
    subst (λ (p : Progress). IsRunEnded p (record { given = given_clauses new; chains = new.chains.items; is_satisfied = false }) c.args.budget Refuted) c.self.view_is
    (run_refuted old new c.args.budget c.self.inside.is_satisfied false c.run.ensures.whole ended)

pub returns-in-Spent-clause-ended : goal.returns-in-Spent-clause-ended
returns-in-Spent-clause-ended g c =
    let old = c.self.inside.engine in
    let new = c.run.new.self in
    let same : given_clauses new ≡ given_clauses old = ap (λ xs. map clause_of xs) c.run.ensures.given in
    let ended : IsEnded old new c.args.budget Spent = rw c.in-Spent.is at c.in_ok-run.ensures.ended in
    subst (λ (p : Progress). IsRunEnded p (record { given = given_clauses new; chains = new.chains.items; is_satisfied = false }) c.args.budget Spent) c.self.view_is
    (run_spent old new c.args.budget c.self.inside.is_satisfied false c.self.invariant.whole c.run.ensures.whole same ended)
