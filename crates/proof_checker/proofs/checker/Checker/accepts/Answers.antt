use Rattle.std.proofs.Common.{length, refl, ap, ◌∙◌}
use Rattle.clause_store.proofs.ResolutionSound.{unsatisfiable}
use Rattle.proof_checker.proofs.Derivations.{chain_codes_from_variables}
use Rattle.proof_checker.proofs.checker.Checker.accepts.Goals as goal

pub refutes-accepted-requires-clause-chains : goal.refutes-accepted-requires-clause-chains
refutes-accepted-requires-clause-chains c = λ k d h.
    let w = c.if-not-is_within.ensures.0 refl in
    chain_codes_from_variables c.self.inside.variables _ (ap length c.as_mut_slice.ensures.value ∙ c.self.invariant.sized) _ (w.chains_within k d h)

pub returns-else-not-accepted-clause-sound : goal.returns-else-not-accepted-clause-sound
returns-else-not-accepted-clause-sound c = λ e.
    unsatisfiable c.args.clauses.now.clauses c.as_slice-chains.result.now (c.refutes-accepted.ensures.refutes.0 e)
