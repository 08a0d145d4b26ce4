use Rattle.std.proofs.Common.{◌≡◌, drop}
use Rattle.clause_store.specs.Literals.{literals_of}
use Rattle.clause_store.specs.Store.{clause_at}
use Rattle.clause_store.specs.Resolution.{ResolvesTo, known_clauses}
use Rattle.proof_checker.specs.Marks.{marked, count_of}
use Rattle.proof_checker.proofs.chains.is_lawful_chain.Given as goal

-- the marked literals lead by the steps that are left to what the start clause leads to by all of them
abbrev pub invariant-loop-step : goal.invariant-loop-step
invariant-loop-step l =
    let known = known_clauses l.clauses.clauses l.earlier in
    let first = literals_of (clause_at known l.chain.start) in
    let outcome = literals_of l.chain.result in
    record {
      count : l.count ≡ count_of l.marks;
      onward : ResolvesTo known (marked l.marks) (drop l.step-index l.steps) outcome → ResolvesTo known first l.steps outcome;
      back : ResolvesTo known first l.steps outcome → ResolvesTo known (marked l.marks) (drop l.step-index l.steps) outcome;
    }
