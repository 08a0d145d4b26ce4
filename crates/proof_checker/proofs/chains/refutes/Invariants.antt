use Rattle.std.proofs.Common.{◌≡◌, ◌↔◌, [], take, drop, Any, IsTrue}
use Rattle.clause_store.specs.Resolution.{IsLawful, known_clauses}
use Rattle.proof_checker.specs.Marks.{IsClear}
use Rattle.proof_checker.proofs.chains.refutes.Given as goal

-- the chains so far are lawful, and `found` says whether some result of theirs is empty
abbrev pub invariant-loop-at : goal.invariant-loop-at
invariant-loop-at l =
    let given = l.clauses.clauses in
    record {
      clear : IsClear l.marks;
      onward : IsLawful (known_clauses given (take l.at l.chains)) (drop l.at l.chains) → IsLawful given l.chains;
      back : IsLawful given l.chains → IsLawful (known_clauses given (take l.at l.chains)) (drop l.at l.chains);
      empty : IsTrue l.found ↔ Any (λ chain. chain.result ≡ []) (take l.at l.chains);
    }
