use Rattle.std.proofs.Common.{refl, sym, ◌∙◌}
use Rattle.std.proofs.lemmas.Bool.{false≢true}
use Rattle.proof_checker.specs.Checking.{IsWithin}
use Rattle.certified_solver.proofs.Within.{lawful_within}
use Rattle.certified_solver.proofs.refutation.Refutation.check.Goals as goal

pub returns-then-accepts : goal.returns-then-accepts
returns-then-accepts c =
    let answered = c.accepts.ensures.exact.0 c.if-accepts.true in
    (record { refutes = answered.1; within = lawful_within c.args.clauses.now.clauses c.args.derivation.chains answered.1.lawful }, refl)

pub returns : goal.returns
returns c = λ refutes.
    let within : IsWithin c.in_ok-checker.checker c.args.clauses.now.clauses c.args.derivation.chains = rw c.in_ok-checker.ensures (lawful_within c.args.clauses.now.clauses c.args.derivation.chains refutes.lawful c.variables.result c.variables.ensures.above) in
    false≢true (sym c.if-accepts.false ∙ c.accepts.ensures.exact.1 (within, refutes))
