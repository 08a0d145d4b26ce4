use Rattle.std.proofs.Common.{subst}
use Rattle.clause_encoder.specs.Encoding.{EncodesGates}
use Rattle.clause_encoder.proofs.Whole.{encodes}
use Rattle.clause_encoder.proofs.encode.clauses.Goals as goal

pub returns : goal.returns
returns c =
    encodes c.args.circuit.now c.args.root c.in_ok-clauses.clauses _ c.literals_of.result c.gates-gates.ensures.circuit c.requires
    (subst (λ gs. EncodesGates gs c.in_ok-clauses.clauses) c.gates-gates.ensures.gates c.in_ok-clauses.ensures)
    c.literals_of.ensures c.in_ok-say_one.ensures.says c.in_ok-say_one.ensures.last
