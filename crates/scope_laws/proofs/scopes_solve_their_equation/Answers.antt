use Rattle.scope_laws.proofs.Solutions.{solved, alone}
use Rattle.scope_laws.proofs.scopes_solve_their_equation.Goals as goal

pub returns-clause-solved : goal.returns-clause-solved
returns-clause-solved c = λ clafers given law. solved clafers given law

pub returns-clause-alone : goal.returns-clause-alone
returns-clause-alone c = λ clafers given law. alone clafers given law
