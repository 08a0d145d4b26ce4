use Rattle.reading_laws.proofs.Scopes.{one_solution, told_scopes}
use Rattle.reading_laws.proofs.scopes_are_the_one_solution.Goals as goal

pub returns-clause-alone : goal.returns-clause-alone
returns-clause-alone c = λ model named given of. one_solution model named given of

pub returns-clause-told : goal.returns-clause-told
returns-clause-told c = λ model named given scopes are of solves. told_scopes model named given scopes are of solves
