use Rattle.clafer_grammar.proofs.Builds.{module_runs, module_survives}
use Rattle.clafer_grammar.proofs.Exact.{state_begins, done_spelled}
use Rattle.clafer_grammar.proofs.laws.states_are_exact.Goals as goal

pub returns-clause-begun : goal.returns-clause-begun
returns-clause-begun c tokens state h = state_begins tokens state h

pub returns-clause-reached : goal.returns-clause-reached
returns-clause-reached c tokens b = module_survives b

pub returns-clause-spelled : goal.returns-clause-spelled
returns-clause-spelled c tokens frames items h = done_spelled tokens frames items h

pub returns-clause-done : goal.returns-clause-done
returns-clause-done c tokens items v = module_runs v
