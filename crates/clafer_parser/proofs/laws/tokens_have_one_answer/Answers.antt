use Rattle.clafer_parser.proofs.Once.{refused_once, fine_or_refused}
use Rattle.clafer_parser.proofs.laws.tokens_have_one_answer.Goals as goal

pub returns-clause-module_once : goal.returns-clause-module_once
returns-clause-module_once c = c.spells_one_module.ensures

pub returns-clause-refusal_once : goal.returns-clause-refusal_once
returns-clause-refusal_once c tokens some other h g = refused_once tokens some other h g

pub returns-clause-not_both : goal.returns-clause-not_both
returns-clause-not_both c tokens refusal f h = fine_or_refused tokens refusal f h
