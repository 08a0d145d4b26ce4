use Rattle.question_space.proofs.verdicts.decided.Goals as goal
use Rattle.question_space.proofs.Deciding.{clauses_few, variables_few, enough_for}
use Rattle.question_space.proofs.Limits.{limit_few}

pub decide-requires-clause-room : goal.decide-requires-clause-room
decide-requires-clause-room g c =
    let query = c.args.query.now in
    clauses_few query.encoded.now.circuit query.root c.args.clauses.now c.args.budget c.requires.encodes
    (limit_few query.read.now query.question.now _ query.few_found query.known.asked.few) c.requires.few

pub decide-requires-clause-few : goal.decide-requires-clause-few
decide-requires-clause-few g c =
    let query = c.args.query.now in
    variables_few query.encoded.now.circuit query.root c.args.clauses.now c.requires.encodes
    (limit_few query.read.now query.question.now _ query.few_found query.known.asked.few)

pub returns-clause-enough : goal.returns-clause-enough
returns-clause-enough g c = λ enough.
    c.in_ok-answer.ensures.settled (c.in_ok-verdict.ensures.enough _ c.requires.encodes.below
    (enough_for _ _ c.args.budget c.args.query.now.known.asked.few enough))
