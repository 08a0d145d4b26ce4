use Rattle.question_space.proofs.space.Space.ask.Goals as goal
use Rattle.question_space.proofs.Limits.{enough_goalless, enough_plain}

pub returns-clause-enough : goal.returns-clause-enough
returns-clause-enough g c = λ none enough.
    c.in_ok-reply.ensures.enough (enough_plain c.args.self.now.read.now c.args.question.now c.args.budget none enough)

pub returns-clause-enough_without_goals : goal.returns-clause-enough_without_goals
returns-clause-enough_without_goals g c = λ none found enough.
    c.in_ok-reply.ensures.enough (enough_goalless c.args.self.now.read.now c.args.question.now c.args.budget none found enough)
