use Rattle.question_space.proofs.rules.conjunction.Goals as goal
use Rattle.question_space.proofs.Ruling.{conjunction_none}

pub loop-other-init : goal.loop-other-init
loop-other-init c = conjunction_none c.args.circuit.now c.args.first c.args.others.now c.requires.first_in
