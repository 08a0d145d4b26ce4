use Rattle.scope_table.proofs.Lists.{many, few}
use Rattle.scope_table.proofs.stage.sum_refusal.Goals as goal

pub returns-then-total-gt2048 : goal.returns-then-total-gt2048
returns-then-total-gt2048 c = λ clafers given long are. many clafers given c.args.of.now long are c.sum_of-total.result c.refused_at_all.result c.sum_of-total.ensures c.if-total-gt2048.true c.refused_at_all.ensures

pub returns : goal.returns
returns c = λ clafers given long are. few clafers given c.args.of.now long are c.sum_of-total.result c.sum_of-total.ensures c.if-total-gt2048.false
