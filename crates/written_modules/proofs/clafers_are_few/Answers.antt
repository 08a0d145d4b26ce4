use Rattle.written_modules.proofs.Whole.{declared_few, plain_few}
use Rattle.written_modules.proofs.clafers_are_few.Goals as goal

pub returns-clause-declared : goal.returns-clause-declared
returns-clause-declared c = declared_few c.tokens_stand_in_order.ensures

pub returns-clause-plain : goal.returns-clause-plain
returns-clause-plain c = plain_few c.tokens_stand_in_order.ensures
