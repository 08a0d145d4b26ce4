use Rattle.goal_vectors.proofs.Sequence.{before_self, before_chain, one_is_before}
use Rattle.goal_vectors.proofs.laws.better_first_is_an_order.Goals as goal

pub returns-clause-irreflexive : goal.returns-clause-irreflexive
returns-clause-irreflexive c = λ ways v. before_self ways v

pub returns-clause-transitive : goal.returns-clause-transitive
returns-clause-transitive c = λ ways u v w p q. before_chain ways u v w p q

pub returns-clause-total : goal.returns-clause-total
returns-clause-total c = λ ways u v e f different. one_is_before ways u v e f different
