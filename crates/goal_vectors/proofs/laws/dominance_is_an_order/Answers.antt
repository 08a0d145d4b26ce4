use Rattle.goal_vectors.proofs.Vectors.{none_dominates_itself, dominance_chain}
use Rattle.goal_vectors.proofs.laws.dominance_is_an_order.Goals as goal

pub returns-clause-irreflexive : goal.returns-clause-irreflexive
returns-clause-irreflexive c = λ ways v. none_dominates_itself ways v

pub returns-clause-transitive : goal.returns-clause-transitive
returns-clause-transitive c = λ ways u v w e f p q. dominance_chain ways u v w e f p q
