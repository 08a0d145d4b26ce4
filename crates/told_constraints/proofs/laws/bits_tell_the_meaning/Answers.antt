use Rattle.told_constraints.proofs.Agree.{agree}
use Rattle.told_constraints.proofs.Setting.{setting_of}
use Rattle.told_constraints.proofs.laws.bits_tell_the_meaning.Goals as goal

pub returns-clause-nodes : goal.returns-clause-nodes
returns-clause-nodes c = λ clafers scopes layout bits a given held fits empty shaped sound stand is.
    (agree clafers scopes layout bits (setting_of clafers scopes layout bits fits shaped) a given held sound stand).set.list

pub returns-clause-numbers : goal.returns-clause-numbers
returns-clause-numbers c = λ clafers scopes layout bits a given held fits empty shaped sound stand is.
    (agree clafers scopes layout bits (setting_of clafers scopes layout bits fits shaped) a given held sound stand).number

pub returns-clause-truths : goal.returns-clause-truths
returns-clause-truths c = λ clafers scopes layout bits a given held fits empty shaped sound stand is.
    (agree clafers scopes layout bits (setting_of clafers scopes layout bits fits shaped) a given held sound stand).truth
