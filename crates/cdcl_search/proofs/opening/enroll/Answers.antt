use Rattle.std.proofs.Common.{[], length, get_or, Some, None}
use Rattle.cdcl_search.specs.Changes.{IsOther, IsAdded}
use Rattle.cdcl_search.proofs.Add_steps.{enrolled_short, enrolled_pair, literal_below}
use Rattle.cdcl_search.proofs.opening.enroll.Goals as goal

pub add-requires-clause-second : goal.add-requires-clause-second
add-requires-clause-second c =
    let o : IsOther (get_or c.args.given.now c.args.at []) (Some c.in-Some.second) = rw c.clause-clause.ensures at c.in-Some.ensures in
    literal_below c.args.given.now (length c.args.watches.now.lists) c.args.at c.in-Some.second c.requires.literals c.requires.within o.0

pub returns-in_ok-add-in-Some-clause-covered : goal.returns-in_ok-add-in-Some-clause-covered
returns-in_ok-add-in-Some-clause-covered c =
    let o : IsOther (get_or c.args.given.now c.args.at []) (Some c.in-Some.second) = rw c.clause-clause.ensures at c.in-Some.ensures in
    let a : IsAdded c.add.new.self c.args.at (get_or (get_or c.args.given.now c.args.at []) 0 0) c.in-Some.second = rw c.clause-clause.ensures at c.in_ok-add-in-Some.ensures.added in
    enrolled_pair c.args.given.now c.args.watches.now c.add.new.self c.args.at c.in-Some.second c.requires.covered c.add.ensures.keeps a o

pub returns-in_ok-add_short-in-None-clause-covered : goal.returns-in_ok-add_short-in-None-clause-covered
returns-in_ok-add_short-in-None-clause-covered c =
    let o : IsOther (get_or c.args.given.now c.args.at []) None = rw c.clause-clause.ensures at c.in-None.ensures in
    enrolled_short c.args.given.now c.args.watches.now c.add_short.new.self c.args.at c.requires.covered c.add_short.ensures.keeps c.in_ok-add_short-in-None.ensures.added o
