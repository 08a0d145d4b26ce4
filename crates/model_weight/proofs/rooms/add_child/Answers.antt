use Rattle.std.proofs.Common.{arith}
use Rattle.clf_tree.proofs.WaysUp.{parent_within}
use Rattle.model_weight.proofs.RoomSums.{children_more, children_kept}
use Rattle.model_weight.proofs.rooms.add_child.Goals as goal

pub add_to-requires : goal.add_to-requires
add_to-requires c = record {
  within = omega (arith, c.requires.long, parent_within c.args.clafers.now c.args.clafer c.in-Some.parent c.get.result.now c.requires.closed c.get.ensures c.in-Some.is);
}

pub returns-in-None-clause-below : goal.returns-in-None-clause-below
returns-in-None-clause-below c = children_kept c.args.clafers.now c.args.scopes.now c.args.clafer c.args.sums.now c.get.result.now c.get.ensures c.in-None.is

pub returns-clause-below : goal.returns-clause-below
returns-clause-below c = λ before.
    children_more c.args.clafers.now c.args.scopes.now c.args.clafer c.scope_at-scope.result c.in-Some.parent c.args.sums.now c.add_to.new.sums c.get.result.now c.get.ensures c.in-Some.is
    c.scope_at-scope.ensures before c.add_to.ensures.value
