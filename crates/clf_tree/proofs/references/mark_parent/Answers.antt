use Rattle.std.proofs.Common.{arith}
use Rattle.clf_tree.proofs.WaysUp.{parent_within}
use Rattle.clf_tree.proofs.references.mark_parent.Goals as goal

pub index_mut-requires : goal.index_mut-requires
index_mut-requires c = omega (arith, c.requires.sized, parent_within c.args.clafers.now c.args.c c.in-Some.parent c.get.result.now c.requires.closed c.get.ensures c.in-Some.is)
