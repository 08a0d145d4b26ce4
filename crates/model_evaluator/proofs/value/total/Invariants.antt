use Rattle.std.proofs.Common.{◌≡◌, [], map, drop, ◌*◌, ◌^◌, pos}
use Rattle.std.specs.Prelude.{◌+ℤ◌, ◌≤ℤ◌, neg_ℤ}
use Rattle.clf_tree.specs.Meaning.{int_of, total}
use Rattle.model_evaluator.proofs.value.total.Given as goal

abbrev pub invariant-loop-node : goal.invariant-loop-node
invariant-loop-node l = record {
  so_far : l.sum +ℤ total (map (int_of [] l.tables.entries) (drop l.node-index l.nodes)) ≡ total (map (int_of [] l.tables.entries) l.nodes);
  least : neg_ℤ (pos (l.node-index * 2 ^ 63)) ≤ℤ l.sum;
  most : l.sum ≤ℤ pos (l.node-index * 2 ^ 63);
}
