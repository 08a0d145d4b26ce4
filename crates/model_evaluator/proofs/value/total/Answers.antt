use Rattle.std.proofs.Common.{rules, [], arith}
use mir.Syntax.{w128}
use mir.Val.{SFits}
use Rattle.std.proofs.lemmas.Int.{ints, to_z-of_z}
use Rattle.clf_tree.specs.Meaning.{int_of}
use Rattle.model_evaluator.proofs.Totals.{total_next}
use Rattle.model_evaluator.proofs.value.total.Goals as goal

pub loop-node-preserved : goal.loop-node-preserved
loop-node-preserved c =
    let f : SFits w128 c.with_int-sum.result = search rules in
    let e = to_z-of_z w128 c.with_int-sum.result f in
    let next = total_next (int_of [] c.args.tables.now.entries) c.args.nodes.now c.loop-node.node-index (record { clafer = 0; number = 0 }) c.loop-node-test.true in
    record {
      so_far = omega (arith, ints, e, next, c.with_int-sum.ensures.exact, c.loop-node.invariant.so_far, c.loop-node.sum-is);
      least = omega (arith, ints, e, c.with_int-sum.ensures.least, c.loop-node.invariant.least, c.loop-node.sum-is);
      most = omega (arith, ints, e, c.with_int-sum.ensures.most, c.loop-node.invariant.most, c.loop-node.sum-is);
    }
