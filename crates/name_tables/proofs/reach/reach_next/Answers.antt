use Rattle.std.proofs.Common.{get_or, ◌∙◌}
use Rattle.clf_tree.specs.Lists.{has}
use Rattle.name_tables.specs.Labels.{label_at}
use Rattle.name_tables.proofs.Filling.{nobody, next_on, after_all, fresh_on}
use Rattle.name_tables.proofs.reach.reach_next.Goals as goal

pub loop-nearby-preserved : goal.loop-nearby-preserved
loop-nearby-preserved c =
    let clafers = c.args.clafers.now in
    let i = c.loop-nearby.nearby-index in
    let ms = c.heirs_of-through.result.now in
    record {
      reaches = λ p.
          next_on clafers c.args.heirs.now c.args.last.now i c.args.steps p ms (label_at c.loop-nearby.labels p) (label_at c.reach_all.new.labels p) c.loop-nearby-test.true
          c.heirs_of-through.ensures (c.in_ok-reach_all.ensures.labels p)
          ∙ c.loop-nearby.invariant.reaches p;
      fresh = λ p.
          fresh_on (has c.args.fresh.now p) (has c.loop-nearby.fresh p) (has c.reach_all.new.fresh p) (label_at c.args.labels.now p) (label_at c.loop-nearby.labels p) (label_at c.reach_all.new.labels p)
          (c.loop-nearby.invariant.fresh p) (c.in_ok-reach_all.ensures.fresh p) (c.loop-nearby.invariant.kept p)
          (after_all clafers ms c.args.steps (get_or c.args.last.now i nobody).only p (label_at c.loop-nearby.labels p) (label_at c.reach_all.new.labels p) (c.in_ok-reach_all.ensures.labels p));
      kept = λ p s.
          after_all clafers ms c.args.steps (get_or c.args.last.now i nobody).only p (label_at c.loop-nearby.labels p) (label_at c.reach_all.new.labels p) (c.in_ok-reach_all.ensures.labels p)
          (c.loop-nearby.invariant.kept p s);
    }
