use Rattle.std.proofs.Common.{List, ℕ, sym, subst}
use Rattle.clf_tree.specs.Lists.{numbers_below}
use Rattle.clf_tree.specs.Marks.{MarksParents}
use Rattle.clf_tree.proofs.Numbers.{numbers-more}
use Rattle.clf_tree.proofs.references.parent_marks.Goals as goal

pub loop-c-preserved : goal.loop-c-preserved
loop-c-preserved c = record {
  sized = c.mark_parent.ensures.sized;
  marked = subst (λ (cs : List ℕ). MarksParents c.args.clafers.now c.args.ks.now cs c.mark_parent.new.marks.items) (sym (numbers-more c.loop-c.c))
      (c.mark_parent.ensures.marked (numbers_below c.loop-c.c) c.loop-c.invariant.marked);
}
