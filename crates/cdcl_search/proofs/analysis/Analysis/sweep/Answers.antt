use Rattle.std.proofs.Common.{length, set, subst}
use Rattle.cdcl_search.specs.Marks.{IsSwept}
use Rattle.cdcl_search.proofs.Sweep_steps.{swept_all}
use Rattle.cdcl_search.proofs.analysis.Analysis.sweep.Goals as goal

pub returns-clause-clear : goal.returns-clause-clear
returns-clause-clear c =
    let s : IsSwept c.args.trail.now.places.items (set c.args.self.now.marks.items c.args.last 0) c.unmark.new.marks.items c.args.self.now.lower.items (length c.args.self.now.lower.items)
    = subst (λ x. IsSwept c.args.trail.now.places.items (set c.args.self.now.marks.items c.args.last 0) c.unmark.new.marks.items x (length x)) c.deref.ensures.value c.unmark.ensures.swept in
    swept_all _ _ _ _ c.args.base _ c.args.self.now.marks.items c.unmark.new.marks.items c.args.self.now.lower.items c.args.last c.requires.trail c.requires.marked c.requires.within c.requires.after c.requires.mark s
