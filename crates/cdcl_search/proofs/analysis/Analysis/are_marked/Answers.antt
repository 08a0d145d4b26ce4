use Rattle.std.proofs.Common.{◌≢◌, ◌/◌, get_or, arith, subst, sym, ◌∙◌}
use Rattle.cdcl_search.proofs.Members.{Has-index}
use Rattle.cdcl_search.proofs.analysis.Analysis.are_marked.Goals as goal

pub returns : goal.returns
returns c = λ t l h n.
    let r = Has-index c.args.clause.now l h in
    subst (λ q. get_or c.args.self.now.marks.items (get_or c.args.trail.now.places.items (q / 2) 0) 0 ≢ 0) r.2
    (c.loop-literal.invariant r.0 (omega (arith, r.1)) (λ e. n (sym r.2 ∙ e)))
