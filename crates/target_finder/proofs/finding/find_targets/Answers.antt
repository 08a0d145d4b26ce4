use Rattle.std.proofs.Common.{List, map, ap, sym, subst, ◌∙◌}
use Rattle.std.specs.Prelude.{IsTrue}
use Rattle.clf_tree.specs.declared.model.Clafer.{Clafer}
use Rattle.clf_tree.specs.Hierarchy.{is_closed}
use Rattle.target_finder.specs.Targets.{target_of, with_targets, targeted}
use Rattle.target_finder.proofs.Closed.{targeted_closed}
use Rattle.target_finder.proofs.finding.find_targets.Goals as goal

pub returns-clause-found : goal.returns-clause-found
unfolding targeted
returns-clause-found c =
    let clafers = c.args.clafers.now in
    c.in_ok-all-in-None.ensures
    ∙ ap (λ ts. with_targets ts c.as_slice-in-None-2.result.now) (c.as_slice-in-None.ensures ∙ c.in_ok-targets.ensures.clafers ∙ ap (map (target_of clafers)) c.as_slice.ensures)
    ∙ ap (with_targets (map (target_of clafers) c.args.plain.now)) c.as_slice-in-None-2.ensures

pub returns-clause-known : goal.returns-clause-known
returns-clause-known c =
    subst (λ (all : List Clafer). IsTrue (is_closed all)) (sym (returns-clause-found c))
    (targeted_closed c.means_one.ensures c.means_there.ensures c.args.clafers.now c.args.plain.now c.requires.closed c.requires.parents_first c.requires.parents_in)
