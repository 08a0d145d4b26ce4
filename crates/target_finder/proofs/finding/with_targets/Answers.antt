use Rattle.std.proofs.Common.{◌<◌, List, [], ◌∷◌, ◌++◌, length, take, ap, refl, ◌∙◌, arith}
use Rattle.clf_tree.specs.declared.model.Clafer.{Clafer}
use Rattle.target_finder.specs.Targets.{with_targets}
use Rattle.target_finder.proofs.Going.{targets-more}
use Rattle.target_finder.proofs.finding.with_targets.Goals as goal

pub loop-at-preserved : goal.loop-at-preserved
loop-at-preserved c =
    let i = c.loop-at.at in
    let within : i < length c.args.clafers.now = c.loop-at-test.true in
    let also : i < length c.args.targets.now = omega (arith, within, c.requires) in
    c.in_ok-push.ensures.ok
    ∙ ap (λ (all : List Clafer). all ++ c.in_ok-with_target.field-0 ∷ []) c.loop-at.invariant
    ∙ ap (λ (k : Clafer). with_targets (take i c.args.targets.now) (take i c.args.clafers.now) ++ k ∷ []) c.in_ok-with_target.ensures
    ∙ targets-more c.args.targets.now c.args.clafers.now i _ _ _ _ also within refl c.index-clafers-at.is
