use Rattle.std.proofs.Common.{ℕ, ◌+◌, ◌||◌, ◌&&◌, List, map, is_some, is_none, ap, ◌∙◌}
use Rattle.clf_tree.specs.Lists.{has}
use Rattle.name_tables.specs.declared.label.Nearby.{Nearby}
use Rattle.name_tables.specs.Labels.{label_at, only_at, reached_next}
use Rattle.name_tables.proofs.Reaching.{next_level}
use Rattle.name_tables.proofs.search.by_next_step.Goals as goal

pub returns : goal.returns
returns c = λ name level.
    let clafers = c.args.clafers.now in
    next_level clafers name c.args.search.last c.reach_next.new.fresh c.args.heirs.now c.args.steps c.args.search.labels (λ p. label_at c.reach_next.new.labels p) c.requires.some_step c.requires.heirs
    (λ p. c.in_ok-reach_next.ensures.labels p
    ∙ ap (λ (rs : List Nearby). reached_next clafers c.args.heirs.now rs (c.args.steps + 1) p (label_at c.args.search.labels p))
    (c.as_slice-2.ensures ∙ c.in_ok-last.ensures ∙ ap (map (only_at c.args.search.labels)) c.as_slice.ensures))
    (λ p. c.in_ok-reach_next.ensures.fresh p
    ∙ ap (λ (xs : List ℕ). has xs p || (is_some (label_at c.reach_next.new.labels p) && is_none (label_at c.args.search.labels p))) c.new-fresh.ensures) level
