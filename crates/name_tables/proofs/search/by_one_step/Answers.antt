use Rattle.std.proofs.Common.{◌≡◌, ℕ, ◌||◌, ◌&&◌, List, is_some, is_none, None, Option, ap, ◌∙◌}
use Rattle.clf_tree.specs.Lists.{has}
use Rattle.name_tables.specs.declared.label.Label.{Label}
use Rattle.name_tables.specs.Labels.{label_at, reached_first}
use Rattle.name_tables.proofs.Filling.{empty_label}
use Rattle.name_tables.proofs.Reaching.{first_level}
use Rattle.name_tables.proofs.search.by_one_step.Goals as goal

pub returns : goal.returns
returns c = λ name is.
    let clafers = c.args.clafers.now in
    let none : (p : ℕ) → label_at c.new-labels.result p ≡ None = empty_label c.new-labels.result c.new-labels.ensures.empty in
    first_level clafers name c.args.named.now (λ p. label_at c.reach_first.new.labels p) c.reach_first.new.fresh is
    (λ p. c.in_ok-reach_first.ensures.labels p ∙ ap (λ (o : Option Label). reached_first clafers c.args.named.now p o) (none p))
    (λ p. c.in_ok-reach_first.ensures.fresh p
    ∙ ap (λ (xs : List ℕ). has xs p || (is_some (label_at c.reach_first.new.labels p) && is_none (label_at c.new-labels.result p))) c.new-last.ensures
    ∙ ap (λ (o : Option Label). is_some (label_at c.reach_first.new.labels p) && is_none o) (none p))
