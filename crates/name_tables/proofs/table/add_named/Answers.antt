use Rattle.std.proofs.Common.{ℕ, List, Option, Some, cond, ap, ◌∙◌}
use Rattle.std.specs.Prelude.{bytes_eq}
use Rattle.std.specs.HashMap.{get_by}
use Rattle.name_tables.specs.Tables.{listed}
use Rattle.name_tables.proofs.Grouping.{grouped}
use Rattle.name_tables.proofs.table.add_named.Goals as goal

pub returns : goal.returns
returns c = λ q.
    let name = c.args.name.now in
    let mid : Option (List ℕ) = get_by (λ k. bytes_eq q k.now) c.remove.new.self in
    grouped q name (λ z. get_by (λ k. bytes_eq z k.now) c.args.groups.now) mid (get_by (λ k. bytes_eq q k.now) c.insert.new.self) c.or_empty-group.result c.args.clafer
    (c.or_empty-group.ensures ∙ ap listed c.remove.ensures.value)
    (c.remove.ensures.updates.0 (record { ref_ptr = (0, 0); now = q }))
    (c.in_ok-insert.ensures.updates.0 (record { ref_ptr = (0, 0); now = q }) ∙ ap (λ (xs : List ℕ). cond (bytes_eq name q) (Some xs) mid) c.in_ok-push.ensures.ok)
