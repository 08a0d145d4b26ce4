use Rattle.std.proofs.Common.{sym, ◌∙◌}
use Rattle.std.specs.Prelude.{bytes_eq}
use Rattle.std.specs.HashMap.{get_by}
use Rattle.name_tables.proofs.Grouping.{entry_there, entry_more}
use Rattle.name_tables.proofs.table.add_entry.Goals as goal

pub returns-then-contains_key : goal.returns-then-contains_key
returns-then-contains_key c = λ has.
    entry_there c.args.clafers.now c.args.clafer c.get.result.now c.as_slice-name.result.now (λ q. get_by (λ k. bytes_eq q k.now) c.args.entries.now)
    c.get.ensures c.as_slice-name.ensures (sym c.contains_key.ensures ∙ c.if-contains_key.true) has

pub returns : goal.returns
returns c = λ has.
    let name = c.as_slice-name.result.now in
    entry_more c.args.clafers.now c.args.clafer c.get.result.now name (λ q. get_by (λ k. bytes_eq q k.now) c.args.entries.now) (λ q. get_by (λ k. bytes_eq q k.now) c.insert.new.self) c.in_ok-entry.entry
    c.get.ensures c.as_slice-name.ensures (λ q. c.in_ok-insert.ensures.updates.0 (record { ref_ptr = (0, 0); now = q }))
    (c.in_ok-entry.ensures name (c.listed.ensures ∙ c.requires.groups name)) has
