use Rattle.std.proofs.Common.{ℕ, List, Option, ap, sym, ◌∙◌}
use Rattle.std.specs.Prelude.{bytes_eq}
use Rattle.std.specs.Option.{option_copied}
use Rattle.std.specs.HashMap.{get_by}
use Rattle.name_tables.specs.declared.table.NameEntry.{NameEntry}
use Rattle.name_tables.proofs.Grouping.{nothing_meant, entry_meant}
use Rattle.name_tables.proofs.outwards.found.Goals as goal

pub returns-in-None : goal.returns-in-None
returns-in-None c =
    let name = c.args.name.now in
    let entry : List ℕ → Option NameEntry = λ z. get_by (λ k. bytes_eq z k.now) c.args.table.now.entries in
    nothing_meant c.args.clafers.now name c.args.context (entry name) (sym (ap entry c.as_slice.ensures) ∙ sym c.get.ensures.value ∙ ap option_copied c.in-None.is)
    (c.requires.table.entries name) c.requires.parents_first c.requires.context_in

pub returns-in_ok-found-in-Some : goal.returns-in_ok-found-in-Some
returns-in_ok-found-in-Some c =
    let name = c.args.name.now in
    let entry : List ℕ → Option NameEntry = λ z. get_by (λ k. bytes_eq z k.now) c.args.table.now.entries in
    c.in_ok-found-in-Some.ensures name
    (entry_meant c.args.clafers.now name (entry name) c.in-Some.entry.now (sym (ap entry c.as_slice.ensures) ∙ sym c.get.ensures.value ∙ ap option_copied c.in-Some.is)
    (c.requires.table.entries name))
