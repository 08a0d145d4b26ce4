use Rattle.std.proofs.Common.{◌≡◌, ℕ, List, Option, None, ap, sym, subst, ◌∙◌, [], length}
use Rattle.std.specs.Prelude.{bytes_eq, IfSome, MatchOption}
use Rattle.std.specs.Option.{option_copied}
use Rattle.std.specs.HashMap.{get_by}
use Rattle.name_tables.specs.declared.table.NameEntry.{NameEntry}
use Rattle.name_tables.specs.Tables.{IsEntry, named_among}
use Rattle.name_tables.specs.Children.{AreChildren}
use Rattle.name_tables.proofs.Grouping.{entry_meant}
use Rattle.name_tables.proofs.Stepping.{nobody_named}
use Rattle.name_tables.proofs.children.told_by_table.Goals as goal

pub returns-in-None : goal.returns-in-None
returns-in-None c =
    let clafers = c.args.clafers.now in
    let name = c.args.name.now in
    let entry : List ℕ → Option NameEntry = λ z. get_by (λ k. bytes_eq z k.now) c.args.table.now.entries in
    let none : entry name ≡ None = sym (ap entry c.as_slice.ensures) ∙ sym c.get.ensures.value ∙ ap option_copied c.in-None.is in
    subst (λ (ds : List ℕ). AreChildren clafers name c.args.ks.now ds) (sym c.new.ensures.items)
    (nobody_named clafers name c.args.ks.now
    (subst (λ (o : Option NameEntry). MatchOption o (named_among clafers name (length clafers) ≡ []) (IsEntry clafers name)) none (c.requires.table.entries name)))

pub returns-in_ok-found-in-Some : goal.returns-in_ok-found-in-Some
returns-in_ok-found-in-Some c =
    let clafers = c.args.clafers.now in
    let name = c.args.name.now in
    let entry : List ℕ → Option NameEntry = λ z. get_by (λ k. bytes_eq z k.now) c.args.table.now.entries in
    let entered = entry_meant clafers name (entry name) c.in-Some.entry.now (sym (ap entry c.as_slice.ensures) ∙ sym c.get.ensures.value ∙ ap option_copied c.in-Some.is)
    (c.requires.table.entries name) in
    subst (λ (ks : List ℕ). IfSome c.in_ok-found-in-Some.found (λ ds. AreChildren clafers name ks ds.items)) c.as_slice-in-Some.ensures (c.in_ok-found-in-Some.ensures name entered)
