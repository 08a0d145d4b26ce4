use Rattle.std.proofs.Common.{◌≡◌, ℕ, List}
use Rattle.std.specs.Prelude.{bytes_eq}
use Rattle.std.specs.HashMap.{get_by}
use Rattle.name_tables.specs.Tables.{listed, named_among}
use Rattle.name_tables.proofs.table.by_name.Given as goal

abbrev pub invariant-loop-clafer : goal.invariant-loop-clafer
invariant-loop-clafer l = (q : List ℕ) → listed (get_by (λ k. bytes_eq q k.now) l.groups) ≡ named_among l.clafers q l.clafer
