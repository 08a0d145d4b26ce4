use Rattle.std.specs.Prelude.{bytes_eq}
use Rattle.std.specs.HashMap.{get_by}
use Rattle.name_tables.specs.Tables.{HasEntries}
use Rattle.name_tables.proofs.table.NameTable.build.Given as goal

abbrev pub invariant-loop-clafer : goal.invariant-loop-clafer
invariant-loop-clafer l = HasEntries l.clafers l.clafer (λ q. get_by (λ k. bytes_eq q k.now) l.entries)
