use Rattle.std.proofs.Common.{refl}
use Rattle.std.specs.Prelude.{bytes_eq}
use Rattle.std.specs.HashMap.{get_by}
use Rattle.name_tables.proofs.Grouping.{no_entries}
use Rattle.name_tables.proofs.table.NameTable.build.Goals as goal

pub loop-clafer-init : goal.loop-clafer-init
loop-clafer-init c =
    no_entries c.args.clafers.now (λ q. get_by (λ k. bytes_eq q k.now) c.new-entries.result) (λ q. rw c.new-entries.ensures.empty refl)
