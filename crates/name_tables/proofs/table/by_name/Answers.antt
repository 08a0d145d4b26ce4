use Rattle.std.specs.Prelude.{bytes_eq}
use Rattle.std.specs.HashMap.{get_by}
use Rattle.name_tables.specs.Tables.{listed}
use Rattle.name_tables.proofs.Grouping.{group_more}
use Rattle.name_tables.proofs.table.by_name.Goals as goal

pub loop-clafer-preserved : goal.loop-clafer-preserved
loop-clafer-preserved c = λ q.
    group_more c.args.clafers.now c.loop-clafer.clafer c.get.result.now c.as_slice-name.result.now q
    (listed (get_by (λ k. bytes_eq q k.now) c.loop-clafer.groups)) (listed (get_by (λ k. bytes_eq q k.now) c.add_named.new.groups))
    c.get.ensures c.as_slice-name.ensures (c.loop-clafer.invariant q) (c.in_ok-add_named.ensures q)
