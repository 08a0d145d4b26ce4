use Rattle.std.specs.Prelude.{bytes_eq}
use Rattle.std.specs.HashMap.{get_by}
use Rattle.super_linker.proofs.Names.{linked_more}
use Rattle.super_linker.proofs.linking.with_supers.Goals as goal

pub loop-number-preserved : goal.loop-number-preserved
loop-number-preserved c =
    linked_more c.args.clafers.now c.loop-number.number c.get-clafer.result.now c.loop-number.made c.push.new.self c.in_ok-with_super.field-0 c.super_named-above.result
    (λ n. get_by (λ k. bytes_eq n k.now) c.in_ok-table.table)
    c.get-clafer.ensures c.in_ok-table.ensures c.super_named-above.ensures c.in_ok-with_super.ensures c.loop-number.invariant c.in_ok-push.ensures.ok
