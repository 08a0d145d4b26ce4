use Rattle.std.proofs.Common.{arith}
use Rattle.instance_tables.proofs.Numbering.{count_fits}
use Rattle.instance_tables.proofs.slots.Slots.new.Goals as goal

pub overflow_add-count : goal.overflow_add-count
overflow_add-count c =
    omega (arith, count_fits c.args.scopes.now c.as_slice-scope-items.result.now c.loop-scope.scope-index c.as_slice-scope-items.ensures c.loop-scope-test.true, c.loop-scope.invariant.counted)
