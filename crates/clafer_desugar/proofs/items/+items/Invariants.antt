use Rattle.std.proofs.Common.{◌≡◌, drop, true}
use Rattle.refusal_order.specs.Order.{with_refusals}
use Rattle.clafer_desugar.specs.Refusals.{items_refusals, declared_refusals}
use Rattle.clafer_desugar.proofs.items.+items.Given as goal

-- what is left leads to the same
abbrev pub invariant-in_declared-loop-item : goal.invariant-in_declared-loop-item
invariant-in_declared-loop-item l = with_refusals l.first (items_refusals (drop l.item-index l.declared.items) true) ≡ with_refusals l.fn.first (declared_refusals l.declared)
