use Rattle.std.proofs.Common.{◌≡◌, drop, false}
use Rattle.refusal_order.specs.Order.{with_refusals}
use Rattle.clafer_desugar.specs.Refusals.{items_refusals}
use Rattle.clafer_desugar.proofs.items.in_items.Given as goal

-- what is left leads to the same
abbrev pub invariant-loop-item : goal.invariant-loop-item
invariant-loop-item l = with_refusals l.first (items_refusals (drop l.item-index l.items) false) ≡ with_refusals l.fn.first (items_refusals l.items false)
