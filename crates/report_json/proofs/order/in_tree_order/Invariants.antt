-- The trees so far are there.
use Rattle.std.proofs.Common.{◌≡◌, take, length, is_none}
use Rattle.std.specs.List.{filter, flat_map}
use Rattle.report_json.specs.TreeOrder.{subtree}
use Rattle.report_json.proofs.order.in_tree_order.Given as goal

abbrev pub invariant-loop-entry : goal.invariant-loop-entry
invariant-loop-entry l =
    l.order ≡ flat_map (subtree l.entries (length l.entries)) (filter (λ e. is_none e.parent) (take l.entry-index l.entries))
