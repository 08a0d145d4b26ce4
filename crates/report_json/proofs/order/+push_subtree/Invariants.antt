-- The children so far are there.
use Rattle.std.proofs.Common.{◌≡◌, ◌++◌, ◌-◌, take}
use Rattle.std.specs.List.{filter, flat_map}
use Rattle.clf_tree.specs.Shape.{is_child_of}
use Rattle.report_json.specs.TreeOrder.{subtree}
use Rattle.report_json.proofs.order.+push_subtree.Given as goal

abbrev pub decreases-push_subtree : goal.decreases-push_subtree
decreases-push_subtree l = l.levels

abbrev pub invariant-loop-child : goal.invariant-loop-child
invariant-loop-child l =
    l.order ≡ l.initial.order ++ flat_map (subtree l.entries (l.levels - 1)) (filter (is_child_of l.entry) (take l.child-index l.entries))
