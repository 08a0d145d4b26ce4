use Rattle.std.proofs.Common.{◌≡◌, ◌+◌, length, drop, Some}
use Rattle.clafer_desugar.specs.PlainModel.{is_grouping, add_items, add_declared, count_items, count_declared}
use Rattle.clafer_desugar.proofs.walk.+walk.Given as goal

-- what is left leads to the same, and is counted
abbrev pub invariant-add_declared-loop-item : goal.invariant-add_declared-loop-item
invariant-add_declared-loop-item l = record {
  all : add_items (drop l.item-index l.declared.items) (Some l.number) (is_grouping l.group) l.plain ≡ add_declared l.declared l.fn.parent l.grouped l.fn.plain;
  counted : length l.plain.clafers + count_items (drop l.item-index l.declared.items) ≡ length l.fn.plain.clafers + count_declared l.declared;
}
