use Rattle.std.proofs.Common.{◌≡◌, ◌+◌, length, drop, None, false}
use Rattle.clafer_desugar.specs.PlainModel.{add_items, plain_of, count_items}
use Rattle.clafer_desugar.proofs.walk.plain_of.Given as goal

-- what is left leads to the same, and is counted
abbrev pub invariant-loop-item : goal.invariant-loop-item
invariant-loop-item l = record {
  all : add_items (drop l.item-index l.text.items) None false l.plain ≡ plain_of l.text;
  counted : length l.plain.clafers + count_items (drop l.item-index l.text.items) ≡ count_items l.text.items;
}
