use Rattle.std.proofs.Common.{◌≡◌, ℕ, ◌≤◌, List, length, drop}
use Rattle.std.specs.Prelude.{bytes_eq}
use Rattle.std.specs.List.{position_from}
use Rattle.std.specs.HashMap.{get_by}
use Rattle.super_linker.specs.Supers.{is_super_named}
use Rattle.super_linker.proofs.table.super_table.Given as goal

-- the table has the clafers from here to the end
abbrev pub invariant-loop-left : goal.invariant-loop-left
invariant-loop-left l = record {
  within : l.left ≤ length l.clafers;
  known : (n : List ℕ) → get_by (λ k. bytes_eq n k.now) l.table ≡ position_from (is_super_named n) l.left (drop l.left l.clafers);
}

abbrev pub decreases-loop-left : goal.decreases-loop-left
decreases-loop-left l = l.left
