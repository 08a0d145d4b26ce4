use Rattle.std.proofs.Common.{ℕ, List, take}
use Rattle.name_tables.specs.Tables.{IsEntry}
use Rattle.name_tables.specs.Children.{AreChildren}
use Rattle.name_tables.proofs.children.children_told.Given as goal

-- the children of the clafers so far
abbrev pub invariant-loop-clafer : goal.invariant-loop-clafer
invariant-loop-clafer l = (name : List ℕ) → IsEntry l.clafers name l.entry → AreChildren l.clafers name (take l.clafer-index l.ks) l.found.items
