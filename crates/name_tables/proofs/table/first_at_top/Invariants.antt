use Rattle.std.proofs.Common.{◌≡◌, drop, is_none}
use Rattle.std.specs.Prelude.{slice_get}
use Rattle.std.specs.List.{filter}
use Rattle.clf_tree.specs.Hierarchy.{parent_of}
use Rattle.name_tables.proofs.table.first_at_top.Given as goal

-- what is left has the first one
abbrev pub invariant-loop-clafer : goal.invariant-loop-clafer
invariant-loop-clafer l = slice_get (filter (λ c. is_none (parent_of l.clafers c)) (drop l.clafer-index l.named)) 0 ≡ slice_get (filter (λ c. is_none (parent_of l.clafers c)) l.named) 0
