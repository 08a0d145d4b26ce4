use Rattle.std.proofs.Common.{◌≡◌, ◌≤◌, ℕ, List, length}
use Rattle.name_tables.specs.Labels.{label_at}
use Rattle.name_tables.specs.Tables.{IsLevel, named_among}
use Rattle.name_tables.proofs.search.labels_of.Given as goal

abbrev pub invariant-loop-steps : goal.invariant-loop-steps
invariant-loop-steps l = record {
  some : 1 ≤ l.steps;
  level : (name : List ℕ) → l.named ≡ named_among l.clafers name (length l.clafers) → IsLevel l.clafers name l.steps (λ p. label_at l.search.labels p) l.search.last;
}
