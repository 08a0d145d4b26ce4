use Rattle.std.proofs.Common.{◌≡◌, ℕ, ◌+◌, ◌&&◌, Some, length}
use Rattle.std.specs.Prelude.{nat_eq, bytes_eq}
use Rattle.std.specs.Option.{option_eq}
use Rattle.std.specs.List.{list_any}
use Rattle.std.specs.HashSet.{contains_by}
use Rattle.clf_tree.specs.Hierarchy.{way_up, with_supers}
use Rattle.family_checks.proofs.children.has_child.Given as goal

-- what is left of the way decides
abbrev pub invariant-loop-step : goal.invariant-loop-step
invariant-loop-step l =
    (n : ℕ) → n + l._step ≡ length l.clafers
    → list_any (λ q. contains_by (λ k. option_eq nat_eq (Some q) k.0 && bytes_eq l.name k.1.now) l.names) (way_up l.clafers n l.current)
    ≡ list_any (λ q. contains_by (λ k. option_eq nat_eq (Some q) k.0 && bytes_eq l.name k.1.now) l.names) (with_supers l.clafers l.clafer)
