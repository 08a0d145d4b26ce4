use Rattle.std.proofs.Common.{◌≡◌, ℕ, ◌&&◌, List, take, Option}
use Rattle.std.specs.Prelude.{nat_eq, bytes_eq}
use Rattle.std.specs.Option.{option_eq}
use Rattle.std.specs.List.{list_any}
use Rattle.std.specs.HashSet.{contains_by}
use Rattle.family_checks.specs.Families.{stands_at}
use Rattle.family_checks.proofs.children.declared_names.Given as goal

-- the set has the names so far
abbrev pub invariant-loop-number : goal.invariant-loop-number
invariant-loop-number l = (p : Option ℕ) (n : List ℕ) → contains_by (λ k. option_eq nat_eq p k.0 && bytes_eq n k.1.now) l.names ≡ list_any (stands_at p n) (take l.number l.clafers)
