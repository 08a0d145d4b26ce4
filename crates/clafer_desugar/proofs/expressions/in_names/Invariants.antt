use Rattle.std.proofs.Common.{◌≡◌, ℕ, List, [], take, drop}
use Rattle.std.specs.Prelude.{bytes_eq}
use Rattle.std.specs.List.{list_any}
use Rattle.std.specs.HashSet.{contains_by}
use Rattle.refusal_order.specs.Order.{with_refusals}
use Rattle.clafer_desugar.specs.Refusals.{names_refusals}
use Rattle.clafer_desugar.proofs.Joined.{named}
use Rattle.clafer_desugar.proofs.expressions.in_names.Given as goal

-- the set has the names so far, and what is left leads to the same
abbrev pub invariant-loop-title : goal.invariant-loop-title
invariant-loop-title l = record {
  known : (n : List ℕ) → contains_by (λ k. bytes_eq n k.now) l.seen ≡ list_any (named n) (take l.title-index l.names);
  left : with_refusals l.first (names_refusals (take l.title-index l.names) (drop l.title-index l.names)) ≡ with_refusals l.fn.first (names_refusals [] l.names);
}
