use Rattle.std.proofs.Common.{◌≡◌, ℕ, ◌&&◌, List, [], take, drop, Option}
use Rattle.std.specs.Prelude.{nat_eq, bytes_eq}
use Rattle.std.specs.Option.{option_eq}
use Rattle.std.specs.List.{list_any}
use Rattle.std.specs.HashSet.{contains_by}
use Rattle.refusal_order.specs.Order.{with_refusals}
use Rattle.clafer_desugar.specs.Refusals.{clafers_refusals, stands_at}
use Rattle.clafer_desugar.proofs.clafers.in_clafers.Given as goal

-- the set has the places and names so far, and what is left leads to the same
abbrev pub invariant-loop-clafer : goal.invariant-loop-clafer
invariant-loop-clafer l = record {
  known : (p : Option ℕ) (n : List ℕ) → contains_by (λ k. option_eq nat_eq p k.0 && bytes_eq n k.1.now) l.seen ≡ list_any (stands_at p n) (take l.clafer-index l.clafers);
  left : with_refusals l.first (clafers_refusals (take l.clafer-index l.clafers) (drop l.clafer-index l.clafers)) ≡ with_refusals l.fn.first (clafers_refusals [] l.clafers);
}
