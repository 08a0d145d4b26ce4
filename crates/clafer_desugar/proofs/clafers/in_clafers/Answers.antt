use Rattle.std.proofs.Common.{◌≡◌, ℕ, suc, ◌+◌, ◌<◌, ◌&&◌, not, true, List, [], Option, Some, length, take, drop, cond, get_or, refl, ap, sym, ◌∙◌, arith}
use Rattle.std.specs.Prelude.{slice_get, nat_eq, bytes_eq}
use Rattle.std.specs.Option.{option_eq}
use Rattle.std.specs.List.{list_any}
use Rattle.std.specs.HashSet.{contains_by}
use Rattle.refusal_order.specs.Order.{with_refusals}
use Rattle.clafer_desugar.specs.Refusals.{clafers_refusals, stands_at, refusals_of}
use Rattle.clafer_desugar.proofs.Joined.{got, not-not, clafer_seen, clafers_left}
use Rattle.clafer_desugar.proofs.clafers.in_clafers.Goals as goal

pub loop-clafer-preserved : goal.loop-clafer-preserved
loop-clafer-preserved c =
    let cs = c.args.clafers.now in
    let i = c.loop-clafer.clafer-index in
    let k = c.clafer-item.result in
    let same : c.as_slice-clafer-items.result.now ≡ cs = c.as_slice-clafer-items.ensures in
    let within : i < length cs = omega (arith, ap length same) in
    let at : slice_get cs i ≡ Some k = got cs i k within (c.clafer-item.is ∙ ap (λ xs. get_or xs i k) same) in
    let name = c.as_slice.result.now in
    let called : name ≡ k.title.name = c.as_slice.ensures in
    let repeats : not c.in_ok-is_new.is_new ≡ list_any (stands_at k.parent k.title.name) (take i cs) =
    ap not c.in_ok-is_new.ensures.added
    ∙ not-not (contains_by (λ q. option_eq nat_eq k.parent q.0 && bytes_eq name q.1.now) c.loop-clafer.seen)
    ∙ c.loop-clafer.invariant.known k.parent name
    ∙ ap (λ (n : List ℕ). list_any (stands_at k.parent n) (take i cs)) called in
    record {
      known = clafer_seen cs i k at
          (λ p n. contains_by (λ q. option_eq nat_eq p q.0 && bytes_eq n q.1.now) c.loop-clafer.seen)
          (λ p n. contains_by (λ q. option_eq nat_eq p q.0 && bytes_eq n q.1.now) c.insert.new.self)
          c.loop-clafer.invariant.known
          (λ p n. c.in_ok-is_new.ensures.updates.0 (p, record { ref_ptr = (0, 0); now = n })
          ∙ ap (λ (m : List ℕ). cond (option_eq nat_eq k.parent p && bytes_eq m n) true (contains_by (λ q. option_eq nat_eq p q.0 && bytes_eq n q.1.now) c.loop-clafer.seen)) called);
      left = ap (λ f. with_refusals f (clafers_refusals (take (i + 1) cs) (drop (i + 1) cs))) c.in_clafer-first.ensures
          ∙ clafers_left c.loop-clafer.first cs i k (not c.in_ok-is_new.is_new) at repeats
          ∙ c.loop-clafer.invariant.left;
    }
