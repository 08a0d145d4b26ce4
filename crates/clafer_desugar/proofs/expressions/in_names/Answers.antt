use Rattle.std.proofs.Common.{◌≡◌, ℕ, suc, ◌+◌, ◌<◌, not, true, List, [], Some, length, take, drop, cond, get_or, refl, ap, sym, ◌∙◌, arith}
use Rattle.std.specs.Prelude.{slice_get, bytes_eq}
use Rattle.std.specs.List.{list_any}
use Rattle.std.specs.HashSet.{contains_by}
use Rattle.refusal_order.specs.Order.{with_refusals}
use Rattle.clafer_desugar.specs.Refusals.{names_refusals, refused_if}
use Rattle.clafer_desugar.proofs.Joined.{got, not-not, named, name_seen, names_left}
use Rattle.clafer_desugar.proofs.expressions.in_names.Goals as goal

pub loop-title-preserved : goal.loop-title-preserved
loop-title-preserved c =
    let ts = c.args.names.now in
    let i = c.loop-title.title-index in
    let t = c.title-item.result in
    let same : c.as_slice-title-items.result.now ≡ ts = c.as_slice-title-items.ensures in
    let within : i < length ts = omega (arith, ap length same) in
    let at : slice_get ts i ≡ Some t = got ts i t within (c.title-item.is ∙ ap (λ xs. get_or xs i t) same) in
    let name = c.as_slice.result.now in
    let called : name ≡ t.name = c.as_slice.ensures in
    let repeats : not c.in_ok-is_new.is_new ≡ list_any (named t.name) (take i ts) =
    ap not c.in_ok-is_new.ensures.added
    ∙ not-not (contains_by (λ q. bytes_eq name q.now) c.loop-title.seen)
    ∙ c.loop-title.invariant.known name
    ∙ ap (λ (n : List ℕ). list_any (named n) (take i ts)) called in
    record {
      known = name_seen ts i t at
          (λ n. contains_by (λ q. bytes_eq n q.now) c.loop-title.seen)
          (λ n. contains_by (λ q. bytes_eq n q.now) c.insert.new.self)
          c.loop-title.invariant.known
          (λ n. c.in_ok-is_new.ensures.updates.0 (record { ref_ptr = (0, 0); now = n })
          ∙ ap (λ (m : List ℕ). cond (bytes_eq m n) true (contains_by (λ q. bytes_eq n q.now) c.loop-title.seen)) called);
      left = ap (λ f. with_refusals f (names_refusals (take (i + 1) ts) (drop (i + 1) ts))) c.refused_if-first.ensures
          ∙ names_left c.loop-title.first ts i t (not c.in_ok-is_new.is_new) at repeats
          ∙ c.loop-title.invariant.left;
    }
