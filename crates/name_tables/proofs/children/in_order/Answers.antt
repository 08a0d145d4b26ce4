use Rattle.std.proofs.Common.{ℕ, List, ap, ◌∙◌}
use Rattle.std.proofs.lemmas.List.Filters.{dedup_is}
use Rattle.std.proofs.lemmas.Map.Keys.{IsStrictlyIncreasing-dedup}
use Rattle.clf_tree.specs.Lists.{has}
use Rattle.name_tables.proofs.Stepping.{sorted_once}
use Rattle.name_tables.proofs.children.in_order.Goals as goal

pub returns : goal.returns
returns c =
    let is = dedup_is _ _ _ c.dedup.ensures.filtered in
    record {
      rises = rw (c.from_vec.ensures, is) (IsStrictlyIncreasing-dedup _ c.sort_unstable.ensures.sorted);
      same = λ e. ap (λ (xs : List ℕ). has xs e) c.from_vec.ensures ∙ sorted_once _ _ _ c.sort_unstable.ensures.permutation is e;
    }
