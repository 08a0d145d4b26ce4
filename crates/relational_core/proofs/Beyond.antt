-- A clafer that is not in the list is-a itself alone.
use Rattle.std.proofs.Common.{◌≡◌, ℕ, zero, suc, ◌≤◌, List, [], ◌∷◌, length, Option, None, ap, sym, ◌∙◌}
use Rattle.std.specs.Prelude.{◌==◌, slice_get}
use Rattle.std.specs.Option.{option_map_or, option_and_then}
use Rattle.std.proofs.lemmas.Option.{slice_get_past}
use Rattle.clf_tree.specs.declared.model.Clafer.{Clafer}
use Rattle.clf_tree.specs.Lists.{has}
use Rattle.clf_tree.specs.Hierarchy.{is_a, way_up}
use Rattle.relational_core.proofs.Passing.{or_false}

alone : (clafers : List Clafer) (n low high : ℕ) → slice_get clafers low ≡ None → has (way_up clafers n low) high ≡ (high == low)
alone clafers zero low high none = or_false (high == low)
alone clafers (suc n) low high none =
    ap (λ (o : Option Clafer). has (low ∷ option_map_or (way_up clafers n) (option_and_then (λ k. k.above) o) []) high) none ∙ or_false (high == low)

pub itself_alone : (clafers : List Clafer) (low high : ℕ) → length clafers ≤ low → (high == low) ≡ is_a clafers low high
itself_alone clafers low high far = sym (alone clafers (length clafers) low high (slice_get_past clafers low far))
