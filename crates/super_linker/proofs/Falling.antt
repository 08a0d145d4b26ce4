-- Where ranks fall, no clafer of a rank is above itself.
use Rattle.std.proofs.Common.{◌≡◌, ◌≢◌, ℕ, zero, suc, ◌≤◌, Bool, true, false, ◌||◌, List, [], length, Option, Some, None, refl, ap, sym, ◌∙◌, arith, ◌⊎◌, inl, inr}
use Rattle.std.specs.Prelude.{eqb}
use Rattle.std.specs.Option.{option_map_or}
use Rattle.std.proofs.lemmas.Bool.Decides.{eqb_tells}
use Rattle.std.proofs.lemmas.Bool.{true≢false}
use Rattle.clf_tree.specs.declared.model.Clafer.{Clafer}
use Rattle.clf_tree.specs.Lists.{has}
use Rattle.clf_tree.specs.Hierarchy.{super_of, way_up, is_a}
use Rattle.clf_tree.specs.Named.{inherits_itself}
use Rattle.super_linker.specs.Ranks.{rank_of, Fall}

at_first : (ranks : List ℕ) (low high : ℕ) (b : Bool) → ((eqb high low ≡ true) × (high ≡ low)) ⊎ ((eqb high low ≡ false) × (high ≢ low)) → (b ≡ true → rank_of ranks high ≤ rank_of ranks low)
    → (eqb high low || b) ≡ true → rank_of ranks high ≤ rank_of ranks low
at_first ranks low high b (inl h) rest met = let same : rank_of ranks high ≡ rank_of ranks low = ap (rank_of ranks) h.1 in omega (arith, same)
at_first ranks low high b (inr h) rest met = rest (ap (λ z. z || b) (sym h.0) ∙ met)

on_way : (clafers : List Clafer) (ranks : List ℕ) (low high n : ℕ) (next : Option ℕ) → Fall clafers ranks → 1 ≤ rank_of ranks low → super_of clafers low ≡ next
    → ((mid : ℕ) → 1 ≤ rank_of ranks mid → has (way_up clafers n mid) high ≡ true → rank_of ranks high ≤ rank_of ranks mid)
    → has (option_map_or (way_up clafers n) next []) high ≡ true → rank_of ranks high ≤ rank_of ranks low
on_way clafers ranks low high n None fall ranked e rest met = absurd (true≢false (sym met))
on_way clafers ranks low high n (Some mid) fall ranked e rest met =
    let falls = fall low mid ranked e in
    let most = rest mid falls.0 met in
    let lower = falls.1 in
    omega (arith, most, lower)

-- what is met on the way up has no higher rank
no_higher : (clafers : List Clafer) (ranks : List ℕ) (high n low : ℕ) → Fall clafers ranks → 1 ≤ rank_of ranks low → has (way_up clafers n low) high ≡ true → rank_of ranks high ≤ rank_of ranks low
no_higher clafers ranks high zero low fall ranked met = at_first ranks low high false (eqb_tells high low) (λ e. absurd (true≢false (sym e))) met
no_higher clafers ranks high (suc n) low fall ranked met =
    at_first ranks low high (has (option_map_or (way_up clafers n) (super_of clafers low) []) high) (eqb_tells high low)
    (on_way clafers ranks low high n (super_of clafers low) fall ranked refl (λ mid r m. no_higher clafers ranks high n mid fall r m)) met

by_test : (clafers : List Clafer) (ranks : List ℕ) (c s : ℕ) (b : Bool) → Fall clafers ranks → 1 ≤ rank_of ranks c → super_of clafers c ≡ Some s → is_a clafers s c ≡ b → b ≡ false
by_test clafers ranks c s false fall ranked e met = refl
by_test clafers ranks c s true fall ranked e met =
    let falls = fall c s ranked e in
    let most = no_higher clafers ranks c (length clafers) s fall falls.0 met in
    let lower = falls.1 in
    absurd (omega (arith, most, lower))

by_super : (clafers : List Clafer) (ranks : List ℕ) (c : ℕ) (next : Option ℕ) → Fall clafers ranks → 1 ≤ rank_of ranks c → super_of clafers c ≡ next → option_map_or (λ s. is_a clafers s c) next false ≡ false
by_super clafers ranks c None fall ranked e = refl
by_super clafers ranks c (Some s) fall ranked e = by_test clafers ranks c s (is_a clafers s c) fall ranked e refl

pub not_above_itself : (clafers : List Clafer) (ranks : List ℕ) (c : ℕ) → Fall clafers ranks → 1 ≤ rank_of ranks c → inherits_itself clafers c ≡ false
not_above_itself clafers ranks c fall ranked = by_super clafers ranks c (super_of clafers c) fall ranked refl

pub no_ranks : (clafers : List Clafer) (ranks : List ℕ) → ranks ≡ [] → Fall clafers ranks
no_ranks clafers ranks e c s ranked above = let none : rank_of ranks c ≡ 0 = ap (λ (rs : List ℕ). rank_of rs c) e in absurd (omega (arith, none, ranked))
