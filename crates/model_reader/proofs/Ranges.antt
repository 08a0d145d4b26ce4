-- Where nothing is refused of scopes, the range of integers is right.
use Rattle.std.proofs.Common.{◌≡◌, ℕ, ℤ, Bool, true, false, List, [], ◌∷◌, ◌++◌, length, refl, ap, sym, ◌∙◌}
use Rattle.std.specs.Prelude.{◌||◌, not, pos, neg_ℤ, int_lt, if◌then◌else◌}
use Rattle.std.specs.List.{flat_map}
use Rattle.clf_base.specs.declared.fault.Refusal.{Refusal}
use Rattle.clf_tree.specs.declared.model.Clafer.{Clafer}
use Rattle.clf_tree.specs.declared.scopes.Scopes.{Scopes}
use Rattle.clf_tree.specs.declared.scopes.Given.{Given}
use Rattle.clf_tree.specs.Lists.{numbers_below}
use Rattle.scope_table.specs.Refusals.{nowhere, refused, range_refusals, given_refusals, large_refusals, sum_refusals, refusals, AreScopes}
use Rattle.model_reader.specs.Ranges.{has_range}

nothing_first : (xs ys : List Refusal) → xs ++ ys ≡ [] → xs ≡ []
nothing_first [] ys h = refl
nothing_first (x ∷ xs) ys h = (cc)

not_met : (b : Bool) (r : Refusal) → (if b then r ∷ [] else []) ≡ [] → not b ≡ true
not_met true r h = (cc)
not_met false r h = refl

abbrev is_wrong : ℤ → ℤ → Bool
is_wrong low high = int_lt high low || int_lt low (neg_ℤ (pos 32768)) || int_lt (pos 32767) high

range_right : (clafers : List Clafer) (given : Given) → refusals clafers given ≡ [] → range_refusals given ≡ []
range_right clafers given none =
    nothing_first (range_refusals given) (given_refusals clafers [] given.scopes)
    (nothing_first (range_refusals given ++ given_refusals clafers [] given.scopes) (flat_map (large_refusals clafers given) (numbers_below (length clafers)))
    (nothing_first (range_refusals given ++ given_refusals clafers [] given.scopes ++ flat_map (large_refusals clafers given) (numbers_below (length clafers))) (sum_refusals clafers given) none))

pub in_range : (clafers : List Clafer) (given : Given) (scopes : Scopes) → refusals clafers given ≡ [] → AreScopes clafers given scopes → has_range scopes ≡ true
in_range clafers given scopes none are =
    ap (λ low. not (is_wrong low scopes.high)) are.low ∙ ap (λ high. not (is_wrong given.low high)) are.high
    ∙ not_met (is_wrong given.low given.high) (refused 85 nowhere 0) (range_right clafers given none)
