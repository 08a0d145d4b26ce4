-- The scopes as a list, which of them are large, and their sum.
use Rattle.std.proofs.Common.{◌≡◌, ℕ, ◌+◌, ◌<◌, ◌≤◌, Bool, true, false, ◌&&◌, List, [], ◌∷◌, ◌++◌, length, map, sum, get_or, Option, Some, None, refl, ap, sym, ◌∙◌, arith, if◌then◌else◌}
use Rattle.std.specs.Prelude.{slice_get, nat_lt, is_none}
use Rattle.std.specs.List.{flat_map}
use Rattle.std.proofs.lemmas.Grind.{common_steps}
use Rattle.clf_base.specs.declared.fault.Refusal.{Refusal}
use Rattle.clf_tree.specs.declared.model.Clafer.{Clafer}
use Rattle.clf_tree.specs.declared.scopes.Given.{Given}
use Rattle.clf_tree.specs.Lists.{numbers_below}
use Rattle.scope_table.specs.Paths.{given_to}
use Rattle.scope_table.specs.Largest.{scope, told}
use Rattle.scope_table.specs.Refusals.{refused, nowhere, title_of, range_refusals, given_refusals, large_refusals, all_scopes, sum_refusals, refusals}
use Rattle.scope_table.specs.Steps.{IsGiven, AreLargest}
use Rattle.scope_table.proofs.ClaferByClafer.{sums-cons}
use Rattle.scope_table.proofs.Firsts.{is_mapped, none_here}
use Rattle.scope_table.proofs.Rounds.{told_twice, sums_alike}

large_told : (n : ℕ) → nat_lt 256 (told n) ≡ nat_lt 256 n
large_told n = grind (arith, common_steps)

large_case : (clafers : List Clafer) (given : Given) (c : ℕ) (b : Bool) → (is_none (given_to clafers given.scopes c) && nat_lt 256 (scope clafers given c)) ≡ b
    → large_refusals clafers given c ≡ (if b then refused 83 (title_of clafers c) (told (scope clafers given c)) ∷ [] else [])
large_case clafers given c b e = rw e refl

module _ (clafers : List Clafer) (given : Given) (table : List (Option ℕ)) (of : List ℕ) (known : IsGiven clafers given.scopes table) (are : AreLargest clafers given of) where
  tested : (c : ℕ) → (is_none (given_to clafers given.scopes c) && nat_lt 256 (scope clafers given c)) ≡ (is_none (get_or table c None) && nat_lt 256 (get_or of c 0))
  tested c =
      ap (λ o. is_none o && nat_lt 256 (scope clafers given c)) (sym (known c))
      ∙ ap (λ b. is_none (get_or table c None) && b) (sym (large_told (scope clafers given c)) ∙ ap (nat_lt 256) (sym (are c)))

  pub large_here : (c : ℕ) (k : Clafer) (r : Refusal) → (is_none (get_or table c None) && nat_lt 256 (get_or of c 0)) ≡ true → slice_get clafers c ≡ Some k → r ≡ refused 83 k.title.at (get_or of c 0)
      → large_refusals clafers given c ≡ r ∷ []
  large_here c k r met found e =
      large_case clafers given c true (tested c ∙ met)
      ∙ ap (λ n. refused 83 (title_of clafers c) n ∷ []) (sym (are c))
      ∙ rw found (ap (λ x. x ∷ []) (sym e))

  pub none_large : (c : ℕ) → (is_none (get_or table c None) && nat_lt 256 (get_or of c 0)) ≡ false → large_refusals clafers given c ≡ []
  none_large c met = large_case clafers given c false (tested c ∙ met)

module _ (clafers : List Clafer) (given : Given) (of : List ℕ) (long : length of ≡ length clafers) (are : AreLargest clafers given of) where
  pub of_told : of ≡ map (λ c. told (scope clafers given c)) (numbers_below (length clafers))
  of_told =
      is_mapped (λ c. told (scope clafers given c)) 0 of (λ i lt. let e : 0 + i ≡ i = omega arith in are i ∙ ap (λ c. told (scope clafers given c)) (sym e))
      ∙ ap (λ n. map (λ c. told (scope clafers given c)) (numbers_below n)) long

  pub sum_told : told (sum of) ≡ told (sum (all_scopes clafers given))
  sum_told = ap (λ xs. told (sum xs)) of_told ∙ sums_alike (λ c. told (scope clafers given c)) (scope clafers given) (λ d. told_twice (scope clafers given d)) (numbers_below (length clafers))

  few_case : (b : Bool) → nat_lt 2048 (sum (all_scopes clafers given)) ≡ b
      → sum_refusals clafers given ≡ (if b then refused 84 nowhere (told (sum (all_scopes clafers given))) ∷ [] else [])
  few_case b e = rw e refl

  pub many : (total : ℕ) (r : Refusal) → total ≡ told (sum of) → 2048 < total → r ≡ refused 84 nowhere total → r ∷ [] ≡ sum_refusals clafers given
  many total r e lt is =
      let whole : total ≡ told (sum (all_scopes clafers given)) = e ∙ sum_told in
      let above : nat_lt 2048 (sum (all_scopes clafers given)) ≡ true = is_above (sum (all_scopes clafers given)) (rw whole at lt) in
      ap (λ x. x ∷ []) (is ∙ ap (refused 84 nowhere) whole) ∙ sym (few_case true above)
    where
      is_above : (n : ℕ) → 2048 < told n → nat_lt 2048 n ≡ true
      is_above n h = grind (arith, common_steps)

  pub few : (total : ℕ) → total ≡ told (sum of) → total ≤ 2048 → [] ≡ sum_refusals clafers given
  few total e not_more =
      let whole : total ≡ told (sum (all_scopes clafers given)) = e ∙ sum_told in
      sym (few_case false (is_not_above (sum (all_scopes clafers given)) (rw whole at not_more)))
    where
      is_not_above : (n : ℕ) → told n ≤ 2048 → nat_lt 2048 n ≡ false
      is_not_above n h = grind (arith, common_steps)

  no_more : sum_refusals clafers given ≡ [] → (b : Bool) → nat_lt 2048 (sum (all_scopes clafers given)) ≡ b → b ≡ false
  no_more none true e = absurd (not_empty (sym (few_case true e) ∙ none))
    where
      not_empty : {x : Refusal} {xs : List Refusal} → x ∷ xs ≡ [] → ⊥
      not_empty e = (cc)
  no_more none false e = refl

  pub sum_few : sum_refusals clafers given ≡ [] → sum (all_scopes clafers given) ≤ 2048
  sum_few none = below (sum (all_scopes clafers given)) (no_more none (nat_lt 2048 (sum (all_scopes clafers given))) refl)
    where
      below : (n : ℕ) → nat_lt 2048 n ≡ false → n ≤ 2048
      below n h = grind (arith, common_steps)

  pub told_few : sum_refusals clafers given ≡ [] → told (sum of) ≤ 2048
  told_few none = let less = sum_few none in let same = sum_told in omega (arith, less, same)

  untold : (f : ℕ → ℕ) (xs : List ℕ) → sum (map f xs) ≤ 2048 → map (λ c. told (f c)) xs ≡ map f xs
  untold f [] h = refl
  untold f (x ∷ xs) h =
      let whole = sums-cons f x xs in
      let first : told (f x) ≡ f x = omega (arith, h, whole) in
      ap (λ y. y ∷ map (λ c. told (f c)) xs) first ∙ ap (λ ys. f x ∷ ys) (untold f xs (omega (arith, h, whole)))

  pub of_exact : sum_refusals clafers given ≡ [] → of ≡ all_scopes clafers given
  of_exact none = of_told ∙ untold (scope clafers given) (numbers_below (length clafers)) (sum_few none)

pub none_refused : (clafers : List Clafer) (given : Given) → range_refusals given ≡ [] → given_refusals clafers [] given.scopes ≡ []
    → slice_get (flat_map (large_refusals clafers given) (numbers_below (length clafers))) 0 ≡ None → sum_refusals clafers given ≡ [] → refusals clafers given ≡ []
none_refused clafers given a b c d =
    ap (λ xs. xs ++ given_refusals clafers [] given.scopes ++ flat_map (large_refusals clafers given) (numbers_below (length clafers)) ++ sum_refusals clafers given) a
    ∙ ap (λ xs. xs ++ flat_map (large_refusals clafers given) (numbers_below (length clafers)) ++ sum_refusals clafers given) b
    ∙ ap (λ xs. xs ++ sum_refusals clafers given) (none_here (flat_map (large_refusals clafers given) (numbers_below (length clafers))) c)
    ∙ d
