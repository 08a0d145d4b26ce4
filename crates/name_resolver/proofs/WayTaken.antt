-- The way that is taken, by counting the steps first.
use Rattle.std.proofs.Common.{◌≡◌, ◌≢◌, ℕ, zero, suc, ◌+◌, ◌<◌, ◌≤◌, Bool, true, false, List, [], ◌∷◌, length, refl, sym, subst, ◌∙◌, arith, ◌⊎◌, inl, inr}
use Rattle.std.specs.Prelude.{eqb, if◌then◌else◌}
use Rattle.std.proofs.lemmas.Bool.Decides.{eqb_tells}
use Rattle.std.proofs.lemmas.Bool.{true≢false}
use Rattle.clf_tree.specs.declared.model.Clafer.{Clafer}
use Rattle.clf_tree.specs.Lists.{has}
use Rattle.name_resolver.specs.Ways.{Way, here, down}
use Rattle.name_resolver.specs.FirstWay.{height, first_way, IsTaken, steps_from, way_taken}
use Rattle.name_resolver.proofs.Members.{In}
use Rattle.name_resolver.proofs.Straight.{child_below, short}
use Rattle.name_resolver.proofs.FirstWays.{Up, up_leads, leads_up, has_in, in_has, first_way_taken}

-- no way of one step or more is shorter than k
abbrev IsLeast : List Clafer → ℕ → ℕ → ℕ → Type 0
IsLeast clafers c d k = (other : List ℕ) → Way clafers c other d → 1 ≤ length other → k ≤ length other

record Counted (clafers : List Clafer) (c d k : ℕ) : Type 0 where
  up : Up clafers c k d
  least : IsLeast clafers c d k

further : (clafers : List Clafer) (c d k : ℕ) (way : List ℕ) → ((eqb k (length way) ≡ true) × (k ≡ length way)) ⊎ ((eqb k (length way) ≡ false) × (k ≢ length way))
    → c < length clafers → has (height clafers (d ∷ []) k) c ≡ false → Way clafers c way d → k ≤ length way → k + 1 ≤ length way
further clafers c d k way (inl h) within fail w least =
    absurd (true≢false (sym (has_in (height clafers (d ∷ []) k) c (subst (λ j. In c (height clafers (d ∷ []) j)) (sym h.1) (leads_up clafers c way d within w))) ∙ fail))
further clafers c d k way (inr h) within fail w least = omega (arith, h.1, least)

counted_by : (clafers : List Clafer) (n k c d : ℕ) → c < length clafers → (way : List ℕ) → Way clafers c way d → k ≤ length way → 1 ≤ k → IsLeast clafers c d k
    → (b : Bool) → has (height clafers (d ∷ []) k) c ≡ b
    → (k + 1 ≤ length way → IsLeast clafers c d (k + 1) → Counted clafers c d (steps_from clafers n (k + 1) c d))
    → Counted clafers c d (if b then k else steps_from clafers n (k + 1) c d)
counted_by clafers n k c d within way w high some least true met rest = record { up = up_leads clafers d k c (in_has (height clafers (d ∷ []) k) c met); least = least }
counted_by clafers n k c d within way w high some least false met rest =
    rest (further clafers c d k way (eqb_tells k (length way)) within met w high)
    (λ other v s. further clafers c d k other (eqb_tells k (length other)) within met v (least other v s))

counted : (clafers : List Clafer) (n k c d : ℕ) → c < length clafers → (way : List ℕ) → Way clafers c way d → k ≤ length way → length way < k + n → 1 ≤ k → IsLeast clafers c d k
    → Counted clafers c d (steps_from clafers n k c d)
counted clafers zero k c d within way w high low some least = absurd (omega (arith, high, low))
counted clafers (suc n) k c d within way w high low some least =
    counted_by clafers n k c d within way w high some least _ refl
    (λ h l. counted clafers n (k + 1) c d within way w h (omega (arith, low)) (omega (arith, some)) l)

taken_by : (clafers : List Clafer) (c d : ℕ) (k : ℕ) → 1 ≤ k → Counted clafers c d k → IsTaken clafers c (first_way clafers d k c) d
taken_by clafers c d k some n = first_way_taken clafers c d k n.up.way n.up.leads n.up.long some n.least

at_least : (clafers : List Clafer) (n k c d : ℕ) → 1 ≤ k → 1 ≤ steps_from clafers n k c d
at_least clafers zero k c d some = some
at_least clafers (suc n) k c d some = by_test (has (height clafers (d ∷ []) k) c) (at_least clafers n (k + 1) c d (omega (arith, some)))
  where
    by_test : (b : Bool) → 1 ≤ steps_from clafers n (k + 1) c d → 1 ≤ (if b then k else steps_from clafers n (k + 1) c d)
    by_test true rest = some
    by_test false rest = rest

-- where some way leads down to d, the one that is taken is the first of the shortest
pub way_taken-is : (clafers : List Clafer) (c : ℕ) (way : List ℕ) (d : ℕ) → c < length clafers → Way clafers c way d → 1 ≤ length way → IsTaken clafers c (way_taken clafers c d) d
way_taken-is clafers c _ _ within here some = absurd (omega (arith, some))
way_taken-is clafers c _ d within (down {m = m} {ms = ms} child w) some =
    let s = short clafers m ms d (child_below clafers c m child) w in
    let few : length (m ∷ s.tail) < 1 + length clafers = let f = s.few in omega (arith, f) in
    taken_by clafers c d (steps_from clafers (length clafers) 1 c d) (at_least clafers (length clafers) 1 c d (omega arith))
    (counted clafers (length clafers) 1 c d within (m ∷ s.tail) (down child s.way) (omega arith) few (omega arith) (λ other v o. o))
