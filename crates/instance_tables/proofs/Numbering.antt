-- Slots of different nodes are different.
use Rattle.std.proofs.Common.{◌≡◌, ℕ, zero, suc, ◌+◌, ◌<◌, ◌≤◌, List, [], ◌∷◌, ◌++◌, length, get_or, map, refl, ap, ◌∙◌, arith}
use Rattle.std.specs.Prelude.{sum}
use Rattle.std.proofs.lemmas.List.Sums.{sum_by-cons}
use Rattle.std.proofs.lemmas.List.FromFn.{map-range_with_len_more, length-map-range_with_len, get_or-map-range_with_len}
use Rattle.clf_tree.specs.Lists.{numbers_below}
use Rattle.instance_tables.specs.Slots.{first_slot}

first_slot-next : (scopes : List ℕ) (c : ℕ) → c < length scopes → first_slot scopes (suc c) ≡ first_slot scopes c + get_or scopes c 0
first_slot-next [] c h = absurd (omega arith)
first_slot-next (n ∷ ns) zero h = at_first ns
  where
    at_first : (ms : List ℕ) → n + first_slot ms 0 ≡ 0 + n
    at_first [] = omega arith
    at_first (m ∷ ms) = omega arith
first_slot-next (n ∷ ns) (suc c) h = omega (arith, first_slot-next ns c (omega arith))

pub first_slot-more : (scopes : List ℕ) (c : ℕ) → c < length scopes → first_slot scopes (c + 1) ≡ first_slot scopes c + get_or scopes c 0
first_slot-more scopes c h = ap (first_slot scopes) (omega arith) ∙ first_slot-next scopes c h

pub first_slot-none : (scopes : List ℕ) → first_slot scopes 0 ≡ 0
first_slot-none [] = refl
first_slot-none (n ∷ ns) = refl

pub first_slot-before : (scopes : List ℕ) (c d : ℕ) → c < d → first_slot scopes c + get_or scopes c 0 ≤ first_slot scopes d
first_slot-before [] c d h = omega arith
first_slot-before (n ∷ ns) zero zero h = absurd (omega arith)
first_slot-before (n ∷ ns) zero (suc d) h = omega arith
first_slot-before (n ∷ ns) (suc c) zero h = absurd (omega arith)
first_slot-before (n ∷ ns) (suc c) (suc d) h = omega (arith, first_slot-before ns c d (omega arith))

pub firsts-more : (scopes : List ℕ) (n : ℕ) → map (first_slot scopes) (numbers_below (n + 1)) ≡ map (first_slot scopes) (numbers_below n) ++ first_slot scopes n ∷ []
firsts-more scopes n = map-range_with_len_more (first_slot scopes) 0 n n (omega arith)

pub firsts-length : (scopes : List ℕ) (n : ℕ) → length (map (first_slot scopes) (numbers_below n)) ≡ n
firsts-length scopes n = length-map-range_with_len (first_slot scopes) 0 n

pub firsts-at : (scopes : List ℕ) (n c : ℕ) → c < n → get_or (map (first_slot scopes) (numbers_below n)) c 0 ≡ first_slot scopes c
firsts-at scopes n c h = get_or-map-range_with_len (first_slot scopes) 0 n c c 0 h (omega arith)

-- the slot of a node is below their number
pub slot_fits : (scopes first xs ys : List ℕ) (count c k : ℕ) → xs ≡ scopes → ys ≡ first → first ≡ map (first_slot scopes) (numbers_below (length scopes)) → count ≡ first_slot scopes (length scopes)
    → c < length xs → k < get_or xs c 0 → get_or ys c 0 + k < count
slot_fits scopes first xs ys count c k e f numbered counted within below =
    let in_scopes : c < length scopes = omega (arith, ap length e) in
    omega (arith, first_slot-before scopes c (length scopes) in_scopes, ap (λ zs. get_or zs c 0) e, ap (λ zs. get_or zs c 0) (f ∙ numbered), firsts-at scopes (length scopes) c in_scopes)

-- the scopes so far are not more than all
pub count_fits : (scopes xs : List ℕ) (i : ℕ) → xs ≡ scopes → i < length xs → first_slot scopes i + get_or xs i 0 ≤ first_slot scopes (length scopes)
count_fits scopes xs i e within =
    let in_scopes : i < length scopes = omega (arith, ap length e) in
    omega (arith, first_slot-before scopes i (length scopes) in_scopes, ap (λ zs. get_or zs i 0) e)

pub scopes_total : (scopes : List ℕ) → sum scopes ≡ first_slot scopes (length scopes)
scopes_total [] = refl
scopes_total (n ∷ ns) = sum_by-cons (λ (x : ℕ). x) n ns ∙ ap (λ k. n + k) (scopes_total ns)

pub ruleset slot_steps = (first_slot-more, first_slot-none, first_slot-before, firsts-more, firsts-length, firsts-at)
