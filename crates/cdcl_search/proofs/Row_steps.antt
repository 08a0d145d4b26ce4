-- Lists of numbers: what stands where.
use Rattle.std.proofs.Common.{ℕ, [], ◌∷◌, ◌++◌, ◌≡◌, ◌+◌, ◌-◌, ◌<◌, ◌≤◌, ◌≢◌, List, length, get_or, set, inl, inr, arith, ap, sym, ◌∙◌, length-append}
use Rattle.std.proofs.Math.ListN.{length-set, get_or-append}
use Rattle.std.proofs.Math.Seq.{get_or-append_seam}
use Rattle.std.proofs.lemmas.List.{get_or-set_same, get_or-set_other, get_or-take}
use Rattle.std.proofs.lemmas.Bool.{cases_eq, cases_lt}
use Rattle.std.proofs.lemmas.Grind.{get_or_default_zero}
use Rattle.std.specs.List.{swap_remove}
use Rattle.cdcl_search.specs.Rows.{Stands, IsLess}

pub removed_stands : (old new : List ℕ) (at : ℕ) → at < length old → length new + 1 ≡ length old → (at + 1 < length old → get_or new at 0 ≡ get_or old (length old - 1) 0)
    → ((k : ℕ) → k ≢ at → k + 1 < length old → get_or new k 0 ≡ get_or old k 0) → (m j : ℕ) → m ≤ at → j ≢ get_or old at 0 → Stands old m j → Stands new m j
removed_stands old new at h n last rest m j b d s =
    let k : s.0 ≢ at = λ e. d (sym s.3 ∙ ap (λ x. get_or old x 0) e) in
    elim (cases_lt (s.0 + 1) (length old)) [
      | inl e ↦ (s.0, s.1, omega (arith, n), rest s.0 k e ∙ s.3)
      | inr e ↦
          let l : s.0 ≡ length old - 1 = omega (arith, s.2) in
          (at, b, omega (arith, n, l, k, h), last (omega (arith, l, k, h)) ∙ ap (λ x. get_or old x 0) (sym l) ∙ s.3)
    ]

pub removed_row : (old : List (List ℕ)) (x at : ℕ) (row : List ℕ) → x < length old → length row + 1 ≡ length (get_or old x [])
    → ((m j : ℕ) → m ≤ at → j ≢ get_or (get_or old x []) at 0 → Stands (get_or old x []) m j → Stands row m j) → IsLess old (set old x row) x at
removed_row old x at row h n k = record {
  len = length-set old x row;
  other = λ y d. get_or-set_other old x y row [] d;
  shorter = rw (get_or-set_same {A = List ℕ} old x row []) n;
  keeps = λ m j b d s. rw (get_or-set_same {A = List ℕ} old x row []) (k m j b d s);
}

-- the last one stands at the place of the one that was taken out
pub swapped_last : (xs : List ℕ) (i d : ℕ) → i + 1 < length xs → get_or (swap_remove xs i d) i 0 ≡ get_or xs (length xs - 1) 0
swapped_last xs i d h = get_or-take (length xs - 1) (set xs i (get_or xs (length xs - 1) d)) i 0 (omega (arith, h)) ∙ get_or-set_same xs i (get_or xs (length xs - 1) d) 0 (omega (arith, h)) ∙ get_or_default_zero xs (length xs - 1) d (omega (arith, h))

-- the others stay
pub swapped_other : (xs : List ℕ) (i d k : ℕ) → k ≢ i → k + 1 < length xs → get_or (swap_remove xs i d) k 0 ≡ get_or xs k 0
swapped_other xs i d k n h = get_or-take (length xs - 1) (set xs i (get_or xs (length xs - 1) d)) k 0 (omega (arith, h)) ∙ get_or-set_other xs i k (get_or xs (length xs - 1) d) 0 n

pub stands_left : (xs ys : List ℕ) (m j : ℕ) → Stands xs m j → Stands (xs ++ ys) m j
stands_left xs ys m j s = (s.0, s.1, omega (arith, s.2, length-append xs ys), get_or-append xs ys 0 s.0 s.2 ∙ s.3)

pub stands_last : (xs : List ℕ) (j : ℕ) → Stands (xs ++ j ∷ []) 0 j
stands_last xs j = (length xs, omega arith, omega (arith, length-append xs (j ∷ [])), get_or-append_seam xs j [] 0)

-- a number more in the list of x
pub pushed_stands : (old : List (List ℕ)) (x i y m j : ℕ) → x < length old → Stands (get_or old y []) m j → Stands (get_or (set old x (get_or old x [] ++ i ∷ [])) y []) m j
pushed_stands old x i y m j h s = elim (cases_eq y x) [
  | inl e ↦ rw (e, get_or-set_same {A = List ℕ} old x (get_or old x [] ++ i ∷ []) []) (stands_left (get_or old x []) (i ∷ []) m j (rw e at s))
  | inr e ↦ rw (get_or-set_other {A = List ℕ} old x y (get_or old x [] ++ i ∷ []) [] e) s
]

pub pushed_last : (old : List (List ℕ)) (x i : ℕ) → x < length old → Stands (get_or (set old x (get_or old x [] ++ i ∷ [])) x []) 0 i
pushed_last old x i h = rw (get_or-set_same {A = List ℕ} old x (get_or old x [] ++ i ∷ []) []) (stands_last (get_or old x []) i)
