-- What a read from memory gives.
use Rattle.std.proofs.Common.{◌≡◌, ◌+◌, ℕ, List, [], ◌++◌, length, take, drop, sym, ◌∙◌, ap, arith, min, ◌<◌, ◌-◌}
use Rattle.std.proofs.lemmas.List.{take-append-drop, length-drop, length-take, drop_all, take_all, take_at, drop-drop}

-- the bytes given are the first of those that were left, and the others are left
pub consumed : (xs out given : List ℕ) (at n : ℕ) → length given ≡ n → given ≡ take n (drop at xs) → drop at xs ≡ take n (given ++ out) ++ drop (at + n) xs
consumed xs out given at n long is =
    sym (take-append-drop n (drop at xs))
    ∙ ap (λ (l : List ℕ). l ++ drop n (drop at xs)) (sym is ∙ sym (take_at given out n long))
    ∙ ap (λ (l : List ℕ). take n (given ++ out) ++ l) (drop-drop n at xs)

-- a read into a buffer that isn't empty gives none only at the end
pub at_end : (xs : List ℕ) (at n step room : ℕ) → 0 < step → 0 < room → n ≡ min (min step room) (length xs - at) → n ≡ 0 → drop (at + n) xs ≡ []
at_end xs at n step room steps rooms is none = drop_all (at + n) xs (omega arith)

-- the slice behind a place is what is left
rest_of : (xs ys : List ℕ) (at : ℕ) → ys ≡ xs → take (length ys - at) (drop at ys) ≡ drop at xs
rest_of xs ys at e = take_all _ (drop at ys) (omega (arith, length-drop at ys)) ∙ ap (λ (l : List ℕ). drop at l) e

pub rest_length : (xs ys : List ℕ) (at : ℕ) → ys ≡ xs → length (take (length ys - at) (drop at ys)) ≡ length xs - at
rest_length xs ys at e = ap (λ (l : List ℕ). length l) (rest_of xs ys at e) ∙ length-drop at xs

module _ (xs ys out given : List ℕ) (at n step : ℕ) (e : ys ≡ xs) (steps : 0 < step) (room : 0 < length out)
    (count : n ≡ min (min step (length out)) (length (take (length ys - at) (drop at ys))))
    (after : given ≡ take n (take (length ys - at) (drop at ys))) where
  given_is : given ≡ take n (drop at xs)
  given_is = after ∙ ap (λ (l : List ℕ). take n l) (rest_of xs ys at e)

  given_length : length given ≡ n
  given_length = ap (λ (l : List ℕ). length l) given_is ∙ length-take n (drop at xs) ∙ omega (arith, count, rest_length xs ys at e, length-drop at xs)

  pub read_bytes : (drop at xs ≡ take n (given ++ drop n out) ++ drop (at + n) xs) × (n ≡ 0 → drop (at + n) xs ≡ [])
  read_bytes = (
    consumed xs (drop n out) given at n given_length given_is,
    at_end xs at n step (length out) steps room (omega (arith, count, rest_length xs ys at e)),
  )
