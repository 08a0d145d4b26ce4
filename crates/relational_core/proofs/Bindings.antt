-- Bound nodes, counted from the innermost.
use Rattle.std.proofs.Common.{◌≡◌, ℕ, zero, suc, ◌<◌, Bool, List, [], ◌∷◌, ◌++◌, length, reverse, Option, Some, None, refl, ap, sym, ◌∙◌, arith}
use Rattle.std.specs.Prelude.{slice_get, is_some, true}
use Rattle.std.specs.Option.{option_to_list}
use Rattle.std.proofs.lemmas.List.{reverse-append, length-reverse}
use Rattle.std.proofs.lemmas.Option.{slice_get_past, slice_get_within}
use Rattle.std.proofs.lemmas.Bool.{true≢false}
use Rattle.clf_tree.specs.Lists.{from_end, each_pair}
use Rattle.relational_core.proofs.Passing.{both, and_parts, and_all}

pub slice_get-left : {X : Type 0} (xs ys : List X) (i : ℕ) → i < length xs → slice_get (xs ++ ys) i ≡ slice_get xs i
slice_get-left [] ys i within = absurd (omega (arith, within))
slice_get-left (x ∷ xs) ys zero within = refl
slice_get-left (x ∷ xs) ys (suc i) within = slice_get-left xs ys i (omega (arith, within))

pub slice_get-seam : {X : Type 0} (xs : List X) (y : X) (ys : List X) (i : ℕ) → i ≡ length xs → slice_get (xs ++ y ∷ ys) i ≡ Some y
slice_get-seam [] y ys zero at = refl
slice_get-seam [] y ys (suc i) at = absurd (omega (arith, at))
slice_get-seam (x ∷ xs) y ys zero at = absurd (omega (arith, at))
slice_get-seam (x ∷ xs) y ys (suc i) at = slice_get-seam xs y ys i (omega (arith, at))

-- the nodes of the variables, with that of `this` before them
pub from_end-this : {X : Type 0} (this : Option X) (bound : List X) (i : ℕ) → i ≡ length bound → from_end (option_to_list this ++ bound) i ≡ this
from_end-this None bound i at = slice_get_past (reverse bound) i (omega (arith, at, length-reverse bound))
from_end-this (Some n) bound i at =
    ap (λ xs. slice_get xs i) (reverse-append (n ∷ []) bound) ∙ slice_get-seam (reverse bound) n [] i (at ∙ sym (length-reverse bound))

pub from_end-within : {X : Type 0} (this : Option X) (bound : List X) (i : ℕ) → i < length bound → from_end (option_to_list this ++ bound) i ≡ from_end bound i
from_end-within None bound i within = refl
from_end-within (Some n) bound i within =
    ap (λ xs. slice_get xs i) (reverse-append (n ∷ []) bound) ∙ slice_get-left (reverse bound) (n ∷ []) i (omega (arith, within, length-reverse bound))

pub bound_below : {X : Type 0} (xs : List X) (i : ℕ) (o : Option X) → from_end xs i ≡ o → is_some o ≡ true → i < length xs
bound_below xs i None found there = (cc)
bound_below xs i (Some x) found there = let w = slice_get_within (reverse xs) i x found in omega (arith, w, length-reverse xs)

-- pairs of items of two lists, from their ends
pub pairs-append : {X Y : Type 0} (test : X → Y → Bool) (xs : List X) (ys : List Y) (us : List X) (vs : List Y)
    → each_pair test xs ys ≡ true → each_pair test us vs ≡ true → each_pair test (xs ++ us) (ys ++ vs) ≡ true
pairs-append test [] [] us vs h k = k
pairs-append test [] (y ∷ ys) us vs h k = absurd (true≢false (sym h))
pairs-append test (x ∷ xs) [] us vs h k = absurd (true≢false (sym h))
pairs-append test (x ∷ xs) (y ∷ ys) us vs h k =
    let j = and_parts (test x y) (each_pair test xs ys) h in and_all (test x y) (each_pair test (xs ++ us) (ys ++ vs)) j.0 (pairs-append test xs ys us vs j.1 k)

pairs-reverse : {X Y : Type 0} (test : X → Y → Bool) (xs : List X) (ys : List Y) → each_pair test xs ys ≡ true → each_pair test (reverse xs) (reverse ys) ≡ true
pairs-reverse test [] [] h = refl
pairs-reverse test [] (y ∷ ys) h = absurd (true≢false (sym h))
pairs-reverse test (x ∷ xs) [] h = absurd (true≢false (sym h))
pairs-reverse test (x ∷ xs) (y ∷ ys) h =
    let j = and_parts (test x y) (each_pair test xs ys) h in
    both (λ us vs. each_pair test us vs) (reverse-append (x ∷ []) xs) (reverse-append (y ∷ []) ys)
    ∙ pairs-append test (reverse xs) (reverse ys) (x ∷ []) (y ∷ []) (pairs-reverse test xs ys j.1) (and_all (test x y) true j.0 refl)

-- where the second list has an item, the first has one, and the test holds of both
pub record Paired {X Y : Type 0} (test : X → Y → Bool) (xs : List X) (i : ℕ) (y : Y) : Type 0 where
  pub other : X
  pub at : slice_get xs i ≡ Some other
  pub pass : test other y ≡ true

pairs-get : {X Y : Type 0} (test : X → Y → Bool) (xs : List X) (ys : List Y) (i : ℕ) (y : Y) → each_pair test xs ys ≡ true → slice_get ys i ≡ Some y → Paired test xs i y
pairs-get test [] [] i y h e = absurd (none_some e)
  where
    none_some : None ≡ Some y → ⊥
    none_some k = (cc)
pairs-get test [] (z ∷ ys) i y h e = absurd (true≢false (sym h))
pairs-get test (x ∷ xs) [] i y h e = absurd (true≢false (sym h))
pairs-get test (x ∷ xs) (z ∷ ys) zero y h e =
    let j = and_parts (test x z) (each_pair test xs ys) h in record { other = x; at = refl; pass = ap (test x) (some_same e) ∙ j.0 }
  where
    some_same : Some z ≡ Some y → y ≡ z
    some_same k = (cc)
pairs-get test (x ∷ xs) (z ∷ ys) (suc i) y h e =
    let p = pairs-get test xs ys i y (and_parts (test x z) (each_pair test xs ys) h).1 e in record { other = p.other; at = p.at; pass = p.pass }

pub pairs-end : {X Y : Type 0} (test : X → Y → Bool) (xs : List X) (ys : List Y) (i : ℕ) (y : Y) → each_pair test xs ys ≡ true → from_end ys i ≡ Some y → Paired test (reverse xs) i y
pairs-end test xs ys i y h e = pairs-get test (reverse xs) (reverse ys) i y (pairs-reverse test xs ys h) e
