-- Steps of loops that gather what passes a test.
use Rattle.std.proofs.Common.{◌≡◌, ℕ, zero, suc, arith, ◌+◌, Bool, true, false, cond, List, [], ◌∷◌, ◌++◌, take, map, Some, refl, sym, ap, ◌∙◌, append_assoc, append-nil}
use Rattle.std.specs.Prelude.{slice_get}
use Rattle.std.specs.List.{filter, flat_map, range_with_len}
use Rattle.std.proofs.lemmas.List.{take_more}
use Rattle.std.proofs.lemmas.List.Elements.{filter-append}
use Rattle.std.proofs.lemmas.Grind.{flat_map-append}
use Rattle.std.proofs.lemmas.Option.{get_or_from_slice_get, slice_get_within}

pub take_item : {X : Type 0} (xs : List X) (i : ℕ) (x : X) → slice_get xs i ≡ Some x → take (i + 1) xs ≡ take i xs ++ x ∷ []
take_item xs i x e = take_more xs i x (slice_get_within xs i x e) ∙ ap (λ y. take i xs ++ y ∷ []) (get_or_from_slice_get xs i x x e)

-- an item that passes, and one that doesn't
pub kept_one : {X : Type 0} (p : X → Bool) (x : X) (xs ys : List X) → p x ≡ true → ys ≡ xs ++ x ∷ [] → ys ≡ xs ++ filter p (x ∷ [])
kept_one p x xs ys h e = e ∙ sym (ap (λ b. xs ++ cond b (x ∷ []) []) h)

pub dropped_one : {X : Type 0} (p : X → Bool) (x : X) (xs : List X) → p x ≡ false → xs ≡ xs ++ filter p (x ∷ [])
dropped_one p x xs h = sym (ap (λ b. xs ++ cond b (x ∷ []) []) h ∙ append-nil xs)

-- one item more, behind what was there before
pub filter_step : {X : Type 0} (p : X → Bool) (start : List X) (xs : List X) (i : ℕ) (x : X) (old new : List X) → slice_get xs i ≡ Some x → old ≡ start ++ filter p (take i xs) → new ≡ old ++ filter p (x ∷ []) → new ≡ start ++ filter p (take (i + 1) xs)
filter_step p start xs i x old new e o n =
    n ∙ ap (λ ys. ys ++ filter p (x ∷ [])) o ∙ append_assoc start (filter p (take i xs)) (filter p (x ∷ [])) ∙ ap (λ ys. start ++ ys) (sym (filter-append p (take i xs) (x ∷ []))) ∙ ap (λ ys. start ++ filter p ys) (sym (take_item xs i x e))

pub flat_step : {X Y : Type 0} (f : X → List Y) (start : List Y) (xs : List X) (i : ℕ) (x : X) (old new : List Y) → slice_get xs i ≡ Some x → old ≡ start ++ flat_map f (take i xs) → new ≡ old ++ f x → new ≡ start ++ flat_map f (take (i + 1) xs)
flat_step f start xs i x old new e o n =
    n ∙ ap (λ ys. ys ++ f x) o ∙ append_assoc start (flat_map f (take i xs)) (f x) ∙ ap (λ ys. start ++ (flat_map f (take i xs) ++ ys)) (sym (append-nil (f x)))
    ∙ ap (λ ys. start ++ ys) (sym (flat_map-append f (take i xs) (x ∷ []))) ∙ ap (λ ys. start ++ flat_map f ys) (sym (take_item xs i x e))

pub map_step : {X Y : Type 0} (f : X → Y) (xs : List X) (i : ℕ) (x : X) (old new : List Y) → slice_get xs i ≡ Some x → old ≡ map f (take i xs) → new ≡ old ++ f x ∷ [] → new ≡ map f (take (i + 1) xs)
map_step {X} f xs i x old new e o n = n ∙ ap (λ ys. ys ++ f x ∷ []) o ∙ sym (mapped (take i xs)) ∙ ap (map f) (sym (take_item xs i x e))
  where
    mapped : (ys : List X) → map f (ys ++ x ∷ []) ≡ map f ys ++ f x ∷ []
    mapped [] = refl
    mapped (y ∷ ys) = ap (λ zs. f y ∷ zs) (mapped ys)

-- the numbers below one number more
pub numbers_more : (a n : ℕ) → range_with_len a (n + 1) ≡ range_with_len a n ++ (a + n) ∷ []
numbers_more a n = let e : n + 1 ≡ suc n = omega arith in ap (range_with_len a) e ∙ pushed a n
  where
    pushed : (a n : ℕ) → range_with_len a (suc n) ≡ range_with_len a n ++ (a + n) ∷ []
    pushed a zero = let e : a ≡ a + 0 = omega arith in ap (λ k. k ∷ []) e
    pushed a (suc n) = let e : (a + 1) + n ≡ a + suc n = omega arith in ap (λ ys. a ∷ ys) (pushed (a + 1) n) ∙ ap (λ k. a ∷ range_with_len (a + 1) n ++ k ∷ []) e
