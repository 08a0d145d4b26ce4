-- Lists that grow by an item, and bits in a circuit that grows.
use Rattle.std.proofs.Common.{◌≡◌, ℕ, zero, suc, ◌+◌, ◌<◌, ◌≤◌, Bool, true, false, cond, not, ◌&&◌, ◌||◌, List, [], ◌∷◌, ◌++◌, map, take, get_or, Some, refl, sym, ap, ◌∙◌, subst, arith}
use Rattle.std.specs.Prelude.{slice_get}
use Rattle.std.specs.Option.{option_map_or}
use Rattle.std.specs.List.{All, filter, list_all, range_with_len, sum_by}
use Rattle.std.proofs.lemmas.Option.{get_or_from_slice_get, slice_get_within}
use Rattle.std.proofs.lemmas.List.{take_more}
use Rattle.std.proofs.lemmas.List.Elements.{All-head, All-tail}
use Rattle.std.proofs.lemmas.List.Folds.{list_all-append}
use Rattle.std.proofs.lemmas.List.Sums.{sum_by-append, sum_by-cons, sum_by-take-le}
use Rattle.bool_circuit.specs.declared.gate.Wire.{Wire}
use Rattle.bool_circuit.specs.declared.gate.Gate.{Gate}
use Rattle.bool_circuit.specs.Circuit.{entry, Extends, AreWiresOf, wire_values}
use Rattle.clf_tree.specs.Lists.{numbers_below, each_two}
use Rattle.shape_encoder.specs.Reading.{IsBit}

pub all_item : {X : Type 0} (P : X → Type 0) (xs : List X) (i : ℕ) (x : X) → All P xs → slice_get xs i ≡ Some x → P x
all_item P xs i x a e = subst P (get_or_from_slice_get xs i x x e) (a i x (slice_get_within xs i x e))

pub take_item : {X : Type 0} (xs : List X) (i : ℕ) (x : X) → slice_get xs i ≡ Some x → take (i + 1) xs ≡ take i xs ++ x ∷ []
take_item xs i x e = take_more xs i x (slice_get_within xs i x e) ∙ ap (λ y. take i xs ++ y ∷ []) (get_or_from_slice_get xs i x x e)

pub and_true : (b : Bool) → (b && true) ≡ b
and_true true = refl
and_true false = refl

pub list_all-push : {X : Type 0} (p : X → Bool) (xs : List X) (x : X) → list_all p (xs ++ x ∷ []) ≡ (list_all p xs && p x)
list_all-push p xs x = list_all-append p xs (x ∷ []) ∙ ap (λ b. list_all p xs && b) (and_true (p x))

range-push : (a n : ℕ) → range_with_len a (n + 1) ≡ range_with_len a n ++ (a + n) ∷ []
range-push a zero = let e : a + 0 ≡ a = omega arith in ap (λ k. k ∷ []) (sym e)
range-push a (suc n) =
    let z : suc n + 1 ≡ suc (n + 1) = omega arith in
    let e : a + suc n ≡ (a + 1) + n = omega arith in
    ap (range_with_len a) z ∙ ap (λ xs. a ∷ xs) (range-push (a + 1) n) ∙ ap (λ k. a ∷ range_with_len (a + 1) n ++ k ∷ []) (sym e)

pub numbers-push : (n : ℕ) → numbers_below (n + 1) ≡ numbers_below n ++ n ∷ []
numbers-push n = let e : 0 + n ≡ n = omega arith in range-push 0 n ∙ ap (λ k. numbers_below n ++ k ∷ []) e

pub all_same : {X : Type 0} (f g : X → Bool) (xs : List X) → ((x : X) → f x ≡ g x) → list_all f xs ≡ list_all g xs
all_same f g [] h = refl
all_same f g (x ∷ xs) h = ap (λ b. b && list_all f xs) (h x) ∙ ap (λ b. g x && b) (all_same f g xs h)

-- ---- a part of a list

pub kept_all : {X : Type 0} (p q : X → Bool) (xs : List X) → list_all q (filter p xs) ≡ list_all (λ x. not (p x) || q x) xs
kept_all p q [] = refl
kept_all p q (x ∷ xs) = by (p x) (kept_all p q xs)
  where
    by : (b : Bool) → list_all q (filter p xs) ≡ list_all (λ y. not (p y) || q y) xs → list_all q (cond b (x ∷ filter p xs) (filter p xs)) ≡ ((not b || q x) && list_all (λ y. not (p y) || q y) xs)
    by true rest = ap (λ b. q x && b) rest
    by false rest = rest

all_free : {X : Type 0} (xs : List X) → list_all (λ (x : X). true) xs ≡ true
all_free [] = refl
all_free (x ∷ xs) = all_free xs

pub kept_two : {X : Type 0} (p : X → Bool) (t : X → X → Bool) (xs : List X) → each_two t (filter p xs) ≡ each_two (λ x y. not (p x && p y) || t x y) xs
kept_two p t [] = refl
kept_two p t (x ∷ xs) = by (p x) (kept_two p t xs)
  where
    rest : Bool
    rest = each_two (λ y z. not (p y && p z) || t y z) xs

    by : (b : Bool) → each_two t (filter p xs) ≡ rest → each_two t (cond b (x ∷ filter p xs) (filter p xs)) ≡ (list_all (λ y. not (b && p y) || t x y) xs && rest)
    by true more = ap (λ b. b && each_two t (filter p xs)) (kept_all p (t x) xs) ∙ ap (λ b. list_all (λ y. not (p y) || t x y) xs && b) more
    by false more = more ∙ ap (λ b. b && rest) (sym (all_free xs))

-- ---- sums

pub sum-push : {X : Type 0} (f : X → ℕ) (xs : List X) (i : ℕ) (x : X) → slice_get xs i ≡ Some x → sum_by f (take (i + 1) xs) ≡ sum_by f (take i xs) + f x
sum-push f xs i x e =
    let one = sum_by-cons f x [] in
    let more = sum_by-append f (take i xs) (x ∷ []) in
    let whole = ap (sum_by f) (take_item xs i x e) in
    omega (arith, one, more, whole)

pub sum-room : {X : Type 0} (f : X → ℕ) (xs : List X) (i : ℕ) (x : X) → slice_get xs i ≡ Some x → sum_by f (take i xs) + f x ≤ sum_by f xs
sum-room f xs i x e =
    let next = sum-push f xs i x e in
    let less = sum_by-take-le f xs (i + 1) in
    omega (arith, next, less)

pub sum-before : {X : Type 0} (f : X → ℕ) (xs : List X) (n m : ℕ) (x : X) → slice_get xs n ≡ Some x → n < m → sum_by f (take n xs) + f x ≤ sum_by f (take m xs)
sum-before f xs n zero x e h = absurd (omega (arith, h))
sum-before f [] n (suc m) x e h = absurd (no_item n e)
  where
    no_item : (k : ℕ) → slice_get [] k ≡ Some x → ⊥
    no_item k t = let w = slice_get_within [] k x t in omega (arith, w)
sum-before f (y ∷ ys) zero (suc m) x e h = first
  where
    same : y ≡ x
    same = ap (λ o. option_map_or (λ z. z) o y) e

    first : sum_by f (take zero (y ∷ ys)) + f x ≤ sum_by f (take (suc m) (y ∷ ys))
    first = let c = sum_by-cons f y (take m ys) in let d = ap f same in omega (arith, c, d)
sum-before f (y ∷ ys) (suc n) (suc m) x e h =
    let r = sum-before f ys n m x e (omega (arith, h)) in
    let c = sum_by-cons f y (take m ys) in
    let d = sum_by-cons f y (take n ys) in
    omega (arith, r, c, d)

-- ---- bits

pub bit_stays : (old new : List Gate) (n : ℕ) (w : Wire) → Extends old new n → IsBit old w → IsBit new w
bit_stays old new n w e b = record { wire = (let i = b.wire in omega (arith, e.at_least, i)); value = λ bits. e.keeps w b.wire bits ∙ b.value bits }

pub bits_stay : (old new : List Gate) (n : ℕ) (ws : List Wire) → Extends old new n → All (IsBit old) ws → All (IsBit new) ws
bits_stay old new n ws e h = λ k d l. bit_stays old new n (get_or ws k d) e (h k d l)

pub bit_wires : (gates : List Gate) (ws : List Wire) → All (IsBit gates) ws → AreWiresOf gates ws
bit_wires gates ws h = λ k d l. (h k d l).wire

pub bit_values : (gates : List Gate) (ws : List Wire) (bits : List Bool) → All (IsBit gates) ws → wire_values gates ws bits ≡ map (entry bits) ws
bit_values gates [] bits h = refl
bit_values gates (w ∷ ws) bits h = ap (λ b. b ∷ wire_values gates ws bits) ((All-head (IsBit gates) w ws h).value bits) ∙ ap (λ bs. entry bits w ∷ bs) (bit_values gates ws bits (All-tail (IsBit gates) w ws h))
