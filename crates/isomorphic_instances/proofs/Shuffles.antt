-- Lists with the same items, and what doesn't depend on their order.
use Rattle.std.proofs.Common.{◌≡◌, ℕ, zero, suc, ◌+◌, ◌<◌, ◌≤◌, Bool, true, false, ◌&&◌, ◌||◌, List, [], ◌∷◌, ◌++◌, length, map, cond, get_or, set, Option, Some, None, refl, ap, sym, subst, ◌∙◌, arith, ℤ, pos, ◌+ℤ◌, IsPermutation, append_assoc, true≢false}
use Rattle.std.specs.List.{filter, list_any, list_all, find, flat_map, swap}
use Rattle.std.proofs.lemmas.Int.{ints}
use Rattle.std.proofs.lemmas.List.Sorted.{IsPermutation-keeps}
use Rattle.clf_tree.specs.Lists.{each_two, tuples}
use Rattle.clf_tree.specs.Meaning.{total}
use Rattle.isomorphic_instances.proofs.Pairs.{both}

pub data Shuffled {X : Type 0} : List X → List X → Type 0 where
  empty : Shuffled [] []
  under : (x : X) {xs ys : List X} → Shuffled xs ys → Shuffled (x ∷ xs) (x ∷ ys)
  flipped : (x y : X) (xs : List X) → Shuffled (x ∷ y ∷ xs) (y ∷ x ∷ xs)
  through : {xs ys zs : List X} → Shuffled xs ys → Shuffled ys zs → Shuffled xs zs

module _ {X : Type 0} where
  pub unmoved : (xs : List X) → Shuffled xs xs
  unmoved [] = empty
  unmoved (x ∷ xs) = under x (unmoved xs)

  pub back : {xs ys : List X} → Shuffled xs ys → Shuffled ys xs
  back empty = empty
  back (under x s) = under x (back s)
  back (flipped x y xs) = flipped y x xs
  back (through s t) = through (back t) (back s)

  pub behind : {xs ys : List X} (zs : List X) → Shuffled xs ys → Shuffled (xs ++ zs) (ys ++ zs)
  behind zs empty = unmoved zs
  behind zs (under x s) = under x (behind zs s)
  behind zs (flipped x y xs) = flipped x y (xs ++ zs)
  behind zs (through s t) = through (behind zs s) (behind zs t)

  pub before : {xs ys : List X} (zs : List X) → Shuffled xs ys → Shuffled (zs ++ xs) (zs ++ ys)
  before [] s = s
  before (z ∷ zs) s = under z (before zs s)

  middle : (x : X) (xs ys : List X) → Shuffled (x ∷ xs ++ ys) (xs ++ x ∷ ys)
  middle x [] ys = unmoved (x ∷ ys)
  middle x (z ∷ xs) ys = through (flipped x z (xs ++ ys)) (under z (middle x xs ys))

  pub exchanged : (xs ys : List X) → Shuffled (xs ++ ys) (ys ++ xs)
  exchanged [] ys = subst (Shuffled ys) (sym (Rattle.std.proofs.Common.append-nil ys)) (unmoved ys)
  exchanged (x ∷ xs) ys = through (under x (exchanged xs ys)) (middle x ys xs)

  pub shuffled_length : {xs ys : List X} → Shuffled xs ys → length xs ≡ length ys
  shuffled_length empty = refl
  shuffled_length (under x s) = ap (λ n. suc n) (shuffled_length s)
  shuffled_length (flipped x y xs) = refl
  shuffled_length (through s t) = shuffled_length s ∙ shuffled_length t

  -- ---- from the permutations of the library

  to_front : (x : X) (xs : List X) (j : ℕ) → j < length xs → Shuffled (x ∷ xs) (get_or xs j x ∷ set xs j x)
  to_front x [] j h = let no : ⊥ = omega (arith, h) in absurd no
  to_front x (y ∷ ys) zero h = flipped x y ys
  to_front x (y ∷ ys) (suc j) h = through (flipped x y ys) (through (under y (to_front x ys j (omega (arith, h)))) (flipped y (get_or ys j x) (set ys j x)))

  set_itself : (xs : List X) (i : ℕ) (d : X) → i < length xs → set xs i (get_or xs i d) ≡ xs
  set_itself [] i d h = refl
  set_itself (x ∷ xs) zero d h = refl
  set_itself (x ∷ xs) (suc i) d h = ap (λ ys. x ∷ ys) (set_itself xs i d (omega (arith, h)))

  two_set : (xs : List X) (d : X) (i j : ℕ) → i < length xs → j < length xs → Shuffled xs (set (set xs i (get_or xs j d)) j (get_or xs i d))
  two_set [] d i j h k = empty
  two_set (x ∷ xs) d zero zero h k = unmoved (x ∷ xs)
  two_set (x ∷ xs) d zero (suc j) h k =
      subst (λ y. Shuffled (x ∷ xs) (y ∷ set xs j x)) (same_default xs j x d (omega (arith, k))) (to_front x xs j (omega (arith, k)))
    where
      same_default : (ys : List X) (m : ℕ) (a b : X) → m < length ys → get_or ys m a ≡ get_or ys m b
      same_default [] m a b less = let no : ⊥ = omega (arith, less) in absurd no
      same_default (y ∷ ys) zero a b less = refl
      same_default (y ∷ ys) (suc m) a b less = same_default ys m a b (omega (arith, less))
  two_set (x ∷ xs) d (suc i) zero h k =
      subst (λ y. Shuffled (x ∷ xs) (y ∷ set xs i x)) (same_default xs i x d (omega (arith, h))) (to_front x xs i (omega (arith, h)))
    where
      same_default : (ys : List X) (m : ℕ) (a b : X) → m < length ys → get_or ys m a ≡ get_or ys m b
      same_default [] m a b less = let no : ⊥ = omega (arith, less) in absurd no
      same_default (y ∷ ys) zero a b less = refl
      same_default (y ∷ ys) (suc m) a b less = same_default ys m a b (omega (arith, less))
  two_set (x ∷ xs) d (suc i) (suc j) h k = under x (two_set xs d i j (omega (arith, h)) (omega (arith, k)))

  swapped : (l : List X) (i j : ℕ) → i < length l → j < length l → Shuffled l (swap l i j)
  swapped [] i j h k = empty
  swapped (d ∷ ys) i j h k = two_set (d ∷ ys) d i j h k

  pub shuffled : (xs ys : List X) → IsPermutation xs ys → Shuffled xs ys
  shuffled xs = IsPermutation-keeps xs (Shuffled xs) (unmoved xs) (λ l i j p q s. through s (swapped l i j p q))

-- ---- what doesn't depend on the order

and_flip : (a b c : Bool) → (a && (b && c)) ≡ (b && (a && c))
and_flip true b c = refl
and_flip false true c = refl
and_flip false false c = refl

or_flip : (a b c : Bool) → (a || (b || c)) ≡ (b || (a || c))
or_flip false b c = refl
or_flip true true c = refl
or_flip true false c = refl

module _ {X : Type 0} (p : X → Bool) where
  pub shuffled_any : {xs ys : List X} → Shuffled xs ys → list_any p xs ≡ list_any p ys
  shuffled_any empty = refl
  shuffled_any (under x s) = ap (λ b. p x || b) (shuffled_any s)
  shuffled_any (flipped x y xs) = or_flip (p x) (p y) (list_any p xs)
  shuffled_any (through s t) = shuffled_any s ∙ shuffled_any t

  pub shuffled_all : {xs ys : List X} → Shuffled xs ys → list_all p xs ≡ list_all p ys
  shuffled_all empty = refl
  shuffled_all (under x s) = ap (λ b. p x && b) (shuffled_all s)
  shuffled_all (flipped x y xs) = and_flip (p x) (p y) (list_all p xs)
  shuffled_all (through s t) = shuffled_all s ∙ shuffled_all t

  kept : (b : Bool) (x : X) (xs ys : List X) → Shuffled xs ys → Shuffled (cond b (x ∷ xs) xs) (cond b (x ∷ ys) ys)
  kept true x xs ys s = under x s
  kept false x xs ys s = s

  two_kept : (b c : Bool) (x y : X) (xs : List X) → Shuffled (cond b (x ∷ cond c (y ∷ xs) xs) (cond c (y ∷ xs) xs)) (cond c (y ∷ cond b (x ∷ xs) xs) (cond b (x ∷ xs) xs))
  two_kept true true x y xs = flipped x y xs
  two_kept true false x y xs = unmoved (x ∷ xs)
  two_kept false true x y xs = unmoved (y ∷ xs)
  two_kept false false x y xs = unmoved xs

  pub shuffled_filter : {xs ys : List X} → Shuffled xs ys → Shuffled (filter p xs) (filter p ys)
  shuffled_filter empty = empty
  shuffled_filter (under x {xs = xs} {ys = ys} s) = kept (p x) x (filter p xs) (filter p ys) (shuffled_filter s)
  shuffled_filter (flipped x y xs) = two_kept (p x) (p y) x y (filter p xs)
  shuffled_filter (through s t) = through (shuffled_filter s) (shuffled_filter t)

pub shuffled_map : {X Y : Type 0} (f : X → Y) {xs ys : List X} → Shuffled xs ys → Shuffled (map f xs) (map f ys)
shuffled_map f empty = empty
shuffled_map f (under x s) = under (f x) (shuffled_map f s)
shuffled_map f (flipped x y xs) = flipped (f x) (f y) (map f xs)
shuffled_map f (through s t) = through (shuffled_map f s) (shuffled_map f t)

pub shuffled_flat_map : {X Y : Type 0} (f : X → List Y) {xs ys : List X} → Shuffled xs ys → Shuffled (flat_map f xs) (flat_map f ys)
shuffled_flat_map f empty = empty
shuffled_flat_map f (under x s) = before (f x) (shuffled_flat_map f s)
shuffled_flat_map f (flipped x y xs) =
    subst (λ l. Shuffled l (f y ++ (f x ++ flat_map f xs))) (append_assoc (f x) (f y) (flat_map f xs))
    (subst (λ l. Shuffled ((f x ++ f y) ++ flat_map f xs) l) (append_assoc (f y) (f x) (flat_map f xs)) (behind (flat_map f xs) (exchanged (f x) (f y))))
shuffled_flat_map f (through s t) = through (shuffled_flat_map f s) (shuffled_flat_map f t)

pub shuffled_each : {X Y : Type 0} (f g : X → List Y) → ((x : X) → Shuffled (f x) (g x)) → (xs : List X) → Shuffled (flat_map f xs) (flat_map g xs)
shuffled_each f g h [] = empty
shuffled_each f g h (x ∷ xs) = through (behind (flat_map f xs) (h x)) (before (g x) (shuffled_each f g h xs))

pub shuffled_tuples : {X : Type 0} (n : ℕ) {xs ys : List X} → Shuffled xs ys → Shuffled (tuples n xs) (tuples n ys)
shuffled_tuples zero s = unmoved ([] ∷ [])
shuffled_tuples (suc n) {xs} {ys} s =
    through (shuffled_flat_map (λ x. map (λ t. x ∷ t) (tuples n xs)) s)
    (shuffled_each (λ x. map (λ t. x ∷ t) (tuples n xs)) (λ x. map (λ t. x ∷ t) (tuples n ys)) (λ x. shuffled_map (λ t. x ∷ t) (shuffled_tuples n s)) ys)

plus_flip : (a b c : ℤ) → (a +ℤ (b +ℤ c)) ≡ (b +ℤ (a +ℤ c))
plus_flip a b c = omega (arith, ints)

pub shuffled_total : {xs ys : List ℤ} → Shuffled xs ys → total xs ≡ total ys
shuffled_total empty = refl
shuffled_total (under x s) = ap (λ z. x +ℤ z) (shuffled_total s)
shuffled_total (flipped x y xs) = plus_flip x y (total xs)
shuffled_total (through s t) = shuffled_total s ∙ shuffled_total t

-- a test of each two that doesn't tell which of them comes first
module _ {X : Type 0} (test : X → X → Bool) (symm : (x y : X) → test x y ≡ test y x) where
  two_flip : (x y : X) (c d : Bool) (b b' a : Bool) → b ≡ b' → ((b && c) && (d && a)) ≡ ((b' && d) && (c && a))
  two_flip x y true true true true a e = refl
  two_flip x y true true false false a e = refl
  two_flip x y true true true false a e = absurd (true≢false e)
  two_flip x y true true false true a e = absurd (true≢false (sym e))
  two_flip x y true false true true a e = refl
  two_flip x y true false false false a e = refl
  two_flip x y true false true false a e = refl
  two_flip x y true false false true a e = refl
  two_flip x y false true true true a e = refl
  two_flip x y false true false false a e = refl
  two_flip x y false true true false a e = refl
  two_flip x y false true false true a e = refl
  two_flip x y false false true true a e = refl
  two_flip x y false false false false a e = refl
  two_flip x y false false true false a e = refl
  two_flip x y false false false true a e = refl

  pub shuffled_each_two : {xs ys : List X} → Shuffled xs ys → each_two test xs ≡ each_two test ys
  shuffled_each_two empty = refl
  shuffled_each_two (under x s) = both (shuffled_all (test x) s) (shuffled_each_two s)
  shuffled_each_two (flipped x y xs) = two_flip x y (list_all (test x) xs) (list_all (test y) xs) (test x y) (test y x) (each_two test xs) (symm x y)
  shuffled_each_two (through s t) = shuffled_each_two s ∙ shuffled_each_two t

-- the one item that passes, where no two do
module _ {X : Type 0} (p : X → Bool) (apart : X → X → Bool) (symm : (x y : X) → apart x y ≡ apart y x) (one : (x y : X) → p x ≡ true → p y ≡ true → apart x y ≡ false) where
  find_flip : (x y : X) (b c : Bool) (o : Option X) → p x ≡ b → p y ≡ c → apart x y ≡ true → cond b (Some x) (cond c (Some y) o) ≡ cond c (Some y) (cond b (Some x) o)
  find_flip x y true true o e f h = absurd (true≢false (sym h ∙ one x y e f))
  find_flip x y true false o e f h = refl
  find_flip x y false true o e f h = refl
  find_flip x y false false o e f h = refl

  left : (a b : Bool) → (a && b) ≡ true → a ≡ true
  left true b h = refl
  left false b h = h

  right : (a b : Bool) → (a && b) ≡ true → b ≡ true
  right true b h = h
  right false b h = absurd (true≢false (sym h))

  pub shuffled_find : {xs ys : List X} → Shuffled xs ys → each_two apart xs ≡ true → find p xs ≡ find p ys
  shuffled_find empty h = refl
  shuffled_find (under x {xs = xs} s) h = ap (λ o. cond (p x) (Some x) o) (shuffled_find s (right (list_all (apart x) xs) (each_two apart xs) h))
  shuffled_find (flipped x y xs) h =
      find_flip x y (p x) (p y) (find p xs) refl refl (left (apart x y) (list_all (apart x) xs) (left (apart x y && list_all (apart x) xs) (list_all (apart y) xs && each_two apart xs) h))
  shuffled_find (through s t) h = shuffled_find s h ∙ shuffled_find t (sym (shuffled_each_two apart symm s) ∙ h)
