-- Where a test passes in a list.
use Rattle.std.proofs.Common.{◌≡◌, ℕ, zero, suc, ◌<◌, Bool, true, false, ◌&&◌, ◌||◌, List, [], ◌∷◌, length, cond, Some, refl, ap, sym, ◌∙◌, arith}
use Rattle.std.specs.Prelude.{slice_get, eqb}
use Rattle.std.specs.List.{filter, list_any}
use Rattle.std.proofs.lemmas.Bool.{true≢false, eq-eqb}
use Rattle.clf_tree.specs.Lists.{has}

pub record AnyAt {X : Type 0} (p : X → Bool) (xs : List X) : Type 0 where
  pub index : ℕ
  pub item : X
  pub at : slice_get xs index ≡ Some item
  pub passes : p item ≡ true

any_by : {X : Type 0} (p : X → Bool) (x : X) (xs : List X) (b : Bool) → p x ≡ b → (list_any p xs ≡ true → AnyAt p xs) → (b || list_any p xs) ≡ true → AnyAt p (x ∷ xs)
any_by p x xs true e rest met = record { index = 0; item = x; at = refl; passes = e }
any_by p x xs false e rest met = let r = rest met in record { index = suc r.index; item = r.item; at = r.at; passes = r.passes }

pub any_at : {X : Type 0} (p : X → Bool) (xs : List X) → list_any p xs ≡ true → AnyAt p xs
any_at p [] met = absurd (true≢false (sym met))
any_at p (x ∷ xs) met = any_by p x xs (p x) refl (any_at p xs) met

or_true : (b : Bool) → (b || true) ≡ true
or_true true = refl
or_true false = refl

pub any_from : {X : Type 0} (p : X → Bool) (xs : List X) (i : ℕ) (x : X) → slice_get xs i ≡ Some x → p x ≡ true → list_any p xs ≡ true
any_from p [] i x e pass = (cc)
any_from p (y ∷ xs) zero x e pass = let same : y ≡ x = (cc) in ap (λ b. b || list_any p xs) (ap p same ∙ pass)
any_from p (y ∷ xs) (suc i) x e pass = ap (λ b. p y || b) (any_from p xs i x e pass) ∙ or_true (p y)

pub has_at : (xs : List ℕ) (i x : ℕ) → slice_get xs i ≡ Some x → has xs x ≡ true
has_at xs i x e = any_from (λ y. eqb x y) xs i x e (eq-eqb x x refl)

pub same_tests : (a b : Bool) → (a ≡ true → b ≡ true) → (b ≡ true → a ≡ true) → a ≡ b
same_tests true b f g = sym (f refl)
same_tests false true f g = g refl
same_tests false false f g = refl

any_filter_by : (p q : ℕ → Bool) (x : ℕ) (xs : List ℕ) (b : Bool) → p x ≡ b → list_any q (filter p xs) ≡ list_any (λ y. p y && q y) xs
    → list_any q (cond b (x ∷ filter p xs) (filter p xs)) ≡ ((b && q x) || list_any (λ y. p y && q y) xs)
any_filter_by p q x xs true e rest = ap (λ b. q x || b) rest
any_filter_by p q x xs false e rest = rest

pub any_filter : (p q : ℕ → Bool) (xs : List ℕ) → list_any q (filter p xs) ≡ list_any (λ y. p y && q y) xs
any_filter p q [] = refl
any_filter p q (x ∷ xs) = any_filter_by p q x xs (p x) refl (any_filter p q xs)

pub any_same : {X : Type 0} (p q : X → Bool) (xs : List X) → ((x : X) → p x ≡ q x) → list_any p xs ≡ list_any q xs
any_same p q [] same = refl
any_same p q (x ∷ xs) same = ap (λ b. b || list_any p xs) (same x) ∙ ap (λ b. q x || b) (any_same p q xs same)

pub got_below : {X : Type 0} (xs : List X) (i : ℕ) (x : X) → slice_get xs i ≡ Some x → i < length xs
got_below [] i x e = (cc)
got_below (y ∷ xs) zero x e = omega arith
got_below (y ∷ xs) (suc i) x e = let rest = got_below xs i x e in omega (arith, rest)

pub record Got {X : Type 0} (xs : List X) (i : ℕ) : Type 0 where
  pub item : X
  pub at : slice_get xs i ≡ Some item

pub get_below : {X : Type 0} (xs : List X) (i : ℕ) → i < length xs → Got xs i
get_below [] i within = absurd (omega (arith, within))
get_below (x ∷ xs) zero within = record { item = x; at = refl }
get_below (x ∷ xs) (suc i) within = let r = get_below xs i (omega (arith, within)) in record { item = r.item; at = r.at }
