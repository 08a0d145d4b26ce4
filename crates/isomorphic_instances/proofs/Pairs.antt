-- Two lists whose items are related one by one.
use Rattle.std.proofs.Common.{◌≡◌, ℕ, zero, suc, Bool, true, false, ◌&&◌, ◌||◌, List, [], ◌∷◌, ◌++◌, length, map, cond, Option, Some, None, refl, ap, sym, subst, ◌∙◌, reverse}
use Rattle.std.specs.Prelude.{slice_get}
use Rattle.std.specs.List.{filter, list_any, list_all, find, flat_map}
use Rattle.clf_tree.specs.Lists.{each_two, from_end, tuples}
use mathlib.Core.List.{reverse-cons}

pub data Pairs {X Y : Type 0} (R : X → Y → Type 0) : List X → List Y → Type 0 where
  none : Pairs R [] []
  more : {x : X} {y : Y} {xs : List X} {ys : List Y} → R x y → Pairs R xs ys → Pairs R (x ∷ xs) (y ∷ ys)

-- two items that may be missing
abbrev pub IsPair : {X Y : Type 0} → (X → Y → Type 0) → Option X → Option Y → Type 0
IsPair R None None = Unit {0}
IsPair R (Some x) (Some y) = R x y
IsPair R a b = ⊥

pub both : {a b c d : Bool} → a ≡ b → c ≡ d → (a && c) ≡ (b && d)
both {b = b} {c = c} p q = ap (λ z. z && c) p ∙ ap (λ z. b && z) q

pub either : {a b c d : Bool} → a ≡ b → c ≡ d → (a || c) ≡ (b || d)
either {b = b} {c = c} p q = ap (λ z. z || c) p ∙ ap (λ z. b || z) q

-- a test of two items that may be missing
pub maybe_same : {X Y : Type 0} (R : X → Y → Type 0) (p : X → Bool) (q : Y → Bool) (d : Bool) (a : Option X) (b : Option Y) → IsPair R a b
    → ((x : X) (y : Y) → R x y → p x ≡ q y) → Rattle.std.specs.Option.option_map_or p a d ≡ Rattle.std.specs.Option.option_map_or q b d
maybe_same R p q d None None r h = refl
maybe_same R p q d (Some x) (Some y) r h = h x y r
maybe_same R p q d None (Some y) r h = absurd r
maybe_same R p q d (Some x) None r h = absurd r

module _ {X Y : Type 0} (R : X → Y → Type 0) where
  pub pairs_length : {xs : List X} {ys : List Y} → Pairs R xs ys → length xs ≡ length ys
  pairs_length none = refl
  pairs_length (more r rs) = ap (λ n. suc n) (pairs_length rs)

  pub pairs_append : {xs us : List X} {ys vs : List Y} → Pairs R xs ys → Pairs R us vs → Pairs R (xs ++ us) (ys ++ vs)
  pairs_append none qs = qs
  pairs_append (more r rs) qs = more r (pairs_append rs qs)

  pub pairs_reverse : {xs : List X} {ys : List Y} → Pairs R xs ys → Pairs R (reverse xs) (reverse ys)
  pairs_reverse none = none
  pairs_reverse (more {x = x} {y = y} {xs = xs} {ys = ys} r rs) =
      subst (λ l. Pairs R l (reverse (y ∷ ys))) (sym (reverse-cons x xs))
      (subst (λ l. Pairs R (reverse xs ++ x ∷ []) l) (sym (reverse-cons y ys)) (pairs_append (pairs_reverse rs) (more r none)))

  pub pairs_get : {xs : List X} {ys : List Y} (i : ℕ) → Pairs R xs ys → IsPair R (slice_get xs i) (slice_get ys i)
  pairs_get i none = tt
  pairs_get zero (more r rs) = r
  pairs_get (suc i) (more r rs) = pairs_get i rs

  pub pairs_from_end : {xs : List X} {ys : List Y} (i : ℕ) → Pairs R xs ys → IsPair R (from_end xs i) (from_end ys i)
  pairs_from_end i rs = pairs_get i (pairs_reverse rs)

  module _ (p : X → Bool) (q : Y → Bool) (same : (x : X) (y : Y) → R x y → p x ≡ q y) where
    pub pairs_any : {xs : List X} {ys : List Y} → Pairs R xs ys → list_any p xs ≡ list_any q ys
    pairs_any none = refl
    pairs_any (more {x = x} {y = y} r rs) = either (same x y r) (pairs_any rs)

    pub pairs_all : {xs : List X} {ys : List Y} → Pairs R xs ys → list_all p xs ≡ list_all q ys
    pairs_all none = refl
    pairs_all (more {x = x} {y = y} r rs) = both (same x y r) (pairs_all rs)

    kept : (b c : Bool) (x : X) (y : Y) (xs : List X) (ys : List Y) → b ≡ c → R x y → Pairs R xs ys → Pairs R (cond b (x ∷ xs) xs) (cond c (y ∷ ys) ys)
    kept true c x y xs ys e r rs = subst (λ d. Pairs R (x ∷ xs) (cond d (y ∷ ys) ys)) e (more r rs)
    kept false c x y xs ys e r rs = subst (λ d. Pairs R xs (cond d (y ∷ ys) ys)) e rs

    pub pairs_filter : {xs : List X} {ys : List Y} → Pairs R xs ys → Pairs R (filter p xs) (filter q ys)
    pairs_filter none = none
    pairs_filter (more {x = x} {y = y} {xs = xs} {ys = ys} r rs) = kept (p x) (q y) x y (filter p xs) (filter q ys) (same x y r) r (pairs_filter rs)

    first_of_two : (b c : Bool) (x : X) (y : Y) (o : Option X) (u : Option Y) → b ≡ c → R x y → IsPair R o u → IsPair R (cond b (Some x) o) (cond c (Some y) u)
    first_of_two true c x y o u e r rs = subst (λ d. IsPair R (Some x) (cond d (Some y) u)) e r
    first_of_two false c x y o u e r rs = subst (λ d. IsPair R o (cond d (Some y) u)) e rs

    pub pairs_find : {xs : List X} {ys : List Y} → Pairs R xs ys → IsPair R (find p xs) (find q ys)
    pairs_find none = tt
    pairs_find (more {x = x} {y = y} {xs = xs} {ys = ys} r rs) = first_of_two (p x) (q y) x y (find p xs) (find q ys) (same x y r) r (pairs_find rs)

  pub pairs_each_two : (p : X → X → Bool) (q : Y → Y → Bool) → ((x x' : X) (y y' : Y) → R x y → R x' y' → p x x' ≡ q y y') → {xs : List X} {ys : List Y} → Pairs R xs ys → each_two p xs ≡ each_two q ys
  pairs_each_two p q same none = refl
  pairs_each_two p q same (more {x = x} {y = y} r rs) = both (pairs_all (p x) (q y) (λ x' y' r'. same x x' y y' r r') rs) (pairs_each_two p q same rs)

-- images of the items
pub pairs_map : {X Y U V : Type 0} (R : X → Y → Type 0) (S : U → V → Type 0) (f : X → U) (g : Y → V) → ((x : X) (y : Y) → R x y → S (f x) (g y))
    → {xs : List X} {ys : List Y} → Pairs R xs ys → Pairs S (map f xs) (map g ys)
pairs_map R S f g h none = none
pairs_map R S f g h (more {x = x} {y = y} r rs) = more (h x y r) (pairs_map R S f g h rs)

pub pairs_flat_map : {X Y U V : Type 0} (R : X → Y → Type 0) (S : U → V → Type 0) (f : X → List U) (g : Y → List V) → ((x : X) (y : Y) → R x y → Pairs S (f x) (g y))
    → {xs : List X} {ys : List Y} → Pairs R xs ys → Pairs S (flat_map f xs) (flat_map g ys)
pairs_flat_map R S f g h none = none
pairs_flat_map R S f g h (more {x = x} {y = y} r rs) = pairs_append S (h x y r) (pairs_flat_map R S f g h rs)

pub pairs_tuples : {X Y : Type 0} (R : X → Y → Type 0) (n : ℕ) {xs : List X} {ys : List Y} → Pairs R xs ys → Pairs (Pairs R) (tuples n xs) (tuples n ys)
pairs_tuples R zero rs = more none none
pairs_tuples R (suc n) {xs} {ys} rs =
    pairs_flat_map R (Pairs R) (λ x. map (λ t. x ∷ t) (tuples n xs)) (λ y. map (λ t. y ∷ t) (tuples n ys))
    (λ x y r. pairs_map (Pairs R) (Pairs R) (λ t. x ∷ t) (λ t. y ∷ t) (λ t u ts. more r ts) (pairs_tuples R n rs)) rs

-- related by equality
pub pairs_equal : {X : Type 0} {xs ys : List X} → Pairs (λ (x y : X). x ≡ y) xs ys → xs ≡ ys
pairs_equal none = refl
pairs_equal (more {x = x} {y = y} {xs = xs} {ys = ys} r rs) = ap (λ z. z ∷ xs) r ∙ ap (λ zs. y ∷ zs) (pairs_equal rs)
