-- Items of lists.
use Rattle.std.proofs.Common.{◌≡◌, ℕ, zero, suc, ◌+◌, ◌<◌, Bool, true, false, ◌&&◌, ◌||◌, List, [], ◌∷◌, cond, refl, sym, subst, ◌∙◌, arith}
use Rattle.std.specs.List.{filter, list_any, list_all, range_with_len}
use Rattle.std.proofs.lemmas.Bool.{true≢false}

pub data In {X : Type 0} : X → List X → Type 0 where
  first : {x : X} {xs : List X} → In x (x ∷ xs)
  later : {x y : X} {xs : List X} → In x xs → In x (y ∷ xs)

pub or_left : (a b : Bool) → a ≡ true → (a || b) ≡ true
or_left true b h = refl
or_left false b h = absurd (true≢false (sym h))

pub or_right : (a b : Bool) → b ≡ true → (a || b) ≡ true
or_right true b h = refl
or_right false b h = h

and_left : (a b : Bool) → (a && b) ≡ true → a ≡ true
and_left true b h = refl
and_left false b h = h

and_right : (a b : Bool) → (a && b) ≡ true → b ≡ true
and_right true b h = h
and_right false b h = absurd (true≢false (sym h))

-- an item that passes
pub record Found {X : Type 0} (p : X → Bool) (xs : List X) : Type 0 where
  pub item : X
  pub in_list : In item xs
  pub pass : p item ≡ true

found_at : {X : Type 0} (p : X → Bool) (x : X) (xs : List X) (b : Bool) → p x ≡ b → (b || list_any p xs) ≡ true → (list_any p xs ≡ true → Found p xs) → Found p (x ∷ xs)
found_at p x xs true e h rest = record { item = x; in_list = first; pass = e }
found_at p x xs false e h rest = let r = rest h in record { item = r.item; in_list = later r.in_list; pass = r.pass }

pub found : {X : Type 0} (p : X → Bool) (xs : List X) → list_any p xs ≡ true → Found p xs
found p [] h = absurd (true≢false (sym h))
found p (x ∷ xs) h = found_at p x xs (p x) refl h (found p xs)

pub any_in : {X : Type 0} (p : X → Bool) (xs : List X) (x : X) → In x xs → p x ≡ true → list_any p xs ≡ true
any_in p _ x (first {xs = xs}) pass = or_left (p x) (list_any p xs) pass
any_in p _ x (later {y = y} {xs = xs} i) pass = or_right (p y) (list_any p xs) (any_in p xs x i pass)

pub all_in : {X : Type 0} (p : X → Bool) (xs : List X) (x : X) → In x xs → list_all p xs ≡ true → p x ≡ true
all_in p _ x (first {xs = xs}) all = and_left (p x) (list_all p xs) all
all_in p _ x (later {y = y} {xs = xs} i) all = all_in p xs x i (and_right (p y) (list_all p xs) all)

-- no item passes, so this one does not
pub none_in : {X : Type 0} (p : X → Bool) (xs : List X) (x : X) → In x xs → list_any p xs ≡ false → p x ≡ false
none_in p xs x i none = by_case (p x) refl
  where
    by_case : (b : Bool) → p x ≡ b → b ≡ false
    by_case true e = absurd (true≢false (sym (any_in p xs x i e) ∙ none))
    by_case false e = refl

pub record Kept {X : Type 0} (p : X → Bool) (xs : List X) (x : X) : Type 0 where
  pub in_list : In x xs
  pub pass : p x ≡ true

kept_more : {X : Type 0} (p : X → Bool) (y x : X) (xs : List X) → Kept p xs x → Kept p (y ∷ xs) x
kept_more p y x xs k = record { in_list = later k.in_list; pass = k.pass }

kept_first : {X : Type 0} (p : X → Bool) (y x : X) (xs : List X) → p y ≡ true → In x (y ∷ filter p xs) → (In x (filter p xs) → Kept p xs x) → Kept p (y ∷ xs) x
kept_first p _ x xs e (first {x = _}) rest = record { in_list = first; pass = e }
kept_first p y x xs e (later i) rest = kept_more p y x xs (rest i)

kept_at : {X : Type 0} (p : X → Bool) (y x : X) (xs : List X) (b : Bool) → p y ≡ b → In x (cond b (y ∷ filter p xs) (filter p xs)) → (In x (filter p xs) → Kept p xs x) → Kept p (y ∷ xs) x
kept_at p y x xs true e i rest = kept_first p y x xs e i rest
kept_at p y x xs false e i rest = kept_more p y x xs (rest i)

pub kept : {X : Type 0} (p : X → Bool) (xs : List X) (x : X) → In x (filter p xs) → Kept p xs x
kept p [] x i = elim i [ ]
kept p (y ∷ ys) x i = kept_at p y x ys (p y) refl i (kept p ys x)

in_cond : {X : Type 0} (p : X → Bool) (y x : X) (xs : List X) (b : Bool) → In x (filter p xs) → In x (cond b (y ∷ filter p xs) (filter p xs))
in_cond p y x xs true i = later i
in_cond p y x xs false i = i

pub in_filter : {X : Type 0} (p : X → Bool) (xs : List X) (x : X) → In x xs → p x ≡ true → In x (filter p xs)
in_filter p _ x (first {xs = xs}) e = subst (λ b. In x (cond b (x ∷ filter p xs) (filter p xs))) (sym e) first
in_filter p _ x (later {y = y} {xs = xs} i) e = in_cond p y x xs (p y) (in_filter p xs x i e)

-- the numbers from a on
pub in_range : (n a i : ℕ) → i < n → In (a + i) (range_with_len a n)
in_range zero a i h = absurd (omega (arith, h))
in_range (suc n) a zero h = subst (λ z. In z (a ∷ range_with_len (a + 1) n)) (omega arith) (first {x = a} {xs = range_with_len (a + 1) n})
in_range (suc n) a (suc i) h = subst (λ z. In z (a ∷ range_with_len (a + 1) n)) (omega arith) (later {x = a + 1 + i} {y = a} (in_range n (a + 1) i (omega (arith, h))))

range_first : (n a i : ℕ) → (In i (range_with_len (a + 1) n) → i < a + 1 + n) → In i (a ∷ range_with_len (a + 1) n) → i < a + suc n
range_first n a _ rest (first {x = _}) = omega arith
range_first n a i rest (later j) = let less : i < a + 1 + n = rest j in omega (arith, less)

pub from_range : (n a i : ℕ) → In i (range_with_len a n) → i < a + n
from_range zero a i h = elim h [ ]
from_range (suc n) a i h = range_first n a i (from_range n (a + 1) i) h
