-- Numbers of a list, one by one.
use Rattle.std.proofs.Common.{◌≡◌, ◌≢◌, ℕ, zero, suc, ◌+◌, ◌<◌, ◌≤◌, Bool, true, false, ◌||◌, List, [], ◌∷◌, length, cond, Some, refl, ap, sym, subst, ◌∙◌, arith, ◌⊎◌, inl, inr}
use Rattle.std.specs.Prelude.{slice_get, eqb, ltb, ◌&&◌}
use Rattle.std.specs.List.{list_any, list_all, filter, range_with_len}
use Rattle.std.proofs.lemmas.Bool.Decides.{eqb_tells, Decides-ltb}
use Rattle.std.proofs.lemmas.Bool.{true≢false}
use Rattle.clf_tree.specs.Lists.{numbers_below}

pub data In (d : ℕ) : List ℕ → Type 0 where
  first : {xs : List ℕ} → In d (d ∷ xs)
  later : {x : ℕ} {xs : List ℕ} → In d xs → In d (x ∷ xs)

in_cond : (d x : ℕ) (xs : List ℕ) (b : Bool) → In d xs → In d (cond b (x ∷ xs) xs)
in_cond d x xs true i = later i
in_cond d x xs false i = i

pub in_filter : (p : ℕ → Bool) (d : ℕ) (xs : List ℕ) → p d ≡ true → In d xs → In d (filter p xs)
in_filter p d _ pass (first {xs = xs}) = subst (λ b. In d (cond b (d ∷ filter p xs) (filter p xs))) (sym pass) first
in_filter p d _ pass (later {x = x} {xs = xs} i) = in_cond d x (filter p xs) (p x) (in_filter p d xs pass i)

not_in_nil : {d : ℕ} → In d [] → ⊥
not_in_nil i = elim i [ ]

pub nothing_in : (d : ℕ) (xs : List ℕ) → xs ≡ [] → In d xs → ⊥
nothing_in d xs e i = not_in_nil (subst (In d) e i)

pub head_or_later : {d x : ℕ} {xs : List ℕ} → In d (x ∷ xs) → (d ≡ x) ⊎ In d xs
head_or_later first = inl refl
head_or_later (later i) = inr i

pub only_in : (d e : ℕ) (xs : List ℕ) → xs ≡ d ∷ [] → In e xs → e ≡ d
only_in d e xs eq i = elim (head_or_later (subst (In e) eq i)) [
  | inl same ↦ same
  | inr none ↦ absurd (not_in_nil none)
]

-- what a filter keeps passes, and was there
pub record Kept (p : ℕ → Bool) (d : ℕ) (xs : List ℕ) : Type 0 where
  pub passes : p d ≡ true
  pub was : In d xs

kept_head : (p : ℕ → Bool) (d x : ℕ) (xs : List ℕ) → p x ≡ true → d ≡ x → Kept p d (x ∷ xs)
kept_head p d x xs pass same = subst (λ z. Kept p z (x ∷ xs)) (sym same) (record { passes = pass; was = first })

kept_by : (p : ℕ → Bool) (d x : ℕ) (xs : List ℕ) (b : Bool) → p x ≡ b → (In d (filter p xs) → Kept p d xs) → In d (cond b (x ∷ filter p xs) (filter p xs)) → Kept p d (x ∷ xs)
kept_by p d x xs true e rest i = elim (head_or_later i) [
  | inl same ↦ kept_head p d x xs e same
  | inr i' ↦ let k = rest i' in record { passes = k.passes; was = later k.was }
]
kept_by p d x xs false e rest i = let k = rest i in record { passes = k.passes; was = later k.was }

pub from_filter : (p : ℕ → Bool) (d : ℕ) (xs : List ℕ) → In d (filter p xs) → Kept p d xs
from_filter p d [] i = absurd (not_in_nil i)
from_filter p d (x ∷ xs) i = kept_by p d x xs (p x) refl (from_filter p d xs) i

in_range_step : (a n d : ℕ) → ((eqb d a ≡ true) × (d ≡ a)) ⊎ ((eqb d a ≡ false) × (d ≢ a)) → a ≤ d → (a + 1 ≤ d → In d (range_with_len (a + 1) n)) → In d (a ∷ range_with_len (a + 1) n)
in_range_step a n d (inl h) low rest = subst (λ z. In z (a ∷ range_with_len (a + 1) n)) (sym h.1) first
in_range_step a n d (inr h) low rest = later (rest (omega (arith, h.1)))

in_range : (n a d : ℕ) → a ≤ d → d < a + n → In d (range_with_len a n)
in_range zero a d low high = absurd (omega arith)
in_range (suc n) a d low high = in_range_step a n d (eqb_tells d a) low (λ l. in_range n (a + 1) d l (omega arith))

pub in_numbers : (n d : ℕ) → d < n → In d (numbers_below n)
in_numbers n d below = in_range n 0 d (omega arith) (omega arith)

or_true : (b : Bool) → (b || true) ≡ true
or_true true = refl
or_true false = refl

pub any_in : (p : ℕ → Bool) (d : ℕ) (xs : List ℕ) → p d ≡ true → In d xs → list_any p xs ≡ true
any_in p d _ pass (first {xs = xs}) = ap (λ b. b || list_any p xs) pass
any_in p d _ pass (later {x = x} {xs = xs} i) = ap (λ b. p x || b) (any_in p d xs pass i) ∙ or_true (p x)

pub record Some_one (p : ℕ → Bool) (xs : List ℕ) : Type 0 where
  pub one : ℕ
  pub there : In one xs
  pub passes : p one ≡ true

one_by : (p : ℕ → Bool) (x : ℕ) (xs : List ℕ) (b : Bool) → p x ≡ b → (list_any p xs ≡ true → Some_one p xs) → (b || list_any p xs) ≡ true → Some_one p (x ∷ xs)
one_by p x xs true e rest met = record { one = x; there = first; passes = e }
one_by p x xs false e rest met = let k = rest met in record { one = k.one; there = later k.there; passes = k.passes }

pub in_any : (p : ℕ → Bool) (xs : List ℕ) → list_any p xs ≡ true → Some_one p xs
in_any p [] met = absurd (true≢false (sym met))
in_any p (x ∷ xs) met = one_by p x xs (p x) refl (in_any p xs) met

-- each number is above the ones before, and from a on
pub data Ascending : ℕ → List ℕ → Type 0 where
  none : {a : ℕ} → Ascending a []
  more : {a x : ℕ} {xs : List ℕ} → a ≤ x → Ascending (suc x) xs → Ascending a (x ∷ xs)

lower : (a b : ℕ) (xs : List ℕ) → a ≤ b → Ascending b xs → Ascending a xs
lower a b _ le none = none
lower a b _ le (more l rest) = more (omega (arith, le, l)) rest

ascending_cond : (a x : ℕ) (xs : List ℕ) (b : Bool) → a ≤ x → Ascending (suc x) xs → Ascending a (cond b (x ∷ xs) xs)
ascending_cond a x xs true le rest = more le rest
ascending_cond a x xs false le rest = lower a (suc x) xs (omega (arith, le)) rest

pub ascending_filter : (p : ℕ → Bool) (a : ℕ) (xs : List ℕ) → Ascending a xs → Ascending a (filter p xs)
ascending_filter p a _ none = none
ascending_filter p a _ (more {x = x} {xs = xs} le rest) = ascending_cond a x (filter p xs) (p x) le (ascending_filter p (suc x) xs rest)

ascending_range : (n a : ℕ) → Ascending a (range_with_len a n)
ascending_range zero a = none
ascending_range (suc n) a = more (omega arith) (let same : a + 1 ≡ suc a = omega arith in subst (λ z. Ascending z (range_with_len (a + 1) n)) same (ascending_range n (a + 1)))

pub ascending_numbers : (n : ℕ) → Ascending 0 (numbers_below n)
ascending_numbers n = ascending_range n 0

two_apart : (a d e : ℕ) (xs : List ℕ) → Ascending a (d ∷ e ∷ xs) → d < e
two_apart a d e xs (more l (more m rest)) = omega (arith, m)

pub first_two : (a d e : ℕ) (rest xs : List ℕ) → Ascending a xs → xs ≡ d ∷ e ∷ rest → d < e
first_two a d e rest xs asc eq = two_apart a d e rest (subst (Ascending a) eq asc)

pub got_below : {X : Type 0} (xs : List X) (i : ℕ) (x : X) → slice_get xs i ≡ Some x → i < length xs
got_below [] i x e = (cc)
got_below (y ∷ xs) zero x e = omega arith
got_below (y ∷ xs) (suc i) x e = let rest = got_below xs i x e in omega (arith, rest)

all_in : (p : ℕ → Bool) (xs : List ℕ) → ((x : ℕ) → In x xs → p x ≡ true) → list_all p xs ≡ true
all_in p [] each = refl
all_in p (x ∷ xs) each = ap (λ b. b && list_all p xs) (each x first) ∙ all_in p xs (λ y i. each y (later i))

range_below : (n a d : ℕ) → In d (range_with_len a n) → d < a + n
range_below zero a d i = absurd (not_in_nil i)
range_below (suc n) a d i = elim (head_or_later i) [
  | inl same ↦ omega (arith, same)
  | inr rest ↦ let below = range_below n (a + 1) d rest in omega (arith, below)
]

-- a filter of the numbers below n has numbers below n
pub filter_below : (p : ℕ → Bool) (n : ℕ) → list_all (λ m. ltb m n) (filter p (numbers_below n)) ≡ true
filter_below p n = all_in (λ m. ltb m n) (filter p (numbers_below n)) (λ d i. (Decides-ltb d n).1 (let below = range_below n 0 d (from_filter p d (numbers_below n) i).was in omega (arith, below)))
