-- The first of several, and numbers from one on.
use Rattle.std.proofs.Common.{◌≡◌, ℕ, zero, suc, ◌+◌, ◌-◌, ◌<◌, ◌≤◌, Bool, true, false, cond, List, [], ◌∷◌, ◌++◌, length, map, get_or, Some, None, refl, ap, sym, ◌∙◌, arith}
use Rattle.std.specs.Prelude.{slice_get}
use Rattle.std.specs.List.{range_with_len, find, flat_map}

pub first_here : {X : Type 0} (xs ys : List X) (x : X) → slice_get xs 0 ≡ Some x → slice_get (xs ++ ys) 0 ≡ Some x
first_here [] ys x e = (cc)
first_here (y ∷ xs) ys x e = e

pub none_here : {X : Type 0} (xs : List X) → slice_get xs 0 ≡ None → xs ≡ []
none_here [] e = refl
none_here (x ∷ xs) e = (cc)

pub first_behind : {X : Type 0} (xs ys : List X) → xs ≡ [] → slice_get (xs ++ ys) 0 ≡ slice_get ys 0
first_behind xs ys e = ap (λ zs. slice_get (zs ++ ys) 0) e

pub from_here : (i n : ℕ) → i < n → range_with_len i (n - i) ≡ i ∷ range_with_len (i + 1) (n - (i + 1))
from_here i n lt =
    let e : n - i ≡ suc (n - (i + 1)) = omega arith in
    ap (range_with_len i) e

pub at_end : (i n : ℕ) → n ≤ i → range_with_len i (n - i) ≡ []
at_end i n le =
    let e : n - i ≡ 0 = omega arith in
    ap (range_with_len i) e

pub find_here : (p : ℕ → Bool) (i n : ℕ) → i < n → p i ≡ true → find p (range_with_len i (n - i)) ≡ Some i
find_here p i n lt e = ap (find p) (from_here i n lt) ∙ ap (λ b. cond b (Some i) (find p (range_with_len (i + 1) (n - (i + 1))))) e

pub find_on : (p : ℕ → Bool) (i n : ℕ) → i < n → p i ≡ false → find p (range_with_len i (n - i)) ≡ find p (range_with_len (i + 1) (n - (i + 1)))
find_on p i n lt e = ap (find p) (from_here i n lt) ∙ ap (λ b. cond b (Some i) (find p (range_with_len (i + 1) (n - (i + 1))))) e

pub find_end : (p : ℕ → Bool) (i n : ℕ) → n ≤ i → find p (range_with_len i (n - i)) ≡ None
find_end p i n le = ap (find p) (at_end i n le)

pub first_of_here : {X : Type 0} (f : ℕ → List X) (i n : ℕ) (x : X) → i < n → f i ≡ x ∷ [] → slice_get (flat_map f (range_with_len i (n - i))) 0 ≡ Some x
first_of_here f i n x lt e =
    ap (λ zs. slice_get (flat_map f zs) 0) (from_here i n lt)
    ∙ ap (λ zs. slice_get (zs ++ flat_map f (range_with_len (i + 1) (n - (i + 1)))) 0) e

pub first_of_on : {X : Type 0} (f : ℕ → List X) (i n : ℕ) → i < n → f i ≡ [] → slice_get (flat_map f (range_with_len i (n - i))) 0 ≡ slice_get (flat_map f (range_with_len (i + 1) (n - (i + 1)))) 0
first_of_on f i n lt e =
    ap (λ zs. slice_get (flat_map f zs) 0) (from_here i n lt)
    ∙ ap (λ zs. slice_get (zs ++ flat_map f (range_with_len (i + 1) (n - (i + 1)))) 0) e

pub first_of_end : {X : Type 0} (f : ℕ → List X) (i n : ℕ) → n ≤ i → slice_get (flat_map f (range_with_len i (n - i))) 0 ≡ None
first_of_end f i n le = ap (λ zs. slice_get (flat_map f zs) 0) (at_end i n le)

pub found_below : (p : ℕ → Bool) (a n i : ℕ) → find p (range_with_len a n) ≡ Some i → i < a + n
found_below p a zero i e = (cc)
found_below p a (suc n) i e = by_first p a n i (p a) refl e (found_below p (a + 1) n i)
  where
    same_some : (x y : ℕ) → Some x ≡ Some y → x ≡ y
    same_some x y e = (cc)

    by_first : (p : ℕ → Bool) (a n i : ℕ) (b : Bool) → p a ≡ b → find p (range_with_len a (suc n)) ≡ Some i → (find p (range_with_len (a + 1) n) ≡ Some i → i < (a + 1) + n) → i < a + suc n
    by_first p a n i true h e rest =
        let first : a ≡ i = same_some a i (sym (ap (λ c. cond c (Some a) (find p (range_with_len (a + 1) n))) h) ∙ e) in
        omega (arith, first)
    by_first p a n i false h e rest =
        let later = rest (sym (ap (λ c. cond c (Some a) (find p (range_with_len (a + 1) n))) h) ∙ e) in
        omega (arith, later)

pub got : {X : Type 0} (xs : List X) (i : ℕ) (x d : X) → i < length xs → x ≡ get_or xs i d → slice_get xs i ≡ Some x
got [] i x d lt e = absurd (omega (arith, lt))
got (y ∷ xs) zero x d lt e = ap Some (sym e)
got (y ∷ xs) (suc i) x d lt e = got xs i x d (omega (arith, lt)) e

-- a list from its items
pub is_mapped : (f : ℕ → ℕ) (a : ℕ) (xs : List ℕ) → ((i : ℕ) → i < length xs → get_or xs i 0 ≡ f (a + i)) → xs ≡ map f (range_with_len a (length xs))
is_mapped f a [] h = refl
is_mapped f a (x ∷ xs) h =
    let here : a + 0 ≡ a = omega arith in
    let first : x ≡ f a = h 0 (omega arith) ∙ ap f here in
    let rest : xs ≡ map f (range_with_len (a + 1) (length xs)) = is_mapped f (a + 1) xs (λ i lt. moved f a x xs i (h (suc i) (omega (arith, lt)))) in
    ap (λ y. y ∷ xs) first ∙ ap (λ ys. f a ∷ ys) rest
  where
    moved : (f : ℕ → ℕ) (a x : ℕ) (xs : List ℕ) (i : ℕ) → get_or (x ∷ xs) (suc i) 0 ≡ f (a + suc i) → get_or xs i 0 ≡ f ((a + 1) + i)
    moved f a x xs i e =
        let same : a + suc i ≡ (a + 1) + i = omega arith in
        e ∙ ap f same

pub any_default : {X : Type 0} (xs : List X) (i : ℕ) (d e : X) → i < length xs → get_or xs i d ≡ get_or xs i e
any_default [] i d e lt = absurd (omega (arith, lt))
any_default (y ∷ xs) zero d e lt = refl
any_default (y ∷ xs) (suc i) d e lt = any_default xs i d e (omega (arith, lt))
