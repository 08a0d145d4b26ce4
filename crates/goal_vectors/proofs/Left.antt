-- What is left of two vectors after some goals.
use Rattle.std.proofs.Common.{◌≡◌, ℕ, zero, suc, ◌+◌, ◌≤◌, min, Bool, true, false, ◌&&◌, ◌||◌, ◌⊎◌, inl, inr, List, [], ◌∷◌, length, drop, refl, sym, ap, subst, ◌∙◌, arith, ℤ}
use Rattle.std.specs.Prelude.{slice_get, Some}
use Rattle.std.specs.Ordering.{int_eq}
use Rattle.std.proofs.lemmas.Bool.Decides.{Decides-int_eq}
use Rattle.goal_vectors.proofs.Singles.{better_self, neither_better_there}
use Rattle.goal_vectors.proofs.Truths.{by_truth, differ, or_left, or_rest, and_none, and_rest}
use Rattle.clf_tree.specs.Front.{better, is_better_somewhere, before}

unequal : (way : Bool) (x y : ℤ) → better way y x ≡ true → int_eq x y ≡ false
unequal way x y worse =
    by_truth (int_eq x y)
    (λ t. differ (better way x x) (subst (λ z. better way z x ≡ true) (sym ((Decides-int_eq x y).0 t)) worse) (better_self way x))
    (λ n. n)

-- an item and what is behind it
pub drop_at : {X : Type 0} (xs : List X) (at : ℕ) (x : X) → slice_get xs at ≡ Some x → drop at xs ≡ x ∷ drop (at + 1) xs
drop_at [] at x h = (cc)
drop_at (y ∷ ys) zero x h = ap (λ z. z ∷ ys) (same y x h)
  where
    same : {Y : Type 0} (a b : Y) → Some a ≡ Some b → a ≡ b
    same a b q = (cc)
drop_at (y ∷ ys) (suc at) x h =
    let e : suc at + 1 ≡ suc (at + 1) = omega arith in
    rw e (drop_at ys at x h)

pub drop_past : {X : Type 0} (xs : List X) (at : ℕ) → length xs ≤ at → drop at xs ≡ []
drop_past [] zero h = refl
drop_past [] (suc at) h = refl
drop_past (y ∷ ys) zero h = absurd (omega (arith, h))
drop_past (y ∷ ys) (suc at) h = drop_past ys at (omega (arith, h))

pub somewhere_left : (ways : List Bool) (u v : List ℤ) (at : ℕ) (way : Bool) (x y : ℤ)
    → slice_get ways at ≡ Some way → slice_get u at ≡ Some x → slice_get v at ≡ Some y
    → is_better_somewhere (drop at ways) (drop at u) (drop at v) ≡ (better way x y || is_better_somewhere (drop (at + 1) ways) (drop (at + 1) u) (drop (at + 1) v))
somewhere_left ways u v at way x y p q r = rw (drop_at ways at way p, drop_at u at x q, drop_at v at y r) refl

pub before_left : (ways : List Bool) (u v : List ℤ) (at : ℕ) (way : Bool) (x y : ℤ)
    → slice_get ways at ≡ Some way → slice_get u at ≡ Some x → slice_get v at ≡ Some y
    → before (drop at ways) (drop at u) (drop at v) ≡ (better way x y || (int_eq x y && before (drop (at + 1) ways) (drop (at + 1) u) (drop (at + 1) v)))
before_left ways u v at way x y p q r = rw (drop_at ways at way p, drop_at u at x q, drop_at v at y r) refl

pub somewhere_here : (ways : List Bool) (u v : List ℤ) (at : ℕ) (way : Bool) (x y : ℤ)
    → slice_get ways at ≡ Some way → slice_get u at ≡ Some x → slice_get v at ≡ Some y
    → better way x y ≡ true → is_better_somewhere (drop at ways) (drop at u) (drop at v) ≡ true
somewhere_here ways u v at way x y p q r h =
    somewhere_left ways u v at way x y p q r ∙ or_left (better way x y) (is_better_somewhere (drop (at + 1) ways) (drop (at + 1) u) (drop (at + 1) v)) h

pub somewhere_on : (ways : List Bool) (u v : List ℤ) (at : ℕ) (way : Bool) (x y : ℤ)
    → slice_get ways at ≡ Some way → slice_get u at ≡ Some x → slice_get v at ≡ Some y
    → better way x y ≡ false → is_better_somewhere (drop (at + 1) ways) (drop (at + 1) u) (drop (at + 1) v) ≡ is_better_somewhere (drop at ways) (drop at u) (drop at v)
somewhere_on ways u v at way x y p q r h =
    sym (somewhere_left ways u v at way x y p q r ∙ or_rest (better way x y) (is_better_somewhere (drop (at + 1) ways) (drop (at + 1) u) (drop (at + 1) v)) h)

pub before_here : (ways : List Bool) (u v : List ℤ) (at : ℕ) (way : Bool) (x y : ℤ)
    → slice_get ways at ≡ Some way → slice_get u at ≡ Some x → slice_get v at ≡ Some y
    → better way x y ≡ true → before (drop at ways) (drop at u) (drop at v) ≡ true
before_here ways u v at way x y p q r h =
    before_left ways u v at way x y p q r ∙ or_left (better way x y) (int_eq x y && before (drop (at + 1) ways) (drop (at + 1) u) (drop (at + 1) v)) h

pub before_not : (ways : List Bool) (u v : List ℤ) (at : ℕ) (way : Bool) (x y : ℤ)
    → slice_get ways at ≡ Some way → slice_get u at ≡ Some x → slice_get v at ≡ Some y
    → better way x y ≡ false → better way y x ≡ true → before (drop at ways) (drop at u) (drop at v) ≡ false
before_not ways u v at way x y p q r h worse =
    let b : Bool = before (drop (at + 1) ways) (drop (at + 1) u) (drop (at + 1) v) in
    before_left ways u v at way x y p q r ∙ or_rest (better way x y) (int_eq x y && b) h ∙ and_none (int_eq x y) b (unequal way x y worse)

pub before_on : (ways : List Bool) (u v : List ℤ) (at : ℕ) (way : Bool) (x y : ℤ)
    → slice_get ways at ≡ Some way → slice_get u at ≡ Some x → slice_get v at ≡ Some y
    → better way x y ≡ false → better way y x ≡ false → before (drop (at + 1) ways) (drop (at + 1) u) (drop (at + 1) v) ≡ before (drop at ways) (drop at u) (drop at v)
before_on ways u v at way x y p q r h back =
    let b : Bool = before (drop (at + 1) ways) (drop (at + 1) u) (drop (at + 1) v) in
    sym (before_left ways u v at way x y p q r ∙ or_rest (better way x y) (int_eq x y && b) h
    ∙ and_rest (int_eq x y) b ((Decides-int_eq x y).1 (neither_better_there way x y h back)))

nowhere_without_second : (ways : List Bool) (u : List ℤ) → is_better_somewhere ways u [] ≡ false
nowhere_without_second [] u = refl
nowhere_without_second (way ∷ ways) [] = refl
nowhere_without_second (way ∷ ways) (x ∷ u) = refl

nowhere_without_first : (ways : List Bool) (v : List ℤ) → is_better_somewhere ways [] v ≡ false
nowhere_without_first [] v = refl
nowhere_without_first (way ∷ ways) v = refl

not_before_nothing : (ways : List Bool) (u : List ℤ) → before ways u [] ≡ false
not_before_nothing [] u = refl
not_before_nothing (way ∷ ways) [] = refl
not_before_nothing (way ∷ ways) (x ∷ u) = refl

nothing_not_before : (ways : List Bool) (v : List ℤ) → before ways [] v ≡ false
nothing_not_before [] v = refl
nothing_not_before (way ∷ ways) v = refl

least_of : (a b c n : ℕ) → min a (min b c) ≤ n → (a ≤ n) ⊎ ((b ≤ n) ⊎ (c ≤ n))
least_of a b c n h = grind arith

-- nothing is left of one of the three
at_end : {P : Type 0} (ways : List Bool) (u v : List ℤ) (at : ℕ) → (length ways ≤ at) ⊎ ((length u ≤ at) ⊎ (length v ≤ at))
    → (drop at ways ≡ [] → P) → (drop at u ≡ [] → P) → (drop at v ≡ [] → P) → P
at_end ways u v at (inl a) one two three = one (drop_past ways at a)
at_end ways u v at (inr (inl b)) one two three = two (drop_past u at b)
at_end ways u v at (inr (inr c)) one two three = three (drop_past v at c)

pub somewhere_end : (ways : List Bool) (u v : List ℤ) (at : ℕ) → min (length ways) (min (length u) (length v)) ≤ at
    → is_better_somewhere (drop at ways) (drop at u) (drop at v) ≡ false
somewhere_end ways u v at h = at_end ways u v at (least_of (length ways) (length u) (length v) at h)
    (λ e. rw e refl)
    (λ e. rw e (nowhere_without_first (drop at ways) (drop at v)))
    (λ e. rw e (nowhere_without_second (drop at ways) (drop at u)))

pub before_end : (ways : List Bool) (u v : List ℤ) (at : ℕ) → min (length ways) (min (length u) (length v)) ≤ at
    → before (drop at ways) (drop at u) (drop at v) ≡ false
before_end ways u v at h = at_end ways u v at (least_of (length ways) (length u) (length v) at h)
    (λ e. rw e refl)
    (λ e. rw e (nothing_not_before (drop at ways) (drop at v)))
    (λ e. rw e (not_before_nothing (drop at ways) (drop at u)))
