-- Items of lists.
use Rattle.std.proofs.Common.{◌≡◌, zero, suc, Bool, true, ◌⊎◌, inl, inr, List, [], ◌∷◌, refl, subst, arith, ℤ}
use Rattle.std.specs.Ordering.{int_eq}
use Rattle.std.specs.List.{Contains, list_all}
use Rattle.std.proofs.lemmas.Bool.Decides.{Decides-int_eq}
use Rattle.goal_vectors.proofs.Truths.{by_truth, differ, and_left, and_right}
use Rattle.goal_vectors.proofs.Vectors.{cons_same}

pub none_in_nothing : {X : Type 0} {P : Type 0} (v : X) → Contains [] v → P
none_in_nothing v (k, l, e) = absurd (omega (arith, l))

pub first_in : {X : Type 0} (x : X) (xs : List X) → Contains (x ∷ xs) x
first_in x xs = (0, omega arith, refl)

pub later_in : {X : Type 0} (x : X) (xs : List X) (v : X) → Contains xs v → Contains (x ∷ xs) v
later_in x xs v (k, l, e) = (suc k, omega (arith, l), e)

pub in_cases : {X : Type 0} (x : X) (xs : List X) (v : X) → Contains (x ∷ xs) v → (x ≡ v) ⊎ Contains xs v
in_cases x xs v (zero, l, e) = inl e
in_cases x xs v (suc k, l, e) = inr (k, omega (arith, l), e)

at_place : {X : Type 0} (p : X → Bool) (x : X) (xs : List X) (v : X) → list_all p (x ∷ xs) ≡ true → (list_all p xs ≡ true → Contains xs v → p v ≡ true)
    → (x ≡ v) ⊎ Contains xs v → p v ≡ true
at_place p x xs v h rest (inl e) = subst (λ z. p z ≡ true) e (and_left (p x) (list_all p xs) h)
at_place p x xs v h rest (inr j) = rest (and_right (p x) (list_all p xs) h) j

pub all_at : {X : Type 0} (p : X → Bool) (xs : List X) (v : X) → list_all p xs ≡ true → Contains xs v → p v ≡ true
all_at p [] v h i = none_in_nothing v i
all_at p (x ∷ xs) v h i = at_place p x xs v h (λ g j. all_at p xs v g j) (in_cases x xs v i)

nothing_else : {X : Type 0} (y : X) (ys : List X) → [] ≡ y ∷ ys → ⊥
nothing_else y ys h = (cc)

else_nothing : {X : Type 0} (y : X) (ys : List X) → y ∷ ys ≡ [] → ⊥
else_nothing y ys h = (cc)

heads_same : {X : Type 0} (x y : X) (xs ys : List X) → x ∷ xs ≡ y ∷ ys → x ≡ y
heads_same x y xs ys h = (cc)

tails_same : {X : Type 0} (x y : X) (xs ys : List X) → x ∷ xs ≡ y ∷ ys → xs ≡ ys
tails_same x y xs ys h = (cc)

pub by_sameness : {P : Type 0} (u v : List ℤ) → (u ≡ v → P) → ((u ≡ v → ⊥) → P) → P
by_sameness [] [] same other = same refl
by_sameness [] (y ∷ v) same other = other (nothing_else y v)
by_sameness (x ∷ u) [] same other = other (else_nothing x u)
by_sameness (x ∷ u) (y ∷ v) same other =
    by_truth (int_eq x y)
    (λ t. by_sameness u v (λ e. same (cons_same ((Decides-int_eq x y).0 t) e)) (λ n. other (λ e. n (tails_same x y u v e))))
    (λ f. other (λ e. differ (int_eq x y) ((Decides-int_eq x y).1 (heads_same x y u v e)) f))

apart : {X : Type 0} (x v : X) (xs : List X) → (x ≡ v → ⊥) → (Contains xs v → ⊥) → (x ≡ v) ⊎ Contains xs v → ⊥
apart x v xs n m (inl e) = n e
apart x v xs n m (inr j) = m j

-- it is one of them or not
pub by_presence : {P : Type 0} (v : List ℤ) (xs : List (List ℤ)) → (Contains xs v → P) → ((Contains xs v → ⊥) → P) → P
by_presence v [] here nowhere = nowhere (λ i. none_in_nothing v i)
by_presence v (x ∷ xs) here nowhere =
    by_sameness x v
    (λ e. here (subst (λ z. Contains (x ∷ xs) z) e (first_in x xs)))
    (λ n. by_presence v xs (λ i. here (later_in x xs v i)) (λ m. nowhere (λ i. apart x v xs n m (in_cases x xs v i))))
