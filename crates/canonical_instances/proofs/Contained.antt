-- Items of a list, and of a permutation of it.
use Rattle.std.proofs.Common.{◌≡◌, ℕ, zero, suc, ◌<◌, List, [], ◌∷◌, length, get_or, refl, subst, arith}
use Rattle.std.specs.Prelude.{IsPermutation}
use Rattle.std.specs.List.{Contains}
use Rattle.std.proofs.lemmas.List.Sorted.{Contains-permutation, IsPermutation-sym}
use Rattle.clf_tree.proofs.Items.{In, first, later}

in_at : {X : Type 0} (xs : List X) (x : X) (k : ℕ) → k < length xs → get_or xs k x ≡ x → In x xs
in_at [] x k l e = absurd (omega (arith, l))
in_at (y ∷ ys) x zero l e = subst (λ z. In z (y ∷ ys)) e first
in_at (y ∷ ys) x (suc k) l e = later (in_at ys x k (omega (arith, l)) e)

pub in_contained : {X : Type 0} (xs : List X) (x : X) → Contains xs x → In x xs
in_contained xs x (k, l, e) = in_at xs x k l e

pub contained : {X : Type 0} (xs : List X) (x : X) → In x xs → Contains xs x
contained _ x (first {xs = xs}) = (0, omega arith, refl)
contained _ x (later {y = y} {xs = xs} i) = more (contained xs x i)
  where
    more : Contains xs x → Contains (y ∷ xs) x
    more (k, l, e) = (suc k, omega (arith, l), e)

-- what is in a permutation is in the list
pub in_permuted : {X : Type 0} (xs ys : List X) (x : X) → IsPermutation xs ys → In x ys → In x xs
in_permuted xs ys x p i = in_contained xs x (Contains-permutation ys xs x (IsPermutation-sym xs ys p) (contained ys x i))
