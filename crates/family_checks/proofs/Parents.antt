-- Whether parents stand first is decided by what is left.
use Rattle.std.proofs.Common.{◌≡◌, ℕ, zero, suc, ◌+◌, true, ◌&&◌, List, [], ◌∷◌, drop, Some, ap, ◌∙◌, subst, arith}
use Rattle.std.specs.Prelude.{slice_get}
use Rattle.clf_tree.specs.declared.plain.PlainClafer.{PlainClafer}
use Rattle.clf_tree.specs.Hierarchy.{is_below}
use Rattle.super_linker.specs.Supers.{parents_first}

left_suc : {X : Type 0} (xs : List X) (i : ℕ) (x : X) → slice_get xs i ≡ Some x → drop i xs ≡ x ∷ drop (suc i) xs
left_suc [] i x e = (cc)
left_suc (y ∷ xs) zero x e = let same : y ≡ x = (cc) in ap (λ z. z ∷ xs) same
left_suc (y ∷ xs) (suc i) x e = left_suc xs i x e

pub parents_left : (ks : List PlainClafer) (i : ℕ) (k : PlainClafer) → slice_get ks i ≡ Some k → is_below i k.parent ≡ true → (parents_first i (drop i ks) ≡ true → parents_first 0 ks ≡ true)
    → parents_first (i + 1) (drop (i + 1) ks) ≡ true → parents_first 0 ks ≡ true
parents_left ks i k e below before rest =
    let next : suc i ≡ i + 1 = omega arith in
    let left : drop i ks ≡ k ∷ drop (i + 1) ks = subst (λ (j : ℕ). drop i ks ≡ k ∷ drop j ks) next (left_suc ks i k e) in
    before (ap (parents_first i) left ∙ ap (λ b. b && parents_first (i + 1) (drop (i + 1) ks)) below ∙ rest)
