use Rattle.std.proofs.Common.{◌≡◌, ℕ, max, refl, length-append, get_or-append-add, ◌+◌, ◌/◌, ◌<◌, ◌≤◌, ◌^◌, List, [], ◌∷◌, ◌++◌, Bool, All, length, get_or, arith, inl, inr}
use Rattle.std.proofs.lemmas.Bool.{cases_eq}
use Rattle.std.proofs.lemmas.List.{get_or_default, get_or_append_left}
use Rattle.std.proofs.lemmas.List.Elements.{All-push, All-weaker}
use Rattle.clause_store.specs.declared.clause.Literal.{Literal}
use Rattle.clause_store.specs.Literals.{IsAscending, HasVariablesBelow}
use Rattle.clause_store.specs.Store.{IsStore}

-- the last literal has the greatest variable
pub below_last : (xs : List Literal) (last : ℕ) (o : Literal) → IsAscending xs → last + 1 ≡ length xs → HasVariablesBelow ((get_or xs last o).code / 2 + 1) xs
below_last xs last o ascending e k d h =
    let same = get_or_default xs last d o (omega arith) in
    elim (cases_eq k last) [
      | inl f ↦ rw (f, same) (omega arith)
      | inr n ↦
          let below = ascending k last d (omega arith) (omega arith) in
          rw (← same) (omega arith)
    ]

All_front : {X : Type 0} (P : X → Type 0) (xs : List X) (x : X) → All P (xs ++ x ∷ []) → All P xs
All_front P xs x all k d h =
    let here = all k d (rw (length-append xs (x ∷ [])) (omega arith)) in
    rw (get_or_append_left xs (x ∷ []) d k h) at here

All_last : {X : Type 0} (P : X → Type 0) (xs : List X) (x : X) → All P (xs ++ x ∷ []) → P x
All_last P xs x all =
    let here = all (length xs + 0) x (rw (length-append xs (x ∷ [])) (omega arith)) in
    rw (get_or-append-add xs (x ∷ []) 0 x) at here

below_more : (n m : ℕ) → n ≤ m → (c : List Literal) → HasVariablesBelow n c → HasVariablesBelow m c
below_more n m le c = All-weaker (λ l. l.code / 2 < n) (λ l. l.code / 2 < m) (λ l h. omega arith) c

-- one more clause, with the least number above its variables
pub pushed_store : (clauses : List (List Literal)) (live : List Bool) (v w : ℕ) (c : List Literal) (b : Bool) → IsStore clauses live v → length clauses < 2147483647 → HasVariablesBelow w c → ((n : ℕ) → HasVariablesBelow n c → w ≤ n) → w ≤ 2 ^ 31 → IsStore (clauses ++ c ∷ []) (live ++ b ∷ []) (max v w)
pushed_store clauses live v w c b store room above least small = record {
  flags = rw (length-append live (b ∷ []), length-append clauses (c ∷ []), store.flags) refl;
  few = rw (length-append clauses (c ∷ [])) (omega arith);
  above = All-push (HasVariablesBelow (max v w)) clauses c
      (All-weaker (HasVariablesBelow v) (HasVariablesBelow (max v w)) (below_more v (max v w) (omega arith)) clauses store.above)
      (below_more w (max v w) (omega arith) c above);
  least = λ n all.
      let old = store.least n (All_front (HasVariablesBelow n) clauses c all) in
      let more = least n (All_last (HasVariablesBelow n) clauses c all) in
      omega arith;
  small = let old = store.small in omega arith;
}

-- the same of lists that are told to be these
pub pushed_to : (clauses : List (List Literal)) (live : List Bool) (v w : ℕ) (c d : List Literal) (b : Bool) (new : List (List Literal)) (flags : List Bool) (n : ℕ) → IsStore clauses live v → length clauses < 2147483647 → HasVariablesBelow w d → ((n : ℕ) → HasVariablesBelow n d → w ≤ n) → w ≤ 2 ^ 31 → d ≡ c → new ≡ clauses ++ c ∷ [] → flags ≡ live ++ b ∷ [] → n ≡ max v w → IsStore new flags n
pushed_to clauses live v w c d b new flags n store room above least small same e f g = rw (e, f, g, ← same) (pushed_store clauses live v w d b store room above least small)
