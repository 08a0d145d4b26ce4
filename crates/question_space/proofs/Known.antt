-- What is known of the scopes of a model that is read.
use Rattle.std.proofs.Common.{◌≡◌, ℕ, Bool, true, false, not, ◌||◌, ◌&&◌, IsTrue, List, [], ◌∷◌, length, get_or, refl, ap, ◌∙◌, arith}
use Rattle.std.specs.Prelude.{◌==◌, ℤ, zero, suc, slice_get, int_le, int_lt, neg_ℤ, pos}
use Rattle.std.specs.Option.{option_map_or}
use Rattle.std.specs.List.{list_all}
use Rattle.std.proofs.lemmas.Int.{ints}
use Rattle.clf_tree.specs.declared.model.Clafer.{Clafer}
use Rattle.clf_tree.specs.declared.scopes.Scopes.{Scopes}
use Rattle.clf_tree.specs.Hierarchy.{is_concrete}
use Rattle.clf_tree.specs.Lists.{numbers_below}
use Rattle.clf_tree.specs.Nodes.{scope_of}
use Rattle.scope_table.specs.Fitting.{Fit}
use Rattle.model_reader.specs.Ranges.{has_range}
use Rattle.shown_instance.specs.Consistent.{abstract_are_empty}

scope_is : (xs : List ℕ) (c : ℕ) → option_map_or (λ n. n) (slice_get xs c) 0 ≡ get_or xs c 0
scope_is [] c = refl
scope_is (x ∷ xs) zero = refl
scope_is (x ∷ xs) (suc c) = scope_is xs c

all_of : (p : ℕ → Bool) (xs : List ℕ) → ((c : ℕ) → p c ≡ true) → list_all p xs ≡ true
all_of p [] each = refl
all_of p (x ∷ xs) each = ap (λ b. b && list_all p xs) (each x) ∙ all_of p xs each

-- abstract clafers have the scope 0
pub scopes_are_empty : (clafers : List Clafer) (scopes : Scopes) → Fit clafers scopes.of → IsTrue (abstract_are_empty clafers scopes)
scopes_are_empty clafers scopes fit = all_of (λ c. is_concrete clafers c || (scope_of scopes c == 0)) (numbers_below (length clafers))
    (λ c. by c (is_concrete clafers c) refl)
  where
    by : (c : ℕ) (b : Bool) → is_concrete clafers c ≡ b → (b || (scope_of scopes c == 0)) ≡ true
    by c true e = refl
    by c false e = ap (λ n. n == 0) (scope_is scopes.of c ∙ fit.abstract_none c e)

-- the range begins below its end
pub range_is_right : (scopes : Scopes) → IsTrue (has_range scopes) → IsTrue (int_le scopes.low scopes.high)
range_is_right scopes range = by scopes.low scopes.high range
  where
    by : (low high : ℤ) → not (int_lt high low || int_lt low (neg_ℤ (pos 32768)) || int_lt (pos 32767) high) ≡ true → int_le low high ≡ true
    by low high h = grind (arith, ints)
