-- No kind has no node.
use Rattle.std.proofs.Common.{◌≡◌, ℕ, false, List, [], ◌∷◌, map, sum, length, refl, ap, sym}
use Rattle.std.specs.List.{filter}
use Rattle.clf_tree.specs.declared.model.Clafer.{Clafer}
use Rattle.clf_tree.specs.declared.scopes.Scopes.{Scopes}
use Rattle.clf_tree.specs.Lists.{numbers_below}
use Rattle.clf_tree.specs.Hierarchy.{is_concrete}
use Rattle.clf_tree.specs.Nodes.{scope_of}
use Rattle.clf_tree.specs.Intervals.{room}

none : (xs : List ℕ) → filter (λ x. false) xs ≡ []
none [] = refl
none (x ∷ xs) = none xs

pub no_room : (clafers : List Clafer) (scopes : Scopes) → 0 ≡ room clafers scopes []
no_room clafers scopes = ap (λ xs. sum (map (scope_of scopes) xs)) back
  where
    back : [] ≡ filter (λ (x : ℕ). false) (filter (is_concrete clafers) (numbers_below (length clafers)))
    back = sym (none (filter (is_concrete clafers) (numbers_below (length clafers))))
