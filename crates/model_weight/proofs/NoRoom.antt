-- What has no kind has no node.
use Rattle.std.proofs.Common.{◌≡◌, ℕ, false, List, [], ◌∷◌, map, sum, length, Option, Some, None, refl, ap, sym, ◌∙◌}
use Rattle.std.specs.Option.{option_map_or}
use Rattle.std.specs.List.{filter}
use Rattle.clf_tree.specs.declared.model.Clafer.{Clafer}
use Rattle.clf_tree.specs.declared.scopes.Scopes.{Scopes}
use Rattle.clf_tree.specs.declared.bounds.Bounds.{Bounds}
use Rattle.clf_tree.specs.declared.kind.Kind.{Kind}
use Rattle.clf_tree.specs.declared.kind.Kind.TheVariants as kinds
use Rattle.clf_tree.specs.Lists.{numbers_below}
use Rattle.clf_tree.specs.Hierarchy.{is_concrete, targets_of}
use Rattle.clf_tree.specs.Nodes.{scope_of}
use Rattle.clf_tree.specs.Intervals.{room, sum_between}
use Rattle.model_weight.specs.Measures.{nodes_in, targets_in, kind_interval}

none : (xs : List ℕ) → filter (λ x. false) xs ≡ []
none [] = refl
none (x ∷ xs) = none xs

no_room : (clafers : List Clafer) (scopes : Scopes) → 0 ≡ room clafers scopes []
no_room clafers scopes = ap (λ xs. sum (map (scope_of scopes) xs)) back
  where
    back : [] ≡ filter (λ (x : ℕ). false) (filter (is_concrete clafers) (numbers_below (length clafers)))
    back = sym (none (filter (is_concrete clafers) (numbers_below (length clafers))))

pub nodes_none : (clafers : List Clafer) (scopes : Scopes) → 0 ≡ nodes_in clafers scopes None
unfolding nodes_in
nodes_none clafers scopes = no_room clafers scopes

pub nodes_truth : (clafers : List Clafer) (scopes : Scopes) → 0 ≡ nodes_in clafers scopes (Some kinds.Truth)
unfolding nodes_in
nodes_truth clafers scopes = no_room clafers scopes

pub nodes_integer : (clafers : List Clafer) (scopes : Scopes) → 0 ≡ nodes_in clafers scopes (Some kinds.Integer)
unfolding nodes_in
nodes_integer clafers scopes = no_room clafers scopes

pub nodes_nodes : (clafers : List Clafer) (scopes : Scopes) (ks : List ℕ) → room clafers scopes ks ≡ nodes_in clafers scopes (Some (kinds.Nodes ks))
unfolding nodes_in
nodes_nodes clafers scopes ks = refl

pub nodes_numbers : (clafers : List Clafer) (scopes : Scopes) (ks : List ℕ) → room clafers scopes ks ≡ nodes_in clafers scopes (Some (kinds.Numbers ks))
unfolding nodes_in
nodes_numbers clafers scopes ks = refl

pub ruleset nodes_by_kind = (nodes_none, nodes_truth, nodes_integer, nodes_nodes, nodes_numbers)

-- targets
pub targets_found : (clafers : List Clafer) (scopes : Scopes) (ks ts : List ℕ) → targets_of clafers ks ≡ Some ts → room clafers scopes ts ≡ targets_in clafers scopes (Some (kinds.Nodes ks))
unfolding targets_in
targets_found clafers scopes ks ts h = sym (ap (λ o. option_map_or (room clafers scopes) o 0) h)

pub targets_missing : (clafers : List Clafer) (scopes : Scopes) (ks : List ℕ) → targets_of clafers ks ≡ None → 0 ≡ targets_in clafers scopes (Some (kinds.Nodes ks))
unfolding targets_in
targets_missing clafers scopes ks h = sym (ap (λ o. option_map_or (room clafers scopes) o 0) h)

pub targets_none : (clafers : List Clafer) (scopes : Scopes) → 0 ≡ targets_in clafers scopes None
unfolding targets_in
targets_none clafers scopes = no_room clafers scopes

pub targets_truth : (clafers : List Clafer) (scopes : Scopes) → 0 ≡ targets_in clafers scopes (Some kinds.Truth)
unfolding targets_in
targets_truth clafers scopes = no_room clafers scopes

pub targets_integer : (clafers : List Clafer) (scopes : Scopes) → 0 ≡ targets_in clafers scopes (Some kinds.Integer)
unfolding targets_in
targets_integer clafers scopes = no_room clafers scopes

pub targets_numbers : (clafers : List Clafer) (scopes : Scopes) (ks : List ℕ) → 0 ≡ targets_in clafers scopes (Some (kinds.Numbers ks))
unfolding targets_in
targets_numbers clafers scopes ks = no_room clafers scopes

pub ruleset targets_by_kind = (targets_found, targets_missing, targets_none, targets_truth, targets_integer, targets_numbers)

-- intervals
pub kind_bounds : (clafers : List Clafer) (scopes : Scopes) (k : Option Kind) (n : ℕ) (b : Bounds) → b ≡ sum_between [] scopes n → n ≡ nodes_in clafers scopes k → b ≡ kind_interval clafers scopes k
unfolding kind_interval
kind_bounds clafers scopes k n b e h = e ∙ ap (sum_between [] scopes) h
