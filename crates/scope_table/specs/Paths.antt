-- Which clafer a path names, and which scopes are given to a clafer.
use Rattle.std.specs.Prelude.{ℕ, zero, suc, Bool, List, [], ◌++◌, length, codes, slice_get, nat_eq, bytes_eq, Option, Some}
use Rattle.std.specs.Option.{option_map, option_map_or, option_eq}
use Rattle.std.specs.List.{find}
use Rattle.clf_tree.specs.declared.model.Clafer.{Clafer}
use Rattle.clf_tree.specs.declared.scopes.GivenScope.{GivenScope}
use Rattle.clf_tree.specs.Lists.{numbers_below}
use Rattle.clf_tree.specs.Hierarchy.{parent_of}

module _ (clafers : List Clafer) where
  abbrev pub name_of : ℕ → List ℕ
  name_of c = option_map_or (λ k. k.title.name) (slice_get clafers c) []

  -- the last n names from top level down to a clafer, joined by `.`
  abbrev pub path_within : ℕ → ℕ → List ℕ
  path_within zero c = []
  path_within (suc n) c = option_map_or (λ p. (path_within n p ++ codes ".") ++ name_of c) (parent_of clafers c) (name_of c)

  -- the names from top level down to a clafer, joined by `.`
  abbrev pub path_of : ℕ → List ℕ
  path_of c = path_within (length clafers) c

  -- the clafer that a path names
  abbrev pub named_by : List ℕ → Option ℕ
  named_by path = find (λ c. bytes_eq path (path_of c)) (numbers_below (length clafers))

  -- whether a given scope is one of this clafer
  abbrev pub is_for : ℕ → GivenScope → Bool
  is_for c g = option_eq nat_eq (named_by g.path) (Some c)

  -- the scope that is given to a clafer
  abbrev pub given_to : List GivenScope → ℕ → Option ℕ
  given_to given c = option_map (λ g. g.most) (find (is_for c) given)
