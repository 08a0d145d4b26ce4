-- Small models, computed.
use Rattle.std.proofs.Common.{◌≡◌, ℕ, false, List, [], ◌∷◌, Option, Some, None, refl}
use Rattle.clf_tree.specs.declared.model.Clafer.{Clafer}
use Rattle.name_resolver.specs.declared.nearest.Nearest.TheVariants.{Nothing, Only, Several}
use Rattle.name_resolver.specs.Ways.{children}
use Rattle.name_resolver.specs.Levels.{first_level}
use Rattle.name_resolver.specs.FirstWay.{way_taken}

abbrev clafer : ℕ → Option ℕ → Clafer
clafer name parent = record {
  title = record { name = name ∷ []; at = record { line = 0; column = 0 } };
  is_abstract = false;
  parent = parent;
  above = None;
  group = record { low = 0; high = None };
  times = record { low = 1; high = Some 1 };
  reference = None;
}

-- x, a, and another x below a
abbrev two_of_a_name : List Clafer
two_of_a_name = clafer 120 None ∷ clafer 97 None ∷ clafer 120 (Some 1) ∷ []

pub nearest_first : first_level two_of_a_name (120 ∷ []) 3 (children two_of_a_name 1) ≡ Only 2
nearest_first = refl

pub not_itself : first_level two_of_a_name (97 ∷ []) 3 (children two_of_a_name 1) ≡ Nothing
not_itself = refl

-- a with b and c, each with an x
abbrev two_below : List Clafer
two_below = clafer 97 None ∷ clafer 98 (Some 0) ∷ clafer 120 (Some 1) ∷ clafer 99 (Some 0) ∷ clafer 120 (Some 3) ∷ []

pub ambiguous : first_level two_below (120 ∷ []) 5 (children two_below 0) ≡ Several
ambiguous = refl

pub one_of_two : first_level two_below (120 ∷ []) 5 (children two_below 3) ≡ Only 4
one_of_two = refl

pub two_steps : way_taken two_below 0 4 ≡ 3 ∷ 4 ∷ []
two_steps = refl
