-- What is refused of scopes, in the order in which the first refusal counts.
use Rattle.std.specs.Prelude.{ℕ, ◌+◌, ◌&&◌, ◌||◌, not, List, [], ◌∷◌, ◌++◌, length, map, sum, slice_get, nat_lt, Option, Some, None, ◌≡◌, is_none, is_some, pos, neg_ℤ, int_lt, if◌then◌else◌}
use Rattle.std.specs.Option.{option_map_or, option_to_list}
use Rattle.std.specs.List.{flat_map}
use Rattle.clf_base.specs.declared.fault.Span.{Span}
use Rattle.clf_base.specs.declared.fault.Refusal.{Refusal}
use Rattle.clf_base.specs.declared.fault.Fault.{Fault}
use Rattle.clf_base.specs.declared.fault.Fault.TheVariants as fault
use Rattle.clf_tree.specs.declared.model.Clafer.{Clafer}
use Rattle.clf_tree.specs.declared.scopes.Scopes.{Scopes}
use Rattle.clf_tree.specs.declared.scopes.Given.{Given}
use Rattle.clf_tree.specs.declared.scopes.GivenScope.{GivenScope}
use Rattle.clf_tree.specs.Lists.{numbers_below}
use Rattle.clf_tree.specs.Hierarchy.{is_concrete}
use Rattle.scope_table.specs.Paths.{named_by, given_to}
use Rattle.scope_table.specs.Largest.{scope, told}

abbrev pub nowhere : Span
nowhere = record { line = 0; column = 0 }

abbrev pub refused : ℕ → Span → ℕ → Refusal
refused code at value = record { code = code; at = at; value = value }

-- what is found is the first of the list
abbrev pub IsFirst : List Refusal → Option Refusal → Type 0
IsFirst rs found = slice_get rs 0 ≡ found

abbrev pub IsFirstOf : List Refusal → Fault → Type 0
IsFirstOf rs (fault.Refused r) = IsFirst rs (Some r)
IsFirstOf rs fault.NoMemory = Unit {0}

-- the range of integers: from its low end up, and within 16 bits
abbrev pub range_refusals : Given → List Refusal
range_refusals given =
    if int_lt given.high given.low || int_lt given.low (neg_ℤ (pos 32768)) || int_lt (pos 32767) given.high then refused 85 nowhere 0 ∷ [] else []

module _ (clafers : List Clafer) where
  -- a given scope of a clafer, after those before it
  abbrev pub known_refusal : List GivenScope → GivenScope → ℕ → Option Refusal
  known_refusal before g c =
      if not (is_concrete clafers c) then Some (refused 81 nowhere (length before + 1))
      else (if is_some (given_to clafers before c) then Some (refused 82 nowhere (length before + 1))
      else (if nat_lt 256 g.most then Some (refused 83 nowhere g.most) else None))

  -- a given scope, which has to be of a clafer
  abbrev pub given_refusal : List GivenScope → GivenScope → Option Refusal
  given_refusal before g =
      option_map_or (known_refusal before g) (named_by clafers g.path) (Some (refused 80 nowhere (length before + 1)))

  -- given scopes, after those before them
  abbrev pub given_refusals : List GivenScope → List GivenScope → List Refusal
  given_refusals before [] = []
  given_refusals before (g ∷ gs) = option_to_list (given_refusal before g) ++ given_refusals (before ++ g ∷ []) gs

  abbrev pub title_of : ℕ → Span
  title_of c = option_map_or (λ k. k.title.at) (slice_get clafers c) nowhere

  module _ (given : Given) where
    -- a scope that isn't given
    abbrev pub large_refusals : ℕ → List Refusal
    large_refusals c =
        if is_none (given_to clafers given.scopes c) && nat_lt 256 (scope clafers given c) then refused 83 (title_of c) (told (scope clafers given c)) ∷ [] else []

    abbrev pub all_scopes : List ℕ
    all_scopes = map (scope clafers given) (numbers_below (length clafers))

    -- the scopes in all
    abbrev pub sum_refusals : List Refusal
    sum_refusals = if nat_lt 2048 (sum all_scopes) then refused 84 nowhere (told (sum all_scopes)) ∷ [] else []

    -- what is refused: the range, then given scopes in their order, then others in the order of the model, then their sum
    abbrev pub refusals : List Refusal
    refusals = range_refusals given ++ given_refusals [] given.scopes ++ flat_map large_refusals (numbers_below (length clafers)) ++ sum_refusals

    -- what is answered where nothing is refused: the scope of each clafer, and the range as it is given
    pub record AreScopes (scopes : Scopes) : Type 0 where
      pub of : scopes.of ≡ all_scopes
      pub low : scopes.low ≡ given.low
      pub high : scopes.high ≡ given.high

    -- a refusal is the first one
    abbrev pub Explains : Fault → Type 0
    Explains f = IsFirstOf refusals f
