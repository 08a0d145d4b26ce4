-- The table of reasons is the one of the definition.
use Rattle.std.proofs.Common.{◌≡◌, ℕ, Bool, List, [], map, None, Some, refl, sym, ◌∙◌, ap}
use Rattle.std.specs.Prelude.{Option}
use Rattle.std.specs.Option.{option_map_or, option_map}
use Rattle.std.specs.Map.{lookup}
use Rattle.std.proofs.lemmas.Map.Made.{lookup-map_values}
use Rattle.front_report.specs.Refusals.{reasons}
use Rattle.front_report.specs.declared.refusals.TheConstants.{REASONS}

kept : {T : Type 0} (g : T → List ℕ) (found : Option T) → option_map_or g found [] ≡ option_map_or (λ t. t) (option_map g found) []
kept g None = refl
kept g (Some t) = refl

of_values : {T : Type 0} (g : T → List ℕ) (test : ℕ → Bool) (es : List (ℕ × T))
    → option_map_or g (lookup test es) [] ≡ option_map_or (λ t. t) (lookup test (map (λ e. (e.0, g e.1)) es)) []
of_values g test es = kept g (lookup test es) ∙ ap (λ o. option_map_or (λ t. t) o []) (sym (lookup-map_values g test es))

pub reasons_are_told : (test : ℕ → Bool)
    → option_map_or (λ text. text.now) (lookup test REASONS) [] ≡ option_map_or (λ t. t) (lookup test reasons) []
reasons_are_told test = of_values (λ text. text.now) test REASONS
