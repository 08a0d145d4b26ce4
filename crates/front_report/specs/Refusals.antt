-- The line that tells a refusal.
use Rattle.std.specs.Prelude.{ℕ, ◌+◌, ◌/◌, ◌%◌, ◌==◌, List, [], ◌∷◌, ◌++◌, codes, decimal}
use Rattle.std.specs.Option.{option_map_or}
use Rattle.std.specs.Map.{lookup}
use Rattle.clf_base.specs.declared.fault.Refusal.{Refusal}
use Rattle.clf_base.specs.declared.fault.Span.{Span}

-- what is wrong, by its code
abbrev pub reasons : List (ℕ × List ℕ)
reasons =
    (10, codes "text too long") ∷
    (11, codes "text is not UTF-8") ∷
    (20, codes "no token") ∷
    (21, codes "comment is not closed") ∷
    (22, codes "literal too large") ∷
    (30, codes "column of no open block") ∷
    (40, codes "unexpected token") ∷
    (41, codes "nested too deep") ∷
    (42, codes "word is left out") ∷
    (50, codes "low bound above high") ∷
    (51, codes "name used twice") ∷
    (52, codes "abstract clafer is nested") ∷
    (53, codes "only at top level") ∷
    (60, codes "super is not abstract") ∷
    (61, codes "inheritance cycle") ∷
    (62, codes "name not found") ∷
    (63, codes "name is ambiguous") ∷
    (64, codes "clafer contains itself") ∷
    (65, codes "second reference") ∷
    (66, codes "no such node") ∷
    (67, codes "target not found") ∷
    (68, codes "inherited name used again") ∷
    (70, codes "truth value expected") ∷
    (71, codes "integer expected") ∷
    (72, codes "nodes expected") ∷
    (73, codes "no integer target") ∷
    (74, codes "operands share no clafer") ∷
    (75, codes "no single reference") ∷
    (80, codes "scope of unknown clafer") ∷
    (81, codes "scope of abstract clafer") ∷
    (82, codes "scope given twice") ∷
    (83, codes "scope above 256") ∷
    (84, codes "scopes above 2048") ∷
    (85, codes "integer range refused") ∷
    (90, codes "integer interval too wide") ∷
    (91, codes "model too heavy") ∷
    (92, codes "too many goals") ∷
    []

-- what is wrong, nothing where no refusal has the code
unfoldable pub reason : ℕ → List ℕ
reason code = option_map_or (λ text. text) (lookup (λ other. other == code) reasons) []

-- a code below 1000 in three digits
abbrev pub three_digits : ℕ → List ℕ
three_digits code = (48 + code / 100 % 10) ∷ (48 + code / 10 % 10) ∷ (48 + code % 10) ∷ []

-- a line and a column of a text
abbrev pub place_text : Span → List ℕ
place_text at = decimal at.line ++ codes ":" ++ decimal at.column

-- the code, the place, the value, and what is wrong
unfoldable pub error_line : Refusal → List ℕ
error_line refusal =
    codes "error E" ++ three_digits refusal.code ++ codes " " ++ place_text refusal.at
    ++ codes " " ++ decimal refusal.value ++ codes " " ++ reason refusal.code ++ codes "\n"

-- a refusal at no place
abbrev pub nowhere : ℕ → ℕ → Refusal
nowhere code value = record { code = code; at = record { line = 0; column = 0 }; value = value }
