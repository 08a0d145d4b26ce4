-- Places in the order of a text.
use Rattle.std.specs.Prelude.{◌≡◌, ◌<◌, ◌≤◌, ◌⊎◌, List, [], ◌∷◌, ◌++◌}
use Rattle.clf_base.specs.declared.fault.Span.{Span}
use Rattle.clf_tree.specs.declared.token.Token.{Token}
use Rattle.clf_tree.specs.declared.token.TokenKind.TheVariants.{End}

-- the other place is the same or a later one
abbrev pub NotAfter : Span → Span → Type 0
NotAfter at other = (at.line < other.line) ⊎ ((at.line ≡ other.line) × (at.column ≤ other.column))

-- of two tokens next to each other, none stands at an earlier place than the one before it
abbrev pub IsInOrder : List Token → Type 0
IsInOrder tokens = (front rest : List Token) (token next : Token) → tokens ≡ front ++ token ∷ next ∷ rest → NotAfter token.at next.at

-- the last token is End
abbrev pub IsEnded : List Token → Type 0
IsEnded tokens = (front : List Token) × ((last : Token) × (tokens ≡ front ++ last ∷ []) × (last.kind ≡ End))
