-- Tokens in the order of a text, each with its own bytes.
use Rattle.std.specs.Prelude.{ℕ, ◌-◌, ◌≤◌, List, [], ◌∷◌, length, take, drop}
use Rattle.clf_tree.specs.declared.token.Token.{Token}
use Rattle.clf_tree.specs.declared.token.TokenKind.{TokenKind}
use Rattle.clf_tree.specs.declared.token.TokenKind.TheVariants.{End}
use Rattle.clafer_lexer.specs.Pieces.{Spells}

-- the bytes of a token
abbrev pub bytes_of : List ℕ → Token → List ℕ
bytes_of text token = take (token.to - token.from) (drop token.from text)

-- the bytes spell the token, which is no End
abbrev pub IsSpelled : List ℕ → TokenKind → Type 0
IsSpelled bytes End = Unit {0}
IsSpelled bytes kind = Spells bytes kind

-- From an offset on the tokens follow each other, none over the next, and each is spelled by its bytes of the text.
abbrev pub IsRow : List ℕ → ℕ → List Token → Type 0
IsRow text offset [] = Unit {0}
IsRow text offset (token ∷ tokens) = (offset ≤ token.from) × (token.from ≤ token.to) × (token.to ≤ length text) × IsSpelled (bytes_of text token) token.kind × IsRow text token.to tokens
