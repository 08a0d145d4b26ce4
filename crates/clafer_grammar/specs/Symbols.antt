-- What the grammar sees of tokens.
use Rattle.std.specs.Prelude.{List, map}
use Rattle.clf_base.specs.declared.fault.Span.{Span}
use Rattle.clf_tree.specs.declared.token.Token.{Token}
use Rattle.clf_tree.specs.declared.token.TokenKind.{TokenKind}

-- a token without its bytes
pub record Symbol : Type 0 where
  pub kind : TokenKind
  pub at : Span

abbrev pub tok : TokenKind → Span → Symbol
tok kind at = record { kind = kind; at = at }

abbrev pub symbol : Token → Symbol
symbol token = tok token.kind token.at

abbrev pub symbols : List Token → List Symbol
symbols tokens = map symbol tokens
