-- Whether the name tokens of a text are names.
use Rattle.std.specs.Prelude.{Bool, true, List}
use Rattle.std.specs.List.{list_all}
use Rattle.clf_tree.specs.declared.token.TokenKind.{TokenKind}
use Rattle.clf_tree.specs.declared.token.TokenKind.TheVariants as t
use Rattle.clf_tree.specs.Named.{is_name}
use Rattle.clafer_grammar.specs.Symbols.{Symbol}

abbrev pub is_right : TokenKind → Bool
is_right (t.Name name) = is_name name
is_right _ = true

abbrev pub has_right_kind : Symbol → Bool
has_right_kind symbol = is_right symbol.kind

-- whether each token that is a name has the bytes of one
abbrev pub have_names : List Symbol → Bool
have_names tokens = list_all has_right_kind tokens
