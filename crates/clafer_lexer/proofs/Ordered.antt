-- The tokens of a text stand in a row.
use Rattle.std.proofs.Common.{◌≡◌, ℕ, ◌+◌, ◌-◌, ◌≤◌, List, [], ◌∷◌, ◌++◌, length, take, drop, Some, None, subst, sym, arith, length-drop}
use Rattle.clf_tree.specs.declared.token.Token.{Token}
use Rattle.clf_tree.specs.declared.token.TokenKind.{TokenKind}
use Rattle.clf_tree.specs.declared.token.TokenKind.TheVariants as kinds
use Rattle.clafer_lexer.specs.Pieces.{Spells, IsToken}
use Rattle.clafer_lexer.specs.Cuts.{Cut, none, piece, piece_tokens, IsLexed}
use Rattle.clafer_lexer.specs.Rows.{IsSpelled, IsRow}

-- from an earlier offset on
earlier : (text : List ℕ) (a c : ℕ) (tokens : List Token) → a ≤ c → IsRow text c tokens → IsRow text a tokens
earlier text a c [] h r = tt
earlier text a c (token ∷ tokens) h r = (omega (arith, r.0), r.1, r.2, r.3, r.4)

spelled : (bytes : List ℕ) (kind : TokenKind) → Spells bytes kind → IsSpelled bytes kind
spelled bytes kinds.End h = absurd h
spelled bytes kind h = h

-- one token more
row_more : (text : List ℕ) (offset n : ℕ) (kind : TokenKind) (tokens : List Token) → IsToken (drop offset text) kind n → IsRow text (offset + n) tokens →
    IsRow text offset (piece_tokens text offset (Some kind) n ++ tokens)
row_more text offset n kind tokens token r =
    let left : length (drop offset text) ≡ length text - offset = length-drop offset text in
    let some = token.nonempty in
    let within = token.within in
    let size : offset + n - offset ≡ n = omega arith in
    (omega arith, omega arith, omega arith, spelled (take (offset + n - offset) (drop offset text)) kind (subst (λ m. Spells (take m (drop offset text)) kind) (sym size) token.spells), r)

row_before : (text : List ℕ) (tokens : List Token) (offset to : ℕ) → Cut text offset tokens to → (last : List Token) → IsRow text to last → IsRow text offset (tokens ++ last)
row_before text tokens offset to (none at) last r = r
row_before text tokens offset to (piece at n None rest end is cut) last r =
    earlier text offset (offset + n) (rest ++ last) (omega arith) (row_before text rest (offset + n) to cut last r)
row_before text tokens offset to (piece at n (Some kind) rest end is cut) last r =
    row_more text offset n kind (rest ++ last) is.2 (row_before text rest (offset + n) to cut last r)

pub lexed_row : (text : List ℕ) (tokens : List Token) → IsLexed text tokens → IsRow text 0 tokens
lexed_row text tokens h =
    let front = h.1.0 in
    subst (IsRow text 0) (sym h.1.2)
    (row_before text front 0 (length text) h.1.1 (piece_tokens text (length text) (Some kinds.End) 0) (omega arith, omega arith, omega arith, tt, tt))
