-- The name tokens of a text are names, and no more than its bytes.
use Rattle.std.proofs.Common.{◌≡◌, ℕ, zero, suc, ◌+◌, ◌-◌, ◌≤◌, Bool, true, false, List, [], ◌∷◌, ◌++◌, length, map, take, drop, Option, Some, None, Result, Ok, Err, refl, ap, subst, ◌∙◌, arith}
use Rattle.std.specs.Prelude.{is_none, if◌then◌else◌, slice_get, nat_lt, ◌==◌}
use Rattle.std.specs.List.{position}
use Rattle.std.proofs.lemmas.Bool.{and_parts, and_from}
use Rattle.clf_base.specs.declared.fault.Refusal.{Refusal}
use Rattle.clf_tree.specs.declared.token.Token.{Token}
use Rattle.clf_tree.specs.declared.token.Sign.{Sign}
use Rattle.clf_tree.specs.declared.token.Sign.TheVariants as s
use Rattle.clf_tree.specs.declared.token.TokenKind.{TokenKind}
use Rattle.clf_tree.specs.declared.token.TokenKind.TheVariants as t
use Rattle.clf_tree.specs.Spelling.{spelled_word}
use Rattle.clf_tree.specs.Named.{is_name}
use Rattle.clafer_lexer.specs.declared.layout.Bracket.{Bracket}
use Rattle.clafer_lexer.specs.declared.layout.Layout.{Layout}
use Rattle.clafer_lexer.specs.Cuts.{IsLexed}
use Rattle.clafer_lexer.specs.Layout.{Marked, is_between_items, kind_in, mark, closed_to, marked_in, marked_from, marked, is_end, looks_at, marks_before, laid_token, layout_after, with_marks, prepend, laid_from, laid, no_layout}
use Rattle.clafer_lexer.specs.Pieces.{is_name_like}
use Rattle.clafer_lexer.specs.Rows.{bytes_of, IsSpelled, IsRow}
use Rattle.clafer_grammar.specs.Symbols.{symbol, symbols}
use Rattle.written_modules.specs.Names.{is_right, has_right_kind, have_names}
use Rattle.written_modules.proofs.Tokens.{is_one, names_in}

-- ---- tokens of a text

-- the law of the lexer
abbrev pub StandInOrder : Type 0
StandInOrder = (text : List ℕ) (tokens : List Token) → IsLexed text tokens → IsRow text 0 tokens

right_kind : (kind : TokenKind) (bytes : List ℕ) → IsSpelled bytes kind → is_right kind ≡ true
right_kind (t.Name name) bytes h =
    let no_word : is_none (spelled_word bytes) ≡ true = ap is_none h.1 in
    ap is_name h.2 ∙ and_from (is_name_like bytes) (is_none (spelled_word bytes)) h.0 no_word
right_kind _ bytes h = refl

right_row : (text : List ℕ) (offset : ℕ) (tokens : List Token) → IsRow text offset tokens → have_names (symbols tokens) ≡ true
right_row text offset [] h = refl
right_row text offset (token ∷ tokens) h =
    and_from (is_right token.kind) (have_names (symbols tokens)) (right_kind token.kind (bytes_of text token) h.3) (right_row text token.to tokens h.4)

-- a name has a byte
some_byte : (from to : ℕ) (rest : List ℕ) → is_name_like (take (to - from) rest) ≡ true → 1 ≤ to - from
some_byte from to rest h = by_case (to - from) h
  where
    by_case : (n : ℕ) → is_name_like (take n rest) ≡ true → 1 ≤ n
    by_case zero g = (cc)
    by_case (suc n) g = omega arith

one_within : (kind : TokenKind) (text : List ℕ) (token : Token) → token.from ≤ token.to → IsSpelled (bytes_of text token) kind → token.from + is_one kind ≤ token.to
one_within (t.Name name) text token le h = let one = some_byte token.from token.to (drop token.from text) h.0 in omega (arith, le, one)
one_within _ text token le h = omega (arith, le)

few_row : (text : List ℕ) (offset : ℕ) (tokens : List Token) → offset ≤ length text → IsRow text offset tokens → names_in (symbols tokens) + offset ≤ length text
few_row text offset [] le h = omega (arith, le)
few_row text offset (token ∷ tokens) le h =
    let before = h.0 in
    let ordered = h.1 in
    let inside = h.2 in
    let rest = few_row text token.to tokens inside h.4 in
    let own = one_within token.kind text token ordered h.3 in
    omega (arith, before, own, rest)

-- ---- marks

-- no name is among them
record Bare (tokens : List Token) : Type 0 where
  right : have_names (symbols tokens) ≡ true
  none : names_in (symbols tokens) ≡ 0

bare_nothing : Bare []
bare_nothing = record { right = refl; none = refl }

bare_closed : (token : Token) (columns : List ℕ) → Bare (map (λ column. mark token t.Close) columns)
bare_closed token [] = bare_nothing
bare_closed token (c ∷ columns) = let rest = bare_closed token columns in let none = rest.none in record { right = rest.right; none = omega (arith, none) }

bare_two : (some others : List Token) → Bare some → Bare others → Bare (some ++ others)
bare_two [] others p q = q
bare_two (x ∷ some) others p q =
    let parts = and_parts (has_right_kind (symbol x)) (have_names (symbols some)) p.right in
    let none = p.none in
    let rest = bare_two some others (record { right = parts.1; none = omega (arith, none) }) q in
    let more = rest.none in
    record { right = and_from (has_right_kind (symbol x)) (have_names (symbols (some ++ others))) parts.0 rest.right; none = omega (arith, none, more) }

bare_one : (token : Token) (kind : TokenKind) → is_right kind ≡ true → is_one kind ≡ 0 → Bare (mark token kind ∷ [])
bare_one token kind right none = record { right = and_from (is_right kind) true right refl; none = omega (arith, none) }

AreBare : Option Marked → Type 0
AreBare None = Unit {0}
AreBare (Some m) = Bare m.marks

bare_in : (token : Token) (columns : List ℕ) (index : Option ℕ) → AreBare (marked_in token columns index)
unfolding AreBare
bare_in token columns None = tt
bare_in token columns (Some index) =
    bare_two (closed_to token columns (index + 1)).marks (mark token t.Next ∷ []) (bare_closed token (drop (index + 1) columns)) (bare_one token t.Next refl refl)

bare_if : (b : Bool) (one other : Option Marked) → AreBare one → AreBare other → AreBare (if b then one else other)
bare_if true one other p q = p
bare_if false one other p q = q

bare_from : (token : Token) (columns : List ℕ) (innermost : Option ℕ) → AreBare (marked_from token columns innermost)
unfolding AreBare
bare_from token columns None = bare_nothing
bare_from token columns (Some innermost) =
    bare_if (nat_lt innermost token.at.column) (Some (record { marks = mark token t.Open ∷ []; columns = columns ++ token.at.column ∷ [] })) (marked_in token columns (position (λ column. column == token.at.column) columns))
    (bare_one token t.Open refl refl) (bare_in token columns (position (λ column. column == token.at.column) columns))

bare_before : (layout : Layout) (token : Token) → AreBare (marks_before layout token)
unfolding AreBare
bare_before layout token =
    bare_if (is_end token.kind) (Some (closed_to token layout.columns 1)) (if looks_at layout token then marked token layout.columns else Some (record { marks = []; columns = layout.columns }))
    (bare_closed token (drop 1 layout.columns))
    (bare_if (looks_at layout token) (marked token layout.columns) (Some (record { marks = []; columns = layout.columns }))
    (bare_from token layout.columns (slice_get layout.columns (length layout.columns - 1))) bare_nothing)

-- ---- laid tokens

semicolon : (b : Bool) → (is_right (if b then t.Next else t.Sign s.Semicolon) ≡ true) × (is_one (if b then t.Next else t.Sign s.Semicolon) ≡ 0)
semicolon true = (refl, refl)
semicolon false = (refl, refl)

same_right : (innermost : Option Bracket) (kind : TokenKind) → is_right kind ≡ true → is_right (kind_in innermost kind) ≡ true
same_right innermost (t.Sign sign) h = sign_right sign
  where
    sign_right : (sign : Sign) → is_right (kind_in innermost (t.Sign sign)) ≡ true
    sign_right s.Semicolon = (semicolon (is_between_items innermost)).0
    sign_right _ = refl
same_right innermost _ h = h

same_one : (innermost : Option Bracket) (kind : TokenKind) → is_one (kind_in innermost kind) ≡ is_one kind
same_one innermost (t.Sign sign) = sign_one sign
  where
    sign_one : (sign : Sign) → is_one (kind_in innermost (t.Sign sign)) ≡ 0
    sign_one s.Semicolon = (semicolon (is_between_items innermost)).1
    sign_one _ = refl
same_one innermost _ = refl

-- laid tokens have the names of the tokens
record Named (n : ℕ) (out : List Token) : Type 0 where
  right : have_names (symbols out) ≡ true
  count : names_in (symbols out) ≡ n

NamedOk : ℕ → Result (List Token) Refusal → Type 0
NamedOk n (Ok out) = Named n out
NamedOk n (Err refusal) = Unit {0}

named_behind : (marks : List Token) (token : Token) (n : ℕ) (out : List Token) → Bare marks → is_right token.kind ≡ true → Named n out → Named (is_one token.kind + n) ((marks ++ token ∷ []) ++ out)
named_behind [] token n out bare h rest =
    let count = rest.count in
    record { right = and_from (is_right token.kind) (have_names (symbols out)) h rest.right; count = omega (arith, count) }
named_behind (x ∷ marks) token n out bare h rest =
    let parts = and_parts (has_right_kind (symbol x)) (have_names (symbols marks)) bare.right in
    let none = bare.none in
    let more = named_behind marks token n out (record { right = parts.1; none = omega (arith, none) }) h rest in
    let count = more.count in
    record { right = and_from (has_right_kind (symbol x)) (have_names (symbols ((marks ++ token ∷ []) ++ out))) parts.0 more.right; count = omega (arith, none, count) }

prepended : (marks : List Token) (token : Token) (n : ℕ) (rest : Result (List Token) Refusal) → Bare marks → is_right token.kind ≡ true → NamedOk n rest → NamedOk (is_one token.kind + n) (prepend (marks ++ token ∷ []) rest)
unfolding NamedOk
prepended marks token n (Ok out) bare h rest = named_behind marks token n out bare h rest
prepended marks token n (Err refusal) bare h rest = tt

laid_token_named : (layout : Layout) (token : Token) (n m : ℕ) (marks : List Token) (rest : Result (List Token) Refusal) → m ≡ is_one token.kind + n → Bare marks → is_right token.kind ≡ true → NamedOk n rest
    → NamedOk m (prepend (marks ++ laid_token layout token ∷ []) rest)
laid_token_named layout token n m marks rest is bare h named =
    let innermost = slice_get layout.brackets (length layout.brackets - 1) in
    let one = same_one innermost token.kind in
    let total : is_one (laid_token layout token).kind + n ≡ m = omega (arith, is, one) in
    subst (λ (k : ℕ). NamedOk k (prepend (marks ++ laid_token layout token ∷ []) rest)) total
    (prepended marks (laid_token layout token) n rest bare (same_right innermost token.kind h) named)

bare_is : (m : Marked) → AreBare (Some m) → Bare m.marks
unfolding AreBare
bare_is m bare = bare

named_from : (tokens : List Token) → have_names (symbols tokens) ≡ true → (layout : Layout) → NamedOk (names_in (symbols tokens)) (laid_from layout tokens)
unfolding laid_from NamedOk
named_from [] h layout = record { right = refl; count = refl }
named_from (token ∷ tokens) h layout =
    let parts = and_parts (is_right token.kind) (have_names (symbols tokens)) h in
    go parts.0 (marks_before layout token) (bare_before layout token) (λ columns. named_from tokens parts.1 (layout_after layout columns token))
  where
    go : is_right token.kind ≡ true → (o : Option Marked) → AreBare o → ((columns : List ℕ) → NamedOk (names_in (symbols tokens)) (laid_from (layout_after layout columns token) tokens)) →
        NamedOk (is_one token.kind + names_in (symbols tokens)) (with_marks layout token o (λ columns. laid_from (layout_after layout columns token) tokens))
    go right None bare each = tt
    go right (Some m) bare each =
        laid_token_named layout token (names_in (symbols tokens)) (is_one token.kind + names_in (symbols tokens)) m.marks (laid_from (layout_after layout m.columns token) tokens) refl
        (bare_is m bare) right (each m.columns)

laid_named : StandInOrder → (text : List ℕ) (tokens out : List Token) → IsLexed text tokens → laid tokens ≡ Ok out → Named (names_in (symbols tokens)) out
unfolding NamedOk
laid_named law text tokens out lexed is = subst (NamedOk (names_in (symbols tokens))) is (named_from tokens (right_row text 0 tokens (law text tokens lexed)) no_layout)

pub text_right : StandInOrder → (text : List ℕ) (tokens out : List Token) → IsLexed text tokens → laid tokens ≡ Ok out → have_names (symbols out) ≡ true
text_right law text tokens out lexed is = (laid_named law text tokens out lexed is).right

pub text_few : StandInOrder → (text : List ℕ) (tokens out : List Token) → IsLexed text tokens → laid tokens ≡ Ok out → names_in (symbols out) ≤ length text
text_few law text tokens out lexed is =
    let same = (laid_named law text tokens out lexed is).count in
    let few = few_row text 0 tokens (omega arith) (law text tokens lexed) in
    omega (arith, same, few)
