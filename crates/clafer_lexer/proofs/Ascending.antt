-- Laid tokens stand in the order of their places.
use Rattle.std.proofs.Common.{◌≡◌, ℕ, ◌+◌, ◌-◌, ◌≤◌, inl, inr, ⊎_elim, Bool, true, false, List, [], ◌∷◌, ◌++◌, length, take, drop, map, Option, Some, None, Result, Ok, Err, refl, sym, subst, ◌∙◌, arith, append_assoc, ◌==◌}
use Rattle.std.specs.Prelude.{fold, IsUtf8, slice_get, nat_lt, if◌then◌else◌}
use Rattle.std.specs.List.{position}
use Rattle.clf_base.specs.declared.fault.Span.{Span}
use Rattle.clf_base.specs.declared.fault.Refusal.{Refusal}
use Rattle.clf_tree.specs.declared.token.Token.{Token}
use Rattle.clf_tree.specs.declared.token.TokenKind.{TokenKind}
use Rattle.clf_tree.specs.declared.token.TokenKind.TheVariants as kinds
use Rattle.clafer_lexer.specs.declared.layout.Layout.{Layout}
use Rattle.clafer_lexer.specs.Bytes.{after_byte, continues_character}
use Rattle.clafer_lexer.specs.Places.{place, first_place, tab_stop}
use Rattle.clafer_lexer.specs.Cuts.{Cut, none, piece, piece_tokens, IsLexed}
use Rattle.clafer_lexer.specs.Layout.{Marked, mark, closed_to, marked_in, marked_from, marked, is_end, looks_at, marks_before, laid_token, layout_after, with_marks, prepend, laid_from, laid, no_layout}
use Rattle.clafer_lexer.specs.Order.{NotAfter, IsInOrder}
use Rattle.clafer_lexer.proofs.Boundaries.{front_is_utf8, place_by_bytes}
use Rattle.clafer_lexer.proofs.Cutting.{with_piece, place_behind}

-- ---- places

same_place : (a : Span) → NotAfter a a
same_place a = inr (refl, omega arith)

onward : (a c e : Span) → NotAfter a c → NotAfter c e → NotAfter a e
onward a c e h g =
    ⊎_elim
    (λ later. inl (⊎_elim (λ more. omega arith) (λ same. omega (arith, same.0)) g))
    (λ here. ⊎_elim (λ more. inl (omega (arith, here.0))) (λ same. inr (here.0 ∙ same.0, omega (arith, here.1, same.1))) g)
    h

tab_on : (column : ℕ) → column ≤ tab_stop column
tab_on column = omega arith

byte_on : (a : Span) (b : ℕ) → NotAfter a (after_byte a b)
byte_on a b = go (b == 10) (b == 9) (continues_character b)
  where
    go : (p q r : Bool) → NotAfter a (if p then record { line = a.line + 1; column = 1 } else (if q then record { line = a.line; column = tab_stop a.column } else (if r then a else record { line = a.line; column = a.column + 1 })))
    go true q r = inl (omega arith)
    go false true r = inr (refl, tab_on a.column)
    go false false true = same_place a
    go false false false = inr (refl, omega arith)

bytes_on : (a : Span) (bytes : List ℕ) → NotAfter a (fold after_byte a bytes)
bytes_on a [] = same_place a
bytes_on a (b ∷ bytes) = onward a (after_byte a b) (fold after_byte (after_byte a b) bytes) (byte_on a b) (bytes_on (after_byte a b) bytes)

-- ---- tokens

pub Ascends : Span → List Token → Type 0
Ascends at [] = Unit {0}
Ascends at (token ∷ tokens) = NotAfter at token.at × Ascends token.at tokens

from_earlier : (a c : Span) (tokens : List Token) → NotAfter a c → Ascends c tokens → Ascends a tokens
unfolding Ascends
from_earlier a c [] h r = tt
from_earlier a c (token ∷ tokens) h r = (onward a c token.at h r.0, r.1)

piece_on : (text : List ℕ) (offset n : ℕ) (front tokens : List Token) (kind : Option TokenKind) → IsUtf8 text → offset + n ≤ length text → Cut text 0 front offset →
    Cut text 0 (front ++ piece_tokens text offset kind n) (offset + n) → NotAfter (place text offset) (place text (offset + n))
piece_on text offset n front tokens kind utf8 within cut more =
    let start : place text offset ≡ fold after_byte first_place (take offset text) = place_by_bytes text offset (front_is_utf8 text offset front utf8 (omega arith) cut) in
    let end : place text (offset + n) ≡ fold after_byte (fold after_byte first_place (take offset text)) (take n (drop offset text)) =
    place_by_bytes text (offset + n) (front_is_utf8 text (offset + n) _ utf8 within more) ∙ place_behind text offset n in
    subst (λ p. NotAfter p (place text (offset + n))) (sym start) (subst (λ p. NotAfter (fold after_byte first_place (take offset text)) p) (sym end) (bytes_on (fold after_byte first_place (take offset text)) (take n (drop offset text))))

cut_within : (text : List ℕ) (tokens : List Token) (offset to : ℕ) → Cut text offset tokens to → offset ≤ to
cut_within text tokens offset to (none at) = omega arith
cut_within text tokens offset to (piece at n kind rest end is cut) = omega (arith, cut_within text rest (offset + n) to cut)

ascends_to : (text : List ℕ) (tokens : List Token) (offset to : ℕ) → Cut text offset tokens to → to ≤ length text → (front : List Token) → IsUtf8 text → Cut text 0 front offset → (last : List Token) →
    Ascends (place text to) last → Ascends (place text offset) (tokens ++ last)
unfolding Ascends
ascends_to text tokens offset to (none at) inside front utf8 before last r = r
ascends_to text tokens offset to (piece at n None rest end is cut) inside front utf8 before last r =
    let more = with_piece text 0 offset n front None before is in
    let ahead = cut_within text rest (offset + n) to cut in
    let on = piece_on text offset n front rest None utf8 (omega arith) before more in
    from_earlier (place text offset) (place text (offset + n)) (rest ++ last) on (ascends_to text rest (offset + n) to cut inside _ utf8 more last r)
ascends_to text tokens offset to (piece at n (Some kind) rest end is cut) inside front utf8 before last r =
    let more = with_piece text 0 offset n front (Some kind) before is in
    let ahead = cut_within text rest (offset + n) to cut in
    let on = piece_on text offset n front rest (Some kind) utf8 (omega arith) before more in
    (same_place (place text offset), from_earlier (place text offset) (place text (offset + n)) (rest ++ last) on (ascends_to text rest (offset + n) to cut inside _ utf8 more last r))

lexed_ascends : (text : List ℕ) (tokens : List Token) → IsLexed text tokens → Ascends (place text 0) tokens
unfolding Ascends
lexed_ascends text tokens h =
    subst (Ascends (place text 0)) (sym h.1.2)
    (ascends_to text h.1.0 0 (length text) h.1.1 (omega arith) [] h.0 (none 0) (piece_tokens text (length text) (Some kinds.End) 0) (same_place (place text (length text)), tt))

-- ---- marks

pub AllAt : Span → List Token → Type 0
AllAt at [] = Unit {0}
AllAt at (token ∷ tokens) = (token.at ≡ at) × AllAt at tokens

closing_at : (token : Token) (columns : List ℕ) → AllAt token.at (map (λ column. mark token kinds.Close) columns)
unfolding AllAt
closing_at token [] = tt
closing_at token (c ∷ columns) = (refl, closing_at token columns)

all_more : (at : Span) (marks : List Token) (token : Token) → AllAt at marks → token.at ≡ at → AllAt at (marks ++ token ∷ [])
unfolding AllAt
all_more at [] token h e = (e, tt)
all_more at (x ∷ marks) token h e = (h.0, all_more at marks token h.1 e)

AreAt : Span → Option Marked → Type 0
AreAt at None = Unit {0}
AreAt at (Some m) = AllAt at m.marks

marked_in_at : (token : Token) (columns : List ℕ) (o : Option ℕ) → AreAt token.at (marked_in token columns o)
unfolding AreAt
marked_in_at token columns None = tt
marked_in_at token columns (Some index) = all_more token.at _ (mark token kinds.Next) (closing_at token (drop (index + 1) columns)) refl

marked_from_at : (token : Token) (columns : List ℕ) (o : Option ℕ) → AreAt token.at (marked_from token columns o)
unfolding AreAt AllAt
marked_from_at token columns None = tt
marked_from_at token columns (Some innermost) = go (nat_lt innermost token.at.column)
  where
    go : (p : Bool) → AreAt token.at (if p then Some (record { marks = mark token kinds.Open ∷ []; columns = columns ++ token.at.column ∷ [] }) else marked_in token columns (position (λ column. column == token.at.column) columns))
    go true = (refl, tt)
    go false = marked_in_at token columns (position (λ column. column == token.at.column) columns)

marks_at : (layout : Layout) (token : Token) → AreAt token.at (marks_before layout token)
unfolding AreAt AllAt
marks_at layout token = go (is_end token.kind) (looks_at layout token)
  where
    go : (p q : Bool) → AreAt token.at (if p then Some (closed_to token layout.columns 1) else (if q then marked token layout.columns else Some (record { marks = []; columns = layout.columns })))
    go true q = closing_at token (drop 1 layout.columns)
    go false true = marked_from_at token layout.columns (slice_get layout.columns (length layout.columns - 1))
    go false false = tt

-- marks, and then tokens that go on
behind_marks : (at : Span) (marks : List Token) (tokens : List Token) → AllAt at marks → Ascends at tokens → Ascends at (marks ++ tokens)
unfolding Ascends AllAt
behind_marks at [] tokens h r = r
behind_marks at (x ∷ marks) tokens h r =
    (subst (NotAfter at) (sym h.0) (same_place at), subst (λ p. Ascends p (marks ++ tokens)) (sym h.0) (behind_marks at marks tokens h.1 r))

-- ---- laid tokens

AscendsOk : Span → Result (List Token) Refusal → Type 0
AscendsOk at (Ok out) = Ascends at out
AscendsOk at (Err refusal) = Unit {0}

laid_ascends : (tokens : List Token) (layout : Layout) (at : Span) → Ascends at tokens → AscendsOk at (laid_from layout tokens)
unfolding laid_from Ascends AscendsOk AllAt AreAt
laid_ascends [] layout at r = tt
laid_ascends (token ∷ tokens) layout at r =
    go (marks_before layout token) (marks_at layout token) (λ columns. laid_ascends tokens (layout_after layout columns token) token.at r.1)
  where
    prepended : (m : Marked) (rest : Result (List Token) Refusal) → AllAt token.at m.marks → AscendsOk token.at rest → AscendsOk at (prepend (m.marks ++ laid_token layout token ∷ []) rest)
    prepended m (Err refusal) h g = tt
    prepended m (Ok out) h g =
        from_earlier at token.at _ r.0 (subst (Ascends token.at) (sym (append_assoc m.marks (laid_token layout token ∷ []) out)) (behind_marks token.at m.marks (laid_token layout token ∷ out) h (same_place token.at, g)))

    go : (o : Option Marked) → AreAt token.at o → ((columns : List ℕ) → AscendsOk token.at (laid_from (layout_after layout columns token) tokens)) →
        AscendsOk at (with_marks layout token o (λ columns. laid_from (layout_after layout columns token) tokens))
    go None h g = tt
    go (Some m) h g = prepended m (laid_from (layout_after layout m.columns token) tokens) h (g m.columns)

next_to : (at : Span) (tokens : List Token) → Ascends at tokens → IsInOrder tokens
unfolding Ascends
next_to at tokens r [] rest token next e = (subst (Ascends at) e r).1.0
next_to at tokens r (x ∷ front) rest token next e = next_to x.at (front ++ token ∷ next ∷ rest) (subst (Ascends at) e r).1 front rest token next refl

pub laid_in_order : (text : List ℕ) (tokens out : List Token) → IsLexed text tokens → laid tokens ≡ Ok out → IsInOrder out
unfolding AscendsOk
laid_in_order text tokens out h e = next_to (place text 0) out (subst (AscendsOk (place text 0)) e (laid_ascends tokens no_layout (place text 0) (lexed_ascends text tokens h)))
