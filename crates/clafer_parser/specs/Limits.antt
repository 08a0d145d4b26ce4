-- The limits on open brackets and blocks and on tokens between two marks, and the first token that is refused.
use Rattle.std.specs.Prelude.{◌≡◌, ℕ, ◌+◌, ◌-◌, ◌==◌, ◌&&◌, not, if◌then◌else◌, Bool, true, false, List, [], ◌∷◌, ◌++◌, Option, Some, None}
use Rattle.std.specs.List.{fold}
use Rattle.clf_base.specs.declared.fault.Fault.{Fault}
use Rattle.clf_base.specs.declared.fault.Fault.TheVariants as fault
use Rattle.clf_base.specs.declared.fault.Refusal.{Refusal}
use Rattle.clf_base.specs.declared.fault.Span.{Span}
use Rattle.clf_tree.specs.declared.token.Sign.TheVariants as s
use Rattle.clf_tree.specs.declared.token.Token.{Token}
use Rattle.clf_tree.specs.declared.token.Word.TheVariants as w
use Rattle.clf_tree.specs.declared.token.TokenKind.{TokenKind}
use Rattle.clf_tree.specs.declared.token.TokenKind.TheVariants as t
use Rattle.clafer_grammar.specs.Symbols.{Symbol}
use Rattle.clafer_grammar.specs.Modules.{BeginsModule}

-- ---- brackets and blocks

abbrev pub opens : TokenKind → Bool
opens t.Open = true
opens (t.Sign s.BracketOpen) = true
opens (t.Sign s.ParenOpen) = true
opens (t.Sign s.GoalOpen) = true
opens _ = false

abbrev pub closes : TokenKind → Bool
closes t.Close = true
closes (t.Sign s.BracketClose) = true
closes (t.Sign s.ParenClose) = true
closes (t.Sign s.GoalClose) = true
closes _ = false

abbrev pub depth_after : ℕ → Symbol → ℕ
depth_after depth token = if opens token.kind then depth + 1 else (if closes token.kind then depth - 1 else depth)

-- how many brackets and blocks are open behind some tokens; a closing one with none open changes nothing
abbrev pub depth_of : List Symbol → ℕ
depth_of tokens = fold depth_after 0 tokens

-- ---- marks

abbrev pub is_mark : TokenKind → Bool
is_mark t.Open = true
is_mark t.Close = true
is_mark t.Next = true
is_mark (t.Sign s.BracketOpen) = true
is_mark (t.Sign s.BracketClose) = true
is_mark (t.Sign s.GoalOpen) = true
is_mark (t.Sign s.GoalClose) = true
is_mark _ = false

abbrev pub is_end : TokenKind → Bool
is_end t.End = true
is_end _ = false

abbrev pub since_after : ℕ → Symbol → ℕ
since_after since token = if is_mark token.kind then 0 else (if is_end token.kind then since else since + 1)

-- how many tokens stand behind the last mark, or in all where there is none; the end isn't counted
abbrev pub since_of : List Symbol → ℕ
since_of tokens = fold since_after 0 tokens

-- ---- refusals

-- The value of the limit that a token goes over, or 0: it opens the 65th bracket or block, or is the 1,001st token behind a mark.
abbrev pub over : ℕ → ℕ → TokenKind → ℕ
over depth since kind =
    if opens kind && (depth == 64) then 65
    else (if not (is_mark kind) && (not (is_end kind) && (since == 1000)) then 1001 else 0)

-- the same behind some tokens
abbrev pub over_behind : List Symbol → TokenKind → ℕ
over_behind before kind = over (depth_of before) (since_of before) kind

-- words of the language that models don't use
abbrev pub is_left_out : TokenKind → Bool
is_left_out (t.Word w.Assert) = true
is_left_out (t.Word w.Clafer) = true
is_left_out (t.Word w.Double) = true
is_left_out (t.Word w.Product) = true
is_left_out (t.Word w.Real) = true
is_left_out (t.Word w.String) = true
is_left_out _ = false

abbrev pub refusal : ℕ → Span → ℕ → Refusal
refusal code at value = record { code = code; at = at; value = value }

-- A token behind others is within the limits and is no word that is left out.
pub record IsKept (before : List Symbol) (token : Symbol) : Type 0 where
  pub within : over_behind before token.kind ≡ 0
  pub used : is_left_out token.kind ≡ false

-- Each token is kept, and goes on with what begins a module.
pub data AreFine : List Symbol → Type 0 where
  none : AreFine []
  more : {before : List Symbol} (token : Symbol) → AreFine before → IsKept before token → BeginsModule (before ++ token ∷ []) → AreFine (before ++ token ∷ [])

-- Tokens behind which no refusal is certain yet. They are fine; or the first with which no module goes on stands at this place,
-- and so do all behind it, and each is kept. A mark stands at the place of the token that caused it.
pub data Passes : List Symbol → Option Span → Type 0 where
  fine : {before : List Symbol} → AreFine before → Passes before None
  stuck : {before : List Symbol} (token : Symbol) → AreFine before → IsKept before token → (BeginsModule (before ++ token ∷ []) → ⊥) →
      Passes (before ++ token ∷ []) (Some token.at)
  same : {before : List Symbol} (token : Symbol) → Passes before (Some token.at) → IsKept before token → Passes (before ++ token ∷ []) (Some token.at)

-- no token before was refused at another place
abbrev pub MayStand : Option Span → Span → Type 0
MayStand None at = Unit {0}
MayStand (Some place) at = at ≡ place

-- the next token, where there is one, stands at another place
abbrev pub GoesElsewhere : List Symbol → Span → Type 0
GoesElsewhere [] place = Unit {0}
GoesElsewhere (token ∷ _) place = token.at ≡ place → ⊥

-- The refusal of the first place at which a token is refused: one above a limit for that, else a word that is left out for
-- that, and else the first token with which no module goes on.
pub data IsFirstRefusal : List Symbol → Refusal → Type 0 where
  too_deep : {before : List Symbol} {place : Option Span} (token : Symbol) (after : List Symbol) → Passes before place → MayStand place token.at →
      over_behind before token.kind ≡ 65 → IsFirstRefusal (before ++ token ∷ after) (refusal 41 token.at 65)
  too_long : {before : List Symbol} {place : Option Span} (token : Symbol) (after : List Symbol) → Passes before place → MayStand place token.at →
      over_behind before token.kind ≡ 1001 → IsFirstRefusal (before ++ token ∷ after) (refusal 41 token.at 1001)
  left_out : {before : List Symbol} {place : Option Span} (token : Symbol) (after : List Symbol) → Passes before place → MayStand place token.at →
      over_behind before token.kind ≡ 0 → is_left_out token.kind ≡ true → IsFirstRefusal (before ++ token ∷ after) (refusal 42 token.at 0)
  unexpected : {before : List Symbol} {at : Span} (after : List Symbol) → Passes before (Some at) → GoesElsewhere after at →
      IsFirstRefusal (before ++ after) (refusal 40 at 0)

-- Want of memory is free.
abbrev pub WhenRefused : Fault → (Refusal → Type 0) → Type 0
WhenRefused (fault.Refused why) p = p why
WhenRefused fault.NoMemory p = Unit {0}

-- The last token is the end.
abbrev pub IsEnded : List Token → Type 0
IsEnded tokens = (front : List Token) × ((last : Token) × (tokens ≡ front ++ last ∷ []) × (last.kind ≡ t.End))
