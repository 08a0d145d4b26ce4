-- The reader at one token.
use Rattle.std.specs.Prelude.{◌≡◌, ◌≤◌, List, ℕ, true, false, Option, Some, None}
use Rattle.clf_base.specs.declared.fault.Refusal.{Refusal}
use Rattle.clf_base.specs.declared.fault.Span.{Span}
use Rattle.clf_tree.specs.declared.module.Item.{Item}
use Rattle.clafer_grammar.specs.declared.machine.Mode.{Mode}
use Rattle.clafer_grammar.specs.declared.machine.Mode.TheVariants as m
use Rattle.clafer_grammar.specs.Symbols.{Symbol}
use Rattle.clafer_grammar.specs.Machine.{State, Step, step}
use Rattle.clafer_parser.specs.Limits.{depth_after, since_after, over, is_left_out, refusal, MayStand}
use Rattle.clafer_parser.specs.declared.reading.Progress.{Progress}
use Rattle.clafer_parser.specs.declared.reading.Progress.TheVariants as p
use Rattle.clafer_parser.specs.declared.reading.Reader.{Reader}

abbrev pub reader : Progress → ℕ → ℕ → Reader
reader progress depth since = record { progress = progress; depth = depth; since = since }

-- the place of the first token with which no module goes on
abbrev pub stuck_at : Progress → Option Span
stuck_at (p.Going state) = None
stuck_at (p.Stuck at) = Some at

-- with the token a module goes on, or none does, or none has since a token of the same place
pub data Moves : Progress → Symbol → Progress → Type 0 where
  goes : {state next : State} {token : Symbol} → ◌≡◌ {A = Step} (step state token) (Some next) → Moves (p.Going state) token (p.Going next)
  stops : {state : State} {token : Symbol} → ◌≡◌ {A = Step} (step state token) None → Moves (p.Going state) token (p.Stuck token.at)
  stays : {token : Symbol} → Moves (p.Stuck token.at) token (p.Stuck token.at)

-- the reader goes on behind the token
pub record Advances (reader : Reader) (token : Symbol) (next : Reader) : Type 0 where
  pub moves : Moves reader.progress token next.progress
  pub depth : next.depth ≡ depth_after reader.depth token
  pub since : next.since ≡ since_after reader.since token
  pub within : over reader.depth reader.since token.kind ≡ 0
  pub used : is_left_out token.kind ≡ false
  pub depth_low : next.depth ≤ 64
  pub since_low : next.since ≤ 1000

-- why it doesn't go on
pub data Stops : Reader → Symbol → Refusal → Type 0 where
  too_deep : {reader : Reader} {token : Symbol} → MayStand (stuck_at reader.progress) token.at → over reader.depth reader.since token.kind ≡ 65 →
      Stops reader token (refusal 41 token.at 65)
  too_long : {reader : Reader} {token : Symbol} → MayStand (stuck_at reader.progress) token.at → over reader.depth reader.since token.kind ≡ 1001 →
      Stops reader token (refusal 41 token.at 1001)
  left_out : {reader : Reader} {token : Symbol} → MayStand (stuck_at reader.progress) token.at → over reader.depth reader.since token.kind ≡ 0 →
      is_left_out token.kind ≡ true → Stops reader token (refusal 42 token.at 0)
  unexpected : {reader : Reader} {token : Symbol} {at : Span} → stuck_at reader.progress ≡ Some at → (token.at ≡ at → ⊥) → Stops reader token (refusal 40 at 0)

-- all items are read
abbrev pub IsDone : Mode → Type 0
IsDone mode = (items : List Item) × (mode ≡ m.Done items)
