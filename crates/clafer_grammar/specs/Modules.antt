-- Which tokens spell the items of a body and a whole module, and which begin them.
use Rattle.std.specs.Prelude.{◌≡◌, ◌≢◌, ℕ, Bool, true, false, List, [], ◌∷◌, ◌++◌, Option, Some, None}
use Rattle.clf_base.specs.declared.fault.Span.{Span}
use Rattle.clf_tree.specs.declared.token.Sign.TheVariants as s
use Rattle.clf_tree.specs.declared.token.Title.{Title}
use Rattle.clf_tree.specs.declared.token.Word.TheVariants as w
use Rattle.clf_tree.specs.declared.token.TokenKind.{TokenKind}
use Rattle.clf_tree.specs.declared.token.TokenKind.TheVariants as t
use Rattle.clf_tree.specs.declared.expr.Expr.{Expr}
use Rattle.clf_tree.specs.declared.module.Interval.{Interval}
use Rattle.clf_tree.specs.declared.module.Start.{Start}
use Rattle.clf_tree.specs.declared.module.Item.{Item}
use Rattle.clf_tree.specs.declared.module.Item.TheVariants as i
use Rattle.clafer_grammar.specs.declared.heads.Head.{Head}
use Rattle.clafer_grammar.specs.Symbols.{Symbol, tok}
use Rattle.clafer_grammar.specs.Trees.{title, clafer, started}
use Rattle.clafer_grammar.specs.Expressions.{Spells, Begins}
use Rattle.clafer_grammar.specs.Declarations.{SpellsHead, BeginsHead}

-- ---- brackets

-- the first token, where there is one, is no minus
abbrev pub NoMinus : List Symbol → Type 0
NoMinus [] = Unit {0}
NoMinus (first ∷ _) = first.kind ≢ t.Sign s.Minus

-- The tokens spell these expressions, of which none begins with a minus.
pub data SpellsMore : List Symbol → List Expr → Type 0 where
  none : SpellsMore [] []
  more : {ts us : List Symbol} {x : Expr} {xs : List Expr} →
      NoMinus ts → Spells 0 ts x → SpellsMore us xs → SpellsMore (ts ++ us) (x ∷ xs)

pub data BeginsMore : List Symbol → Type 0 where
  part : {ts : List Symbol} → NoMinus ts → Begins 0 ts → BeginsMore ts
  more : {ts us : List Symbol} {x : Expr} → NoMinus ts → Spells 0 ts x → BeginsMore us → BeginsMore (ts ++ us)

-- ---- enums

-- The tokens spell members, with `|` between two.
pub data SpellsMembers : List Symbol → List Title → Type 0 where
  one : {at : Span} {n : List ℕ} → SpellsMembers (tok (t.Name n) at ∷ []) (title n at ∷ [])
  more : (z at : Span) (n : List ℕ) {ts : List Symbol} {members : List Title} →
      SpellsMembers ts members → SpellsMembers (ts ++ tok (t.Sign s.Bar) z ∷ tok (t.Name n) at ∷ []) (members ++ title n at ∷ [])

-- ---- goals

-- whether a word asks for the least value
abbrev pub least_of : TokenKind → Option Bool
least_of (t.Word w.Min) = Some true
least_of (t.Word w.Minimize) = Some true
least_of (t.Word w.Max) = Some false
least_of (t.Word w.Maximize) = Some false
least_of _ = None

-- ---- clafers

-- the expression of a clafer, behind its head
pub data SpellsStart : List Symbol → Option Start → Type 0 where
  none : SpellsStart [] None
  start : {at : Span} {ts : List Symbol} {x : Expr} → Spells 0 ts x → SpellsStart (tok (t.Sign s.Equal) at ∷ ts) (started at x)

-- What a clafer ends with, if it has no block.
pub data Ending : Type 0 where
  free : Ending
  -- its name, super or target
  bare : Ending
  -- its expression
  valued : Ending

abbrev pub ending_of : Option Interval → Ending
ending_of None = bare
ending_of (Some _) = free

abbrev pub ending : Head → Option Start → Ending
ending h None = ending_of h.times
ending h (Some _) = valued

-- A clafer that ends with its name, super or target isn't directly followed by a number,
-- and one that ends with its expression isn't directly followed by `xor`.
abbrev pub MayFollow : Ending → TokenKind → Type 0
MayFollow bare (t.Number _) = ⊥
MayFollow valued (t.Word w.Xor) = ⊥
MayFollow _ _ = Unit {0}

abbrev pub Follows : Ending → List Symbol → Type 0
Follows end [] = Unit {0}
Follows end (first ∷ _) = MayFollow end first.kind

-- ---- items

-- The tokens spell the items of a body.
pub data SpellsItems : List Symbol → List Item → Type 0 where
  none : SpellsItems [] []
  next : {at : Span} {ts : List Symbol} {xs : List Item} → SpellsItems ts xs → SpellsItems (tok t.Next at ∷ ts) xs
  leaf : {ts us vs : List Symbol} {h : Head} {start : Option Start} {xs : List Item} →
      SpellsHead ts h → SpellsStart us start → Follows (ending h start) vs → SpellsItems vs xs →
      SpellsItems (ts ++ (us ++ vs)) (clafer h start [] ∷ xs)
  block : (a z : Span) {ts us ws vs : List Symbol} {h : Head} {start : Option Start} {inner xs : List Item} →
      SpellsHead ts h → SpellsStart us start → SpellsItems ws inner → SpellsItems vs xs →
      SpellsItems (ts ++ (us ++ tok t.Open a ∷ (ws ++ tok t.Close z ∷ vs))) (clafer h start inner ∷ xs)
  enumeration : {at a z : Span} {n : List ℕ} {ts vs : List Symbol} {members : List Title} {xs : List Item} →
      SpellsMembers ts members → SpellsItems vs xs →
      SpellsItems (tok (t.Word w.Enum) at ∷ tok (t.Name n) a ∷ tok (t.Sign s.Equal) z ∷ (ts ++ vs)) (i.Enum at (title n a) members ∷ xs)
  bracket : (z : Span) {at : Span} {ts us vs : List Symbol} {first : Expr} {parts : List Expr} {xs : List Item} →
      Spells 0 ts first → SpellsMore us parts → SpellsItems vs xs →
      SpellsItems (tok (t.Sign s.BracketOpen) at ∷ (ts ++ (us ++ tok (t.Sign s.BracketClose) z ∷ vs))) (i.Constraint at (first ∷ parts) ∷ xs)
  goal : (z : Span) {at a : Span} {kind : TokenKind} {least : Bool} {ts vs : List Symbol} {x : Expr} {xs : List Item} →
      least_of kind ≡ Some least → Spells 0 ts x → SpellsItems vs xs →
      SpellsItems (tok (t.Sign s.GoalOpen) at ∷ tok kind a ∷ (ts ++ tok (t.Sign s.GoalClose) z ∷ vs)) (i.Goal at least x ∷ xs)

-- The tokens begin the items of a body.
pub data BeginsItems : List Symbol → Type 0 where
  none : BeginsItems []
  next : {at : Span} {ts : List Symbol} → BeginsItems ts → BeginsItems (tok t.Next at ∷ ts)
  -- whole items, and then what begins items
  leaf : {ts us vs : List Symbol} {h : Head} {start : Option Start} →
      SpellsHead ts h → SpellsStart us start → Follows (ending h start) vs → BeginsItems vs → BeginsItems (ts ++ (us ++ vs))
  block : (a z : Span) {ts us ws vs : List Symbol} {h : Head} {start : Option Start} {inner : List Item} →
      SpellsHead ts h → SpellsStart us start → SpellsItems ws inner → BeginsItems vs →
      BeginsItems (ts ++ (us ++ tok t.Open a ∷ (ws ++ tok t.Close z ∷ vs)))
  enumeration : {at a z : Span} {n : List ℕ} {ts vs : List Symbol} {members : List Title} →
      SpellsMembers ts members → BeginsItems vs →
      BeginsItems (tok (t.Word w.Enum) at ∷ tok (t.Name n) a ∷ tok (t.Sign s.Equal) z ∷ (ts ++ vs))
  bracket : (z : Span) {at : Span} {ts us vs : List Symbol} {first : Expr} {parts : List Expr} →
      Spells 0 ts first → SpellsMore us parts → BeginsItems vs →
      BeginsItems (tok (t.Sign s.BracketOpen) at ∷ (ts ++ (us ++ tok (t.Sign s.BracketClose) z ∷ vs)))
  goal : (z : Span) {at a : Span} {kind : TokenKind} {least : Bool} {ts vs : List Symbol} {x : Expr} →
      least_of kind ≡ Some least → Spells 0 ts x → BeginsItems vs →
      BeginsItems (tok (t.Sign s.GoalOpen) at ∷ tok kind a ∷ (ts ++ tok (t.Sign s.GoalClose) z ∷ vs))
  -- an item that isn't whole
  head : {ts : List Symbol} → BeginsHead ts → BeginsItems ts
  start : (at : Span) {ts us : List Symbol} {h : Head} → SpellsHead ts h → Begins 0 us → BeginsItems (ts ++ tok (t.Sign s.Equal) at ∷ us)
  body : (a : Span) {ts us ws : List Symbol} {h : Head} {start : Option Start} →
      SpellsHead ts h → SpellsStart us start → BeginsItems ws → BeginsItems (ts ++ (us ++ tok t.Open a ∷ ws))
  enum_word : {at : Span} → BeginsItems (tok (t.Word w.Enum) at ∷ [])
  enum_title : {at a : Span} {n : List ℕ} → BeginsItems (tok (t.Word w.Enum) at ∷ tok (t.Name n) a ∷ [])
  enum_sign : {at a z : Span} {n : List ℕ} → BeginsItems (tok (t.Word w.Enum) at ∷ tok (t.Name n) a ∷ tok (t.Sign s.Equal) z ∷ [])
  member : (b : Span) {at a z : Span} {n : List ℕ} {ts : List Symbol} {members : List Title} → SpellsMembers ts members →
      BeginsItems (tok (t.Word w.Enum) at ∷ tok (t.Name n) a ∷ tok (t.Sign s.Equal) z ∷ (ts ++ tok (t.Sign s.Bar) b ∷ []))
  first : {at : Span} {ts : List Symbol} → Begins 0 ts → BeginsItems (tok (t.Sign s.BracketOpen) at ∷ ts)
  parts : {at : Span} {ts us : List Symbol} {first : Expr} → Spells 0 ts first → BeginsMore us → BeginsItems (tok (t.Sign s.BracketOpen) at ∷ (ts ++ us))
  goal_sign : {at : Span} → BeginsItems (tok (t.Sign s.GoalOpen) at ∷ [])
  goal_word : {at a : Span} {kind : TokenKind} {least : Bool} {ts : List Symbol} → least_of kind ≡ Some least → Begins 0 ts →
      BeginsItems (tok (t.Sign s.GoalOpen) at ∷ tok kind a ∷ ts)

-- ---- modules

pub data SpellsModule : List Symbol → List Item → Type 0 where
  module_of : (at : Span) {ts : List Symbol} {xs : List Item} → SpellsItems ts xs → SpellsModule (ts ++ tok t.End at ∷ []) xs

pub data BeginsModule : List Symbol → Type 0 where
  whole : {ts : List Symbol} {xs : List Item} → SpellsModule ts xs → BeginsModule ts
  items : {ts : List Symbol} → BeginsItems ts → BeginsModule ts
