-- Which tokens spell the head of a clafer, and which begin one.
use Rattle.std.specs.Prelude.{◌≡◌, ℕ, Bool, true, false, List, [], ◌∷◌, ◌++◌, Option, Some, None}
use Rattle.clf_base.specs.declared.fault.Span.{Span}
use Rattle.clf_tree.specs.declared.token.Sign.TheVariants as s
use Rattle.clf_tree.specs.declared.token.Title.{Title}
use Rattle.clf_tree.specs.declared.token.Word.TheVariants as w
use Rattle.clf_tree.specs.declared.token.TokenKind.{TokenKind}
use Rattle.clf_tree.specs.declared.token.TokenKind.TheVariants as t
use Rattle.clf_tree.specs.declared.module.Interval.{Interval}
use Rattle.clf_tree.specs.declared.module.Pointer.{Pointer}
use Rattle.clafer_grammar.specs.declared.heads.Head.{Head}
use Rattle.clafer_grammar.specs.Symbols.{Symbol, tok}
use Rattle.clafer_grammar.specs.Trees.{title}

abbrev pub interval : ℕ → Option ℕ → Interval
interval low high = record { low = low; high = high }

abbrev pub pointer : Span → Bool → Option Title → Pointer
pointer at bag to = record { at = at; bag = bag; to = to }

-- ---- the parts of a head

-- `abstract`, where it stands
abbrev pub abstract_part : Bool → Span → List Symbol
abstract_part true at = tok (t.Word w.Abstract) at ∷ []
abstract_part false at = []

-- the group that a word names
abbrev pub group_of : TokenKind → Option Interval
group_of (t.Word w.Xor) = Some (interval 1 (Some 1))
group_of (t.Word w.Or) = Some (interval 1 None)
group_of (t.Word w.Mux) = Some (interval 0 (Some 1))
group_of (t.Word w.Opt) = Some (interval 0 None)
group_of _ = None

-- the upper bound behind `..`: a number, or `*` for any number
abbrev pub bound_of : TokenKind → Option (Option ℕ)
bound_of (t.Number high) = Some (Some high)
bound_of (t.Sign s.Star) = Some None
bound_of _ = None

pub data SpellsGroup : List Symbol → Option Interval → Type 0 where
  none : SpellsGroup [] None
  word : {at : Span} {kind : TokenKind} {group : Interval} → group_of kind ≡ Some group → SpellsGroup (tok kind at ∷ []) (Some group)
  range : {at d z : Span} {low : ℕ} {kind : TokenKind} {high : Option ℕ} → bound_of kind ≡ Some high →
      SpellsGroup (tok (t.Number low) at ∷ tok (t.Sign s.DotDot) d ∷ tok kind z ∷ []) (Some (interval low high))

-- the super
pub data SpellsAbove : List Symbol → Option Title → Type 0 where
  none : SpellsAbove [] None
  super : {c at : Span} {n : List ℕ} → SpellsAbove (tok (t.Sign s.Colon) c ∷ tok (t.Name n) at ∷ []) (Some (title n at))

-- whether an arrow is that of a bag
abbrev pub bag_of : TokenKind → Option Bool
bag_of (t.Sign s.Arrow) = Some false
bag_of (t.Sign s.BagArrow) = Some true
bag_of _ = None

-- what a reference goes to: the clafer of a name, or integers
abbrev pub target_of : TokenKind → Span → Option (Option Title)
target_of (t.Name n) at = Some (Some (title n at))
target_of (t.Word w.Int) at = Some None
target_of (t.Word w.Integer) at = Some None
target_of _ at = None

-- the reference, at the place of its arrow
pub data SpellsReference : List Symbol → Option Pointer → Type 0 where
  none : SpellsReference [] None
  arrow : {a z : Span} {arrow kind : TokenKind} {bag : Bool} {to : Option Title} → bag_of arrow ≡ Some bag → target_of kind z ≡ Some to →
      SpellsReference (tok arrow a ∷ tok kind z ∷ []) (Some (pointer a bag to))

-- the multiplicity that a sign names
abbrev pub times_of : TokenKind → Option Interval
times_of (t.Sign s.Question) = Some (interval 0 (Some 1))
times_of (t.Sign s.Star) = Some (interval 0 None)
times_of (t.Sign s.Plus) = Some (interval 1 None)
times_of _ = None

pub data SpellsTimes : List Symbol → Option Interval → Type 0 where
  none : SpellsTimes [] None
  sign : {at : Span} {kind : TokenKind} {times : Interval} → times_of kind ≡ Some times → SpellsTimes (tok kind at ∷ []) (Some times)
  exact : {at : Span} {n : ℕ} → SpellsTimes (tok (t.Number n) at ∷ []) (Some (interval n (Some n)))
  range : {at d z : Span} {low : ℕ} {kind : TokenKind} {high : Option ℕ} → bound_of kind ≡ Some high →
      SpellsTimes (tok (t.Number low) at ∷ tok (t.Sign s.DotDot) d ∷ tok kind z ∷ []) (Some (interval low high))

-- ---- heads

-- the place of the first of some tokens, or of what follows them
abbrev pub place_of : List Symbol → Span → Span
place_of [] at = at
place_of (first ∷ _) at = first.at

abbrev pub head : Span → Bool → Option Interval → Title → Option Title → Option Pointer → Option Interval → Head
head at is_abstract group name above reference times = record {
  at = at;
  is_abstract = is_abstract;
  group = group;
  title = name;
  above = above;
  reference = reference;
  times = times;
}

-- all before a clafer's name
pub data SpellsLead : List Symbol → Bool → Option Interval → Type 0 where
  lead : (is_abstract : Bool) (a : Span) {ts : List Symbol} {group : Option Interval} →
      SpellsGroup ts group → SpellsLead (abstract_part is_abstract a ++ ts) is_abstract group

-- A head, at the place of its first token.
pub data SpellsHead : List Symbol → Head → Type 0 where
  head_of : (at : Span) (n : List ℕ) {ts us vs ws : List Symbol} {is_abstract : Bool} {group times : Option Interval} {above : Option Title} {reference : Option Pointer} →
      SpellsLead ts is_abstract group → SpellsAbove us above → SpellsReference vs reference → SpellsTimes ws times →
      SpellsHead (ts ++ tok (t.Name n) at ∷ (us ++ (vs ++ ws))) (head (place_of ts at) is_abstract group (title n at) above reference times)

pub data BeginsGroup : List Symbol → Type 0 where
  whole : {ts : List Symbol} {group : Option Interval} → SpellsGroup ts group → BeginsGroup ts
  low : {at : Span} {low : ℕ} → BeginsGroup (tok (t.Number low) at ∷ [])
  dots : {at d : Span} {low : ℕ} → BeginsGroup (tok (t.Number low) at ∷ tok (t.Sign s.DotDot) d ∷ [])

pub data BeginsAbove : List Symbol → Type 0 where
  whole : {ts : List Symbol} {above : Option Title} → SpellsAbove ts above → BeginsAbove ts
  colon : {c : Span} → BeginsAbove (tok (t.Sign s.Colon) c ∷ [])

pub data BeginsReference : List Symbol → Type 0 where
  whole : {ts : List Symbol} {reference : Option Pointer} → SpellsReference ts reference → BeginsReference ts
  sign : {a : Span} {arrow : TokenKind} {bag : Bool} → bag_of arrow ≡ Some bag → BeginsReference (tok arrow a ∷ [])

pub data BeginsTimes : List Symbol → Type 0 where
  whole : {ts : List Symbol} {times : Option Interval} → SpellsTimes ts times → BeginsTimes ts
  dots : {at d : Span} {low : ℕ} → BeginsTimes (tok (t.Number low) at ∷ tok (t.Sign s.DotDot) d ∷ [])

pub data BeginsHead : List Symbol → Type 0 where
  in_group : (is_abstract : Bool) (a : Span) {ts : List Symbol} → BeginsGroup ts → BeginsHead (abstract_part is_abstract a ++ ts)
  in_above : (at : Span) (n : List ℕ) {ts us : List Symbol} {is_abstract : Bool} {group : Option Interval} →
      SpellsLead ts is_abstract group → BeginsAbove us → BeginsHead (ts ++ tok (t.Name n) at ∷ us)
  in_reference : (at : Span) (n : List ℕ) {ts us vs : List Symbol} {is_abstract : Bool} {group : Option Interval} {above : Option Title} →
      SpellsLead ts is_abstract group → SpellsAbove us above → BeginsReference vs → BeginsHead (ts ++ tok (t.Name n) at ∷ (us ++ vs))
  in_times : (at : Span) (n : List ℕ) {ts us vs ws : List Symbol} {is_abstract : Bool} {group : Option Interval} {above : Option Title} {reference : Option Pointer} →
      SpellsLead ts is_abstract group → SpellsAbove us above → SpellsReference vs reference → BeginsTimes ws →
      BeginsHead (ts ++ tok (t.Name n) at ∷ (us ++ (vs ++ ws)))
