-- What the reader has read spells what it has made.
use Rattle.std.proofs.Common.{◌≡◌, ◌≢◌, ℕ, ◌≤◌, ◌&&◌, if◌then◌else◌, Bool, true, false, refl, sym, ◌∙◌, ap, subst, arith, lit≤, Option, Some, None, List, [], ◌∷◌, ◌++◌, append_assoc, append-nil}
use Rattle.std.specs.Prelude.{nat_le}
use Rattle.std.proofs.lemmas.Bool.Decides.{nat_tests}
use Rattle.clf_base.specs.declared.fault.Span.{Span}
use Rattle.clf_tree.specs.declared.token.Sign.{Sign}
use Rattle.clf_tree.specs.declared.token.Sign.TheVariants as s
use Rattle.clf_tree.specs.declared.token.Title.{Title}
use Rattle.clf_tree.specs.declared.token.Word.{Word}
use Rattle.clf_tree.specs.declared.token.Word.TheVariants as w
use Rattle.clf_tree.specs.declared.token.TokenKind.{TokenKind}
use Rattle.clf_tree.specs.declared.token.TokenKind.TheVariants as t
use Rattle.clf_tree.specs.declared.expr.Expr.{Expr}
use Rattle.clf_tree.specs.declared.module.Interval.{Interval}
use Rattle.clf_tree.specs.declared.module.Pointer.{Pointer}
use Rattle.clf_tree.specs.declared.module.Start.{Start}
use Rattle.clf_tree.specs.declared.module.Item.{Item}
use Rattle.clf_tree.specs.declared.module.Item.TheVariants as i
use Rattle.clafer_grammar.specs.declared.heads.Front.{Front}
use Rattle.clafer_grammar.specs.declared.heads.Front.TheVariants as front
use Rattle.clafer_grammar.specs.declared.heads.Lead.{Lead}
use Rattle.clafer_grammar.specs.declared.heads.Head.{Head}
use Rattle.clafer_grammar.specs.declared.heads.Stage.{Stage}
use Rattle.clafer_grammar.specs.declared.heads.Stage.TheVariants as stage
use Rattle.clafer_grammar.specs.declared.operators.Infix.{Infix}
use Rattle.clafer_grammar.specs.declared.operators.Infix.TheVariants as b
use Rattle.clafer_grammar.specs.declared.operators.Prefix.{Prefix}
use Rattle.clafer_grammar.specs.declared.operators.Prefix.TheVariants as u
use Rattle.clafer_grammar.specs.declared.machine.Frame.{Frame}
use Rattle.clafer_grammar.specs.declared.machine.Frame.TheVariants as f
use Rattle.clafer_grammar.specs.declared.machine.Mode.TheVariants as m
use Rattle.clafer_grammar.specs.Symbols.{Symbol, tok}
use Rattle.clafer_grammar.specs.Trees.{title, name_tree, atom_tree, field_tree, prefix_tree, infix_tree, if_tree, quant_tree, clafer, started}
use Rattle.clafer_grammar.specs.Operators.{infix_kind, infix_rest, infix_level, left_of, prefix_kind, prefix_level, operand_level}
use Rattle.clafer_grammar.specs.Expressions.{is_quant, disj_part, SpellsNames, Spells}
use Rattle.clafer_grammar.specs.Declarations.{interval, pointer, abstract_part, group_of, bound_of, SpellsGroup, SpellsAbove, bag_of, target_of, SpellsReference, times_of, SpellsTimes, place_of, head, SpellsLead, SpellsHead}
use Rattle.clafer_grammar.specs.Modules.{NoMinus, SpellsMore, SpellsMembers, least_of, SpellsStart, Ending, free, bare, valued, ending_of, ending, MayFollow, Follows, SpellsItems, BeginsItems, SpellsModule}
use Rattle.clafer_grammar.specs.Machine.{infix_of, infix_sign, prefix_of, counting_word, least, State, Step, prefixed, atom, disjoint_after, disjoint, operand, names, listed, variable_after, variable, after_infix, with_infix, goes_on, close_paren, close_condition, close_consequence, close_range, close_bracket, close_goal, close_block, finish, grouped, item, titled, bounded, lead_at, tail, with_times, times, high_times, low_times, with_arrow, refers, targeted, head_at, close_start, enum_word, enum_title, member, more_members, goal_word, first_of_two, reduce, settle, named, valued as field_valued, not_in, step_at, step, then_run, run, start}
use Rattle.clafer_grammar.proofs.Levels.{right_within, binary_high}
use Rattle.clafer_grammar.proofs.Heading.{above_stage, reference_stage}

-- ---- whole items, whatever follows them

-- The tokens are items, behind which further ones may come.
pub record ItemsRead (us : List Symbol) (xs : List Item) (end : Ending) : Type 0 where
  pub spells : (ts : List Symbol) (ys : List Item) → Follows end ts → SpellsItems ts ys → SpellsItems (us ++ ts) (xs ++ ys)
  pub begins : (ts : List Symbol) → Follows end ts → BeginsItems ts → BeginsItems (us ++ ts)

abbrev pub FirstFollows : Ending → List Symbol → Type 0
FirstFollows end [] = ⊥
FirstFollows end (first ∷ _) = MayFollow end first.kind

pub follows_more : (end : Ending) (ts us : List Symbol) → FirstFollows end ts → Follows end (ts ++ us)
follows_more end [] us h = absurd h
follows_more end (x ∷ ts) us h = h

pub first_follows_more : (end : Ending) (ts us : List Symbol) → FirstFollows end ts → FirstFollows end (ts ++ us)
first_follows_more end [] us h = absurd h
first_follows_more end (x ∷ ts) us h = h

may_next : (end : Ending) → MayFollow end t.Next
may_next free = tt
may_next bare = tt
may_next valued = tt

pub may_bracket : (end : Ending) → MayFollow end (t.Sign s.BracketOpen)
may_bracket free = tt
may_bracket bare = tt
may_bracket valued = tt

pub may_goal : (end : Ending) → MayFollow end (t.Sign s.GoalOpen)
may_goal free = tt
may_goal bare = tt
may_goal valued = tt

pub may_enum : (end : Ending) → MayFollow end (t.Word w.Enum)
may_enum free = tt
may_enum bare = tt
may_enum valued = tt

free_follows : (ts : List Symbol) → Follows free ts
free_follows [] = tt
free_follows (x ∷ ts) = tt

moved : {ts us : List Symbol} {xs ys : List Item} → ts ≡ us → xs ≡ ys → SpellsItems ts xs → SpellsItems us ys
moved {ts = ts} {ys = ys} e g v = subst (λ l. SpellsItems l ys) e (subst (λ l. SpellsItems ts l) g v)

moved_begins : {ts us : List Symbol} → ts ≡ us → BeginsItems ts → BeginsItems us
moved_begins e v = subst (λ l. BeginsItems l) e v

pub no_items : ItemsRead [] [] free
no_items = record { spells = λ ts ys g v. v; begins = λ ts g v. v }

-- all of the items
pub all_items : {us : List Symbol} {xs : List Item} {end : Ending} → ItemsRead us xs end → SpellsItems us xs
all_items {us = us} {xs = xs} r = moved (append-nil us) (append-nil xs) (r.spells [] [] tt SpellsItems.none)

pub all_begun : {us : List Symbol} {xs : List Item} {end : Ending} → ItemsRead us xs end → BeginsItems us
all_begun {us = us} r = moved_begins (append-nil us) (r.begins [] tt BeginsItems.none)

items_next : {us : List Symbol} {xs : List Item} {end : Ending} (at : Span) → ItemsRead us xs end → ItemsRead (us ++ tok t.Next at ∷ []) xs free
items_next {us = us} {xs = xs} {end = end} at r = record {
  spells = λ ts ys g v. moved (sym (append_assoc us _ ts)) refl (r.spells (tok t.Next at ∷ ts) ys (may_next end) (SpellsItems.next v));
  begins = λ ts g v. moved_begins (sym (append_assoc us _ ts)) (r.begins (tok t.Next at ∷ ts) (may_next end) (BeginsItems.next v));
}

items_leaf : {us hs ss : List Symbol} {xs : List Item} {end : Ending} {h : Head} {value : Option Start} → ItemsRead us xs end →
    SpellsHead hs h → SpellsStart ss value → FirstFollows end hs → ItemsRead (us ++ (hs ++ ss)) (xs ++ clafer h value [] ∷ []) (ending h value)
items_leaf {us = us} {hs = hs} {ss = ss} {xs = xs} {end = end} {h = h} {value = value} r v w g = record {
  spells = λ ts ys e o. moved (simp append_assoc) (sym (append_assoc xs _ ys)) (r.spells (hs ++ (ss ++ ts)) (clafer h value [] ∷ ys) (follows_more end hs _ g) (SpellsItems.leaf v w e o));
  begins = λ ts e o. moved_begins (simp append_assoc) (r.begins (hs ++ (ss ++ ts)) (follows_more end hs _ g) (BeginsItems.leaf v w e o));
}

items_block : {us hs ss ws : List Symbol} {xs inner : List Item} {end : Ending} {h : Head} {value : Option Start} (a z : Span) → ItemsRead us xs end →
    SpellsHead hs h → SpellsStart ss value → FirstFollows end hs → SpellsItems ws inner →
    ItemsRead (us ++ (hs ++ (ss ++ tok t.Open a ∷ (ws ++ tok t.Close z ∷ [])))) (xs ++ clafer h value inner ∷ []) free
items_block {us = us} {hs = hs} {ss = ss} {ws = ws} {xs = xs} {inner = inner} {end = end} {h = h} {value = value} a z r v w g p = record {
  spells = λ ts ys e o. moved (simp append_assoc) (sym (append_assoc xs _ ys))
      (r.spells (hs ++ (ss ++ tok t.Open a ∷ (ws ++ tok t.Close z ∷ ts))) (clafer h value inner ∷ ys) (follows_more end hs _ g) (SpellsItems.block a z v w p o));
  begins = λ ts e o. moved_begins (simp append_assoc)
      (r.begins (hs ++ (ss ++ tok t.Open a ∷ (ws ++ tok t.Close z ∷ ts))) (follows_more end hs _ g) (BeginsItems.block a z v w p o));
}

items_enum : {us ms : List Symbol} {xs : List Item} {end : Ending} {members : List Title} (at a z : Span) (n : List ℕ) → ItemsRead us xs end → SpellsMembers ms members →
    ItemsRead (us ++ tok (t.Word w.Enum) at ∷ tok (t.Name n) a ∷ tok (t.Sign s.Equal) z ∷ ms) (xs ++ i.Enum at (title n a) members ∷ []) free
items_enum {us = us} {ms = ms} {xs = xs} {end = end} {members = members} at a z n r v = record {
  spells = λ ts ys e o. moved (simp append_assoc) (sym (append_assoc xs _ ys))
      (r.spells (tok (t.Word w.Enum) at ∷ tok (t.Name n) a ∷ tok (t.Sign s.Equal) z ∷ (ms ++ ts)) (i.Enum at (title n a) members ∷ ys) (may_enum end) (SpellsItems.enumeration v o));
  begins = λ ts e o. moved_begins (simp append_assoc)
      (r.begins (tok (t.Word w.Enum) at ∷ tok (t.Name n) a ∷ tok (t.Sign s.Equal) z ∷ (ms ++ ts)) (may_enum end) (BeginsItems.enumeration v o));
}

-- ---- what the open constructs have read

-- in a body, and in an expression
abbrev pub InBody : List Frame → Type 0
InBody [] = Unit {0}
InBody (f.Block before h value ∷ _) = Unit {0}
InBody _ = ⊥

abbrev pub InExpr : List Frame → Type 0
InExpr [] = ⊥
InExpr (f.Block before h value ∷ _) = ⊥
InExpr _ = Unit {0}

abbrev pub FirstNotMinus : List Symbol → Type 0
FirstNotMinus [] = ⊥
FirstNotMinus (first ∷ _) = first.kind ≢ t.Sign s.Minus

-- In a bracket that has an expression, these tokens begin a further one.
abbrev pub Guard : List Frame → List Symbol → Type 0
Guard (f.Bracket before at (_ ∷ _) ∷ _) ts = FirstNotMinus ts
Guard _ ts = Unit {0}

-- a bracket on top has no expression yet
abbrev pub Fresh : List Frame → Type 0
Fresh (f.Bracket before at (_ ∷ _) ∷ _) = ⊥
Fresh _ = Unit {0}

pub data PartsRead : List Symbol → List Expr → Type 0 where
  none : PartsRead [] []
  some : {ts us : List Symbol} {x : Expr} {xs : List Expr} → Spells 0 ts x → SpellsMore us xs → PartsRead (ts ++ us) (x ∷ xs)

-- variables, and the `;` behind them where there are any
pub data NamesRead : List Symbol → List Title → Type 0 where
  none : NamesRead [] []
  more : (c : Span) {ns : List Symbol} {vars : List Title} → SpellsNames ns vars → NamesRead (ns ++ tok (t.Sign s.Semicolon) c ∷ []) vars

-- members, and the `|` behind them where there are any
pub data MembersRead : List Symbol → List Title → Type 0 where
  none : MembersRead [] []
  more : (c : Span) {ms : List Symbol} {members : List Title} → SpellsMembers ms members → MembersRead (ms ++ tok (t.Sign s.Bar) c ∷ []) members

pub data Before : List Frame → List Symbol → Type 0 where
  nothing : Before [] []
  block : (a : Span) {end : Ending} {frames : List Frame} {items : List Item} {h : Head} {value : Option Start} {ts us hs ss : List Symbol} →
      Before frames ts → InBody frames → ItemsRead us items end → SpellsHead hs h → SpellsStart ss value → FirstFollows end hs →
      Before (f.Block items h value ∷ frames) (ts ++ (us ++ (hs ++ (ss ++ tok t.Open a ∷ []))))
  bracket : {at : Span} {end : Ending} {frames : List Frame} {items : List Item} {parts : List Expr} {ts us vs : List Symbol} →
      Before frames ts → InBody frames → ItemsRead us items end → PartsRead vs parts →
      Before (f.Bracket items at parts ∷ frames) (ts ++ (us ++ tok (t.Sign s.BracketOpen) at ∷ vs))
  goal : (kind : TokenKind) (a : Span) {at : Span} {least_first : Bool} {end : Ending} {frames : List Frame} {items : List Item} {ts us : List Symbol} →
      Before frames ts → InBody frames → ItemsRead us items end → least_of kind ≡ Some least_first →
      Before (f.Goal items at least_first ∷ frames) (ts ++ (us ++ tok (t.Sign s.GoalOpen) at ∷ tok kind a ∷ []))
  equal : {at : Span} {end : Ending} {frames : List Frame} {items : List Item} {h : Head} {ts us hs : List Symbol} →
      Before frames ts → InBody frames → ItemsRead us items end → SpellsHead hs h → FirstFollows end hs →
      Before (f.Start items h at ∷ frames) (ts ++ (us ++ (hs ++ tok (t.Sign s.Equal) at ∷ [])))
  binary : (a : Span) {at : Span} {op : Infix} {frames : List Frame} {ts us : List Symbol} {x : Expr} →
      Before frames ts → InExpr frames → Guard frames us → least frames ≤ infix_level op → Spells (left_of (infix_level op)) us x →
      Before (f.Binary at op x ∷ frames) (ts ++ (us ++ tok (infix_kind op) at ∷ infix_rest op a))
  unary : {at : Span} {op : Prefix} {frames : List Frame} {ts : List Symbol} →
      Before frames ts → InExpr frames → Guard frames (tok (prefix_kind op) at ∷ []) → least frames ≤ prefix_level op →
      Before (f.Unary at op ∷ frames) (ts ++ tok (prefix_kind op) at ∷ [])
  paren : (a : Span) {frames : List Frame} {ts : List Symbol} → Before frames ts → InExpr frames → least frames ≤ 14 → Before (f.Paren ∷ frames) (ts ++ tok (t.Sign s.ParenOpen) a ∷ [])
  condition : {at : Span} {frames : List Frame} {ts : List Symbol} → Before frames ts → InExpr frames → least frames ≤ 0 → Before (f.Condition at ∷ frames) (ts ++ tok (t.Word w.If) at ∷ [])
  consequence : (a : Span) {at : Span} {frames : List Frame} {ts us : List Symbol} {x : Expr} →
      Before frames ts → InExpr frames → least frames ≤ 0 → Spells 0 us x →
      Before (f.Consequence at x ∷ frames) (ts ++ tok (t.Word w.If) at ∷ (us ++ tok (t.Word w.Then) a ∷ []))
  alternative : (a z : Span) {at : Span} {frames : List Frame} {ts us vs : List Symbol} {x y : Expr} →
      Before frames ts → InExpr frames → least frames ≤ 0 → Spells 0 us x → Spells 0 vs y →
      Before (f.Alternative at x y ∷ frames) (ts ++ tok (t.Word w.If) at ∷ (us ++ tok (t.Word w.Then) a ∷ (vs ++ tok (t.Word w.Else) z ∷ [])))
  range : (d c : Span) {at : Span} {word : Word} {disj : Bool} {vars : List Title} {frames : List Frame} {ts ns : List Symbol} →
      Before frames ts → InExpr frames → least frames ≤ 0 → is_quant word ≡ true → SpellsNames ns vars →
      Before (f.Range at word disj vars ∷ frames) (ts ++ tok (t.Word word) at ∷ (disj_part disj d ++ (ns ++ tok (t.Sign s.Colon) c ∷ [])))
  body : (d c z : Span) {at : Span} {word : Word} {disj : Bool} {vars : List Title} {frames : List Frame} {ts ns us : List Symbol} {x : Expr} →
      Before frames ts → InExpr frames → least frames ≤ 0 → is_quant word ≡ true → SpellsNames ns vars → Spells 11 us x →
      Before (f.Body at word disj vars x ∷ frames) (ts ++ tok (t.Word word) at ∷ (disj_part disj d ++ (ns ++ tok (t.Sign s.Colon) c ∷ (us ++ tok (t.Sign s.Bar) z ∷ []))))

-- ---- what a head has read

pub data LeadRead : List Symbol → Lead → Type 0 where
  abstract_word : {a : Span} → LeadRead (tok (t.Word w.Abstract) a ∷ []) (record { at = a; is_abstract = true; front = front.Abstract })
  low_bound : (is_abstract : Bool) (a z : Span) {low : ℕ} →
      LeadRead (abstract_part is_abstract a ++ tok (t.Number low) z ∷ []) (record { at = place_of (abstract_part is_abstract a) z; is_abstract = is_abstract; front = front.Low low })
  dots_bound : (is_abstract : Bool) (a z d : Span) {low : ℕ} →
      LeadRead (abstract_part is_abstract a ++ tok (t.Number low) z ∷ tok (t.Sign s.DotDot) d ∷ []) (record { at = place_of (abstract_part is_abstract a) z; is_abstract = is_abstract; front = front.Dots low })
  group_read : (is_abstract : Bool) (a z : Span) {group : Interval} {gs : List Symbol} → SpellsGroup gs (Some group) →
      LeadRead (abstract_part is_abstract a ++ gs) (record { at = place_of (abstract_part is_abstract a ++ gs) z; is_abstract = is_abstract; front = front.Grouped group })

pub data StageRead : List Symbol → Head → Stage → Type 0 where
  early_read : (at : Span) (n : List ℕ) {ts us vs : List Symbol} {is_abstract : Bool} {group : Option Interval} {above : Option Title} {reference : Option Pointer} →
      SpellsLead ts is_abstract group → SpellsAbove us above → SpellsReference vs reference →
      StageRead (ts ++ tok (t.Name n) at ∷ (us ++ vs)) (head (place_of ts at) is_abstract group (title n at) above reference None) (reference_stage above reference)
  colon_read : (at c : Span) (n : List ℕ) {ts : List Symbol} {is_abstract : Bool} {group : Option Interval} → SpellsLead ts is_abstract group →
      StageRead (ts ++ tok (t.Name n) at ∷ tok (t.Sign s.Colon) c ∷ []) (head (place_of ts at) is_abstract group (title n at) None None None) stage.Colon
  arrow_read : (at : Span) (n : List ℕ) (arrow : TokenKind) {a : Span} {bag : Bool} {ts us : List Symbol} {is_abstract : Bool} {group : Option Interval} {above : Option Title} →
      SpellsLead ts is_abstract group → SpellsAbove us above → bag_of arrow ≡ Some bag →
      StageRead (ts ++ tok (t.Name n) at ∷ (us ++ tok arrow a ∷ [])) (head (place_of ts at) is_abstract group (title n at) above None None) (stage.Arrow a bag)
  low_read : (at z : Span) (n : List ℕ) {low : ℕ} {ts us vs : List Symbol} {is_abstract : Bool} {group : Option Interval} {above : Option Title} {reference : Option Pointer} →
      SpellsLead ts is_abstract group → SpellsAbove us above → SpellsReference vs reference →
      StageRead (ts ++ tok (t.Name n) at ∷ (us ++ (vs ++ tok (t.Number low) z ∷ []))) (head (place_of ts at) is_abstract group (title n at) above reference (Some (interval low (Some low)))) (stage.Low low)
  dots_read : (at z d : Span) (n : List ℕ) {low : ℕ} {ts us vs : List Symbol} {is_abstract : Bool} {group : Option Interval} {above : Option Title} {reference : Option Pointer} →
      SpellsLead ts is_abstract group → SpellsAbove us above → SpellsReference vs reference →
      StageRead (ts ++ tok (t.Name n) at ∷ (us ++ (vs ++ tok (t.Number low) z ∷ tok (t.Sign s.DotDot) d ∷ []))) (head (place_of ts at) is_abstract group (title n at) above reference (Some (interval low (Some low)))) (stage.Dots low)
  multiplied : (at : Span) (n : List ℕ) {multiplicity : Interval} {ts us vs ws : List Symbol} {is_abstract : Bool} {group : Option Interval} {above : Option Title} {reference : Option Pointer} →
      SpellsLead ts is_abstract group → SpellsAbove us above → SpellsReference vs reference → SpellsTimes ws (Some multiplicity) →
      StageRead (ts ++ tok (t.Name n) at ∷ (us ++ (vs ++ ws))) (head (place_of ts at) is_abstract group (title n at) above reference (Some multiplicity)) stage.Times

-- ---- what the state has read

pub data Consumed : State → List Symbol → Type 0 where
  of_items : {frames : List Frame} {ts us : List Symbol} {xs : List Item} →
      Before frames ts → InBody frames → ItemsRead us xs free → Consumed (frames, m.Items xs) (ts ++ us)
  of_lead : {end : Ending} {frames : List Frame} {ts us hs : List Symbol} {xs : List Item} {l : Lead} →
      Before frames ts → InBody frames → ItemsRead us xs end → FirstFollows end hs → LeadRead hs l → Consumed (frames, m.Lead xs l) (ts ++ (us ++ hs))
  of_head : {end : Ending} {frames : List Frame} {ts us hs : List Symbol} {xs : List Item} {h : Head} {st : Stage} →
      Before frames ts → InBody frames → ItemsRead us xs end → FirstFollows end hs → StageRead hs h st → Consumed (frames, m.Head xs h st) (ts ++ (us ++ hs))
  of_enum : {at : Span} {end : Ending} {frames : List Frame} {ts us : List Symbol} {xs : List Item} →
      Before frames ts → InBody frames → ItemsRead us xs end → Consumed (frames, m.Enum xs at) (ts ++ (us ++ tok (t.Word w.Enum) at ∷ []))
  of_enum_title : {at a : Span} {n : List ℕ} {end : Ending} {frames : List Frame} {ts us : List Symbol} {xs : List Item} →
      Before frames ts → InBody frames → ItemsRead us xs end → Consumed (frames, m.EnumTitle xs at (title n a)) (ts ++ (us ++ tok (t.Word w.Enum) at ∷ tok (t.Name n) a ∷ []))
  of_member : (z : Span) {at a : Span} {n : List ℕ} {members : List Title} {end : Ending} {frames : List Frame} {ts us ms : List Symbol} {xs : List Item} →
      Before frames ts → InBody frames → ItemsRead us xs end → MembersRead ms members →
      Consumed (frames, m.Member xs at (title n a) members) (ts ++ (us ++ tok (t.Word w.Enum) at ∷ tok (t.Name n) a ∷ tok (t.Sign s.Equal) z ∷ ms))
  of_members : (z : Span) {at a : Span} {n : List ℕ} {members : List Title} {end : Ending} {frames : List Frame} {ts us ms : List Symbol} {xs : List Item} →
      Before frames ts → InBody frames → ItemsRead us xs end → SpellsMembers ms members →
      Consumed (frames, m.Members xs at (title n a) members) (ts ++ (us ++ tok (t.Word w.Enum) at ∷ tok (t.Name n) a ∷ tok (t.Sign s.Equal) z ∷ ms))
  of_goal : {at : Span} {end : Ending} {frames : List Frame} {ts us : List Symbol} {xs : List Item} →
      Before frames ts → InBody frames → ItemsRead us xs end → Consumed (frames, m.Goal xs at) (ts ++ (us ++ tok (t.Sign s.GoalOpen) at ∷ []))
  of_operand : {frames : List Frame} {ts : List Symbol} → Before frames ts → InExpr frames → Fresh frames → Consumed (frames, m.Operand) ts
  of_in : {at : Span} {frames : List Frame} {ts us : List Symbol} {x : Expr} →
      Before frames ts → InExpr frames → Guard frames us → least frames ≤ infix_level b.NotIn → Spells (left_of (infix_level b.NotIn)) us x →
      Consumed (f.Binary at b.NotIn x ∷ frames, m.In) (ts ++ (us ++ tok (t.Word w.Not) at ∷ []))
  of_names : (d : Span) {at : Span} {word : Word} {disj : Bool} {vars : List Title} {frames : List Frame} {ts ns : List Symbol} →
      Before frames ts → InExpr frames → least frames ≤ 0 → is_quant word ≡ true → NamesRead ns vars →
      Consumed (frames, m.Names at word disj vars) (ts ++ tok (t.Word word) at ∷ (disj_part disj d ++ ns))
  of_listed : (d : Span) {at : Span} {word : Word} {disj : Bool} {vars : List Title} {frames : List Frame} {ts ns : List Symbol} →
      Before frames ts → InExpr frames → least frames ≤ 0 → is_quant word ≡ true → SpellsNames ns vars →
      Consumed (frames, m.Listed at word disj vars) (ts ++ tok (t.Word word) at ∷ (disj_part disj d ++ ns))
  of_named : {n : List ℕ} {at : Span} {frames : List Frame} {ts : List Symbol} → Before frames ts → InExpr frames → Consumed (frames, m.Named (title n at)) (ts ++ tok (t.Name n) at ∷ [])
  of_value : {level : ℕ} {frames : List Frame} {ts us : List Symbol} {x : Expr} →
      Before frames ts → InExpr frames → Guard frames us → least frames ≤ level → Spells level us x → Consumed (frames, m.Value x level) (ts ++ us)
  of_field : (a : Span) {frames : List Frame} {ts us : List Symbol} {x : Expr} →
      Before frames ts → InExpr frames → Guard frames us → least frames ≤ 13 → Spells 13 us x → Consumed (frames, m.Field x) (ts ++ (us ++ tok (t.Sign s.Dot) a ∷ []))
  of_done : {ts : List Symbol} {xs : List Item} → SpellsModule ts xs → Consumed ([], m.Done xs) ts

abbrev pub AllOf : (State → Type 0) → Step → Type 0
AllOf P None = Unit {0}
AllOf P (Some v) = P v

-- the state after a further token
abbrev pub After : List Symbol → TokenKind → Span → Step → Type 0
After ts kind at o = AllOf (λ v. Consumed v (ts ++ tok kind at ∷ [])) o

pub guard_fresh : (frames : List Frame) (ts : List Symbol) → Fresh frames → Guard frames ts
guard_fresh [] ts h = tt
guard_fresh (f.Bracket before at (x ∷ xs) ∷ frames) ts h = absurd h
guard_fresh (f.Bracket before at [] ∷ frames) ts h = tt
guard_fresh (_ ∷ frames) ts h = tt

guard_change : (frames : List Frame) (ts us : List Symbol) → (FirstNotMinus ts → FirstNotMinus us) → Guard frames ts → Guard frames us
guard_change [] ts us g h = tt
guard_change (f.Bracket before at (x ∷ xs) ∷ frames) ts us g h = g h
guard_change (f.Bracket before at [] ∷ frames) ts us g h = tt
guard_change (_ ∷ frames) ts us g h = tt

pub guard_any : (frames : List Frame) (ts : List Symbol) → FirstNotMinus ts → Guard frames ts
guard_any [] ts h = tt
guard_any (f.Bracket before at (x ∷ xs) ∷ frames) ts h = h
guard_any (f.Bracket before at [] ∷ frames) ts h = tt
guard_any (_ ∷ frames) ts h = tt

not_minus_more : (ts us : List Symbol) → FirstNotMinus ts → FirstNotMinus (ts ++ us)
not_minus_more [] us h = absurd h
not_minus_more (x ∷ ts) us h = h

pub guard_more : (frames : List Frame) (ts us : List Symbol) → Guard frames ts → Guard frames (ts ++ us)
guard_more frames ts us h = guard_change frames ts (ts ++ us) (not_minus_more ts us) h

-- the first token decides
pub guard_first : (frames : List Frame) (x : Symbol) (us : List Symbol) → Guard frames (x ∷ []) → Guard frames (x ∷ us)
guard_first frames x us h = guard_change frames (x ∷ []) (x ∷ us) (λ g. g) h

read_as : {v : State} {ts us : List Symbol} → ts ≡ us → Consumed v ts → Consumed v us
read_as {v = v} e c = subst (λ l. Consumed v l) e c

more_append : {ts us : List Symbol} {xs : List Expr} {x : Expr} → SpellsMore ts xs → NoMinus us → Spells 0 us x → SpellsMore (ts ++ us) (xs ++ x ∷ [])
more_append {us = us} {x = x} SpellsMore.none g v = subst (λ l. SpellsMore l (x ∷ [])) (append-nil us) (SpellsMore.more g v SpellsMore.none)
more_append (SpellsMore.more h v w) g o = rw append_assoc (SpellsMore.more h v (more_append w g o))

-- ---- signs and their operators

infix_inj : {a c : Infix} → Some a ≡ Some c → a ≡ c
infix_inj e = cc

prefix_inj : {a c : Prefix} → Some a ≡ Some c → a ≡ c
prefix_inj e = cc

word_inj : {a c : Word} → Some a ≡ Some c → a ≡ c
word_inj e = cc

sign_kind : (sign : Sign) (op : Infix) → infix_sign sign ≡ Some op → t.Sign sign ≡ infix_kind op
sign_kind s.Iff op h = ap infix_kind (infix_inj h)
sign_kind s.Implies op h = ap infix_kind (infix_inj h)
sign_kind s.OrOr op h = ap infix_kind (infix_inj h)
sign_kind s.AndAnd op h = ap infix_kind (infix_inj h)
sign_kind s.Equal op h = ap infix_kind (infix_inj h)
sign_kind s.NotEqual op h = ap infix_kind (infix_inj h)
sign_kind s.Less op h = ap infix_kind (infix_inj h)
sign_kind s.LessEqual op h = ap infix_kind (infix_inj h)
sign_kind s.Greater op h = ap infix_kind (infix_inj h)
sign_kind s.GreaterEqual op h = ap infix_kind (infix_inj h)
sign_kind s.Plus op h = ap infix_kind (infix_inj h)
sign_kind s.Minus op h = ap infix_kind (infix_inj h)
sign_kind s.Star op h = ap infix_kind (infix_inj h)
sign_kind s.PlusPlus op h = ap infix_kind (infix_inj h)
sign_kind s.MinusMinus op h = ap infix_kind (infix_inj h)
sign_kind s.StarStar op h = ap infix_kind (infix_inj h)
sign_kind _ op h = cc

pub kind_of_infix : (kind : TokenKind) (op : Infix) → infix_of kind ≡ Some op → kind ≡ infix_kind op
kind_of_infix (t.Sign sign) op h = sign_kind sign op h
kind_of_infix (t.Word w.In) op h = ap infix_kind (infix_inj h)
kind_of_infix (t.Word w.Not) op h = ap infix_kind (infix_inj h)
kind_of_infix (t.Word w.Xor) op h = ap infix_kind (infix_inj h)
kind_of_infix _ op h = cc

pub kind_of_prefix : (kind : TokenKind) (op : Prefix) → prefix_of kind ≡ Some op → kind ≡ prefix_kind op
kind_of_prefix (t.Sign s.Not) op h = ap prefix_kind (prefix_inj h)
kind_of_prefix (t.Sign s.Minus) op h = ap prefix_kind (prefix_inj h)
kind_of_prefix (t.Sign s.Hash) op h = ap prefix_kind (prefix_inj h)
kind_of_prefix (t.Word w.Sum) op h = ap prefix_kind (prefix_inj h)
kind_of_prefix (t.Word w.Some) op h = ap prefix_kind (prefix_inj h)
kind_of_prefix (t.Word w.No) op h = ap prefix_kind (prefix_inj h)
kind_of_prefix (t.Word w.One) op h = ap prefix_kind (prefix_inj h)
kind_of_prefix (t.Word w.Lone) op h = ap prefix_kind (prefix_inj h)
kind_of_prefix _ op h = cc

counting_kind : (op : Prefix) (word : Word) → counting_word op ≡ Some word → prefix_kind op ≡ t.Word word
counting_kind u.Some word e = ap (λ v. t.Word v) (word_inj e)
counting_kind u.No word e = ap (λ v. t.Word v) (word_inj e)
counting_kind u.One word e = ap (λ v. t.Word v) (word_inj e)
counting_kind u.Lone word e = ap (λ v. t.Word v) (word_inj e)
counting_kind _ word e = cc

counting_quant : (op : Prefix) (word : Word) → counting_word op ≡ Some word → is_quant word ≡ true
counting_quant u.Some word e = ap is_quant (sym (word_inj e))
counting_quant u.No word e = ap is_quant (sym (word_inj e))
counting_quant u.One word e = ap is_quant (sym (word_inj e))
counting_quant u.Lone word e = ap is_quant (sym (word_inj e))
counting_quant _ word e = cc

operand_high : (op : Prefix) → operand_level op ≤ 13
operand_high = elim [ u.Not ↦ lit≤ tt | u.Neg ↦ lit≤ tt | u.Card ↦ lit≤ tt | u.Sum ↦ lit≤ tt | _ ↦ lit≤ tt ]

pub least_high : (frames : List Frame) → least frames ≤ 13
least_high [] = lit≤ tt
least_high (f.Binary at op x ∷ frames) = omega (arith, right_within (infix_level op), binary_high op)
least_high (f.Unary at op ∷ frames) = operand_high op
least_high (f.Range at word disj vars ∷ frames) = lit≤ tt
least_high (_ ∷ frames) = lit≤ tt

-- ---- one step

after_as : {ts us : List Symbol} (kind : TokenKind) (at : Span) (o : Step) → ts ≡ us → After ts kind at o → After us kind at o
after_as kind at o e h = subst (λ l. After l kind at o) e h

either : (ts : List Symbol) (kind : TokenKind) (at : Span) (o p : Step) → After ts kind at o → After ts kind at p → After ts kind at (first_of_two o p)
either ts kind at None p h g = g
either ts kind at (Some v) p h g = h

tested : (ts : List Symbol) (kind : TokenKind) (at : Span) (c : Bool) (v : State) → (c ≡ true → Consumed v (ts ++ tok kind at ∷ [])) →
    After ts kind at (if◌then◌else◌ {A = Step} c (Some v) None)
tested ts kind at true v h = h refl
tested ts kind at false v h = tt

tested_step : (ts : List Symbol) (kind : TokenKind) (at : Span) (c : Bool) (o : Step) → (c ≡ true → After ts kind at o) →
    After ts kind at (if◌then◌else◌ {A = Step} c o None)
tested_step ts kind at true o h = h refl
tested_step ts kind at false o h = tt

le_of : (a c : ℕ) → nat_le a c ≡ true → a ≤ c
le_of a c h = grind (arith, nat_tests)

both : (p q : Bool) → (p && q) ≡ true → (p ≡ true) × (q ≡ true)
both true true h = (refl, refl)
both true false h = cc
both false q h = cc

binary_state : (op : Infix) (frames : List Frame) (ts us : List Symbol) (x : Expr) (at : Span) →
    Before frames ts → InExpr frames → Guard frames us → least frames ≤ infix_level op → Spells (left_of (infix_level op)) us x →
    Consumed (f.Binary at op x ∷ frames, after_infix op) (ts ++ (us ++ tok (infix_kind op) at ∷ []))
binary_state b.NotIn frames ts us x at d k g l v = Consumed.of_in d k g l v
binary_state op frames ts us x at d k g l v = Consumed.of_operand (Before.binary at d k g l v) tt tt

infix_sound : (frames : List Frame) (ts us : List Symbol) (x : Expr) (level : ℕ) (kind : TokenKind) (at : Span) (o : Option Infix) → infix_of kind ≡ o →
    Before frames ts → InExpr frames → Guard frames us → Spells level us x →
    After (ts ++ us) kind at (with_infix frames x level at o)
unfolding with_infix
infix_sound frames ts us x level kind at None e d k g v = tt
infix_sound frames ts us x level kind at (Some op) e d k g v =
    tested (ts ++ us) kind at (nat_le (least frames) (infix_level op) && nat_le (left_of (infix_level op)) level) (f.Binary at op x ∷ frames, after_infix op)
    (λ c. let w = both _ _ c in
    let eq : ts ++ (us ++ tok (infix_kind op) at ∷ []) ≡ (ts ++ us) ++ tok kind at ∷ [] =
    sym (append_assoc ts us _) ∙ ap (λ k. (ts ++ us) ++ tok k at ∷ []) (sym (kind_of_infix kind op e)) in
    read_as eq (binary_state op frames ts us x at d k g (le_of _ _ w.0) (Spells.looser (le_of _ _ w.1) v)))

goes_sound : (frames : List Frame) (ts us : List Symbol) (x : Expr) (level : ℕ) (kind : TokenKind) (at : Span) →
    Before frames ts → InExpr frames → Guard frames us → Spells level us x →
    After (ts ++ us) kind at (goes_on frames x level kind at)
unfolding goes_on
goes_sound frames ts us x level (t.Sign s.Dot) at d k g v =
    tested (ts ++ us) (t.Sign s.Dot) at (nat_le (least frames) 13 && nat_le 13 level) (frames, m.Field x)
    (λ c. let w = both _ _ c in
    read_as (sym (append_assoc ts us (tok (t.Sign s.Dot) at ∷ []))) (Consumed.of_field at d k g (le_of _ _ w.0) (Spells.looser (le_of _ _ w.1) v)))
goes_sound frames ts us x level kind at d k g v = infix_sound frames ts us x level kind at (infix_of kind) refl d k g v

prefix_sound : (frames : List Frame) (ts : List Symbol) (kind : TokenKind) (at : Span) (o : Option Prefix) → prefix_of kind ≡ o →
    Before frames ts → InExpr frames → Guard frames (tok kind at ∷ []) →
    After ts kind at (prefixed frames at o)
unfolding prefixed
prefix_sound frames ts kind at None e d k g = tt
prefix_sound frames ts kind at (Some op) e d k g =
    tested ts kind at (nat_le (least frames) (prefix_level op)) (f.Unary at op ∷ frames, m.Operand)
    (λ c. let same = kind_of_prefix kind op e in
    let g2 = subst (λ k. Guard frames (tok k at ∷ [])) same g in
    read_as (ap (λ k. ts ++ tok k at ∷ []) (sym same)) (Consumed.of_operand (Before.unary {at = at} {op = op} d k g2 (le_of _ _ c)) tt tt))

atom_sound : (frames : List Frame) (ts : List Symbol) (kind : TokenKind) (at : Span) (o : Option Expr) → atom_tree kind at ≡ o →
    Before frames ts → InExpr frames → Guard frames (tok kind at ∷ []) →
    After ts kind at (atom frames kind at o)
unfolding atom
atom_sound frames ts kind at None e d k g = prefix_sound frames ts kind at (prefix_of kind) refl d k g
atom_sound frames ts kind at (Some x) e d k g = Consumed.of_value d k g (omega (arith, least_high frames)) (Spells.atom e)

-- a quantifier's word as an operator
word_as : (ts us : List Symbol) (op : Prefix) (word : Word) (place : Span) → counting_word op ≡ Some word →
    ts ++ tok (t.Word word) place ∷ us ≡ (ts ++ tok (prefix_kind op) place ∷ []) ++ us
word_as ts us op word place e = ap (λ k. ts ++ tok k place ∷ us) (sym (counting_kind op word e)) ∙ sym (append_assoc ts (tok (prefix_kind op) place ∷ []) us)

disjoint_after_sound : (frames : List Frame) (ts : List Symbol) (place at : Span) (op : Prefix) (o : Option Word) → counting_word op ≡ o →
    Before frames ts → InExpr frames →
    After (ts ++ tok (prefix_kind op) place ∷ []) (t.Word w.Disj) at (disjoint_after frames place o)
unfolding disjoint_after
disjoint_after_sound frames ts place at op None e d k = tt
disjoint_after_sound frames ts place at op (Some word) e d k =
    tested _ (t.Word w.Disj) at (nat_le (least frames) 0) (frames, m.Names place word true [])
    (λ c. read_as (word_as ts _ op word place e) (Consumed.of_names at {disj = true} d k (le_of _ _ c) (counting_quant op word e) NamesRead.none))

disjoint_sound : {frames : List Frame} {ts : List Symbol} → Before frames ts → (at : Span) → After ts (t.Word w.Disj) at (disjoint frames)
unfolding disjoint
disjoint_sound (Before.unary {at = place} {op = op} {frames = frames} {ts = ts} d k g l) at = disjoint_after_sound frames ts place at op (counting_word op) refl d k
disjoint_sound _ at = tt

pub operand_sound : (frames : List Frame) (ts : List Symbol) (kind : TokenKind) (at : Span) →
    Before frames ts → InExpr frames → Guard frames (tok kind at ∷ []) →
    After ts kind at (operand frames kind at)
unfolding operand
operand_sound frames ts (t.Name n) at d k g = Consumed.of_named d k
operand_sound frames ts (t.Sign s.ParenOpen) at d k g = Consumed.of_operand (Before.paren at d k (omega (arith, least_high frames))) tt tt
operand_sound frames ts (t.Word w.If) at d k g =
    tested ts (t.Word w.If) at (nat_le (least frames) 0) (f.Condition at ∷ frames, m.Operand)
    (λ c. Consumed.of_operand (Before.condition d k (le_of _ _ c)) tt tt)
operand_sound frames ts (t.Word w.All) at d k g =
    tested ts (t.Word w.All) at (nat_le (least frames) 0) (frames, m.Names at w.All false [])
    (λ c. Consumed.of_names at {disj = false} d k (le_of _ _ c) refl NamesRead.none)
operand_sound frames ts (t.Word w.Disj) at d k g = disjoint_sound d at
operand_sound frames ts kind at d k g = atom_sound frames ts kind at (atom_tree kind at) refl d k g

-- ---- variables

names_sound : (frames : List Frame) (ts ns : List Symbol) (place d : Span) (word : Word) (disj : Bool) (vars : List Title) (kind : TokenKind) (at : Span) →
    Before frames ts → InExpr frames → least frames ≤ 0 → is_quant word ≡ true → NamesRead ns vars →
    After (ts ++ tok (t.Word word) place ∷ (disj_part disj d ++ ns)) kind at (names frames place word disj vars kind at)
unfolding names
names_sound frames ts ns place d word disj vars (t.Name n) at b k l q v = read_as (simp append_assoc) (Consumed.of_listed d {disj = disj} b k l q (named_more v))
  where
    named_more : {ns : List Symbol} {vars : List Title} → NamesRead ns vars → SpellsNames (ns ++ tok (t.Name n) at ∷ []) (vars ++ title n at ∷ [])
    named_more NamesRead.none = SpellsNames.one
    named_more (NamesRead.more c {ns = ns} w) = rw (append_assoc ns (tok (t.Sign s.Semicolon) c ∷ []) (tok (t.Name n) at ∷ [])) (SpellsNames.more c at n w)
names_sound frames ts ns place d word false [] (t.Word w.Disj) at b k l q v = go v
  where
    go : {ns : List Symbol} → NamesRead ns [] → Consumed (frames, m.Names place word true []) ((ts ++ tok (t.Word word) place ∷ ns) ++ tok (t.Word w.Disj) at ∷ [])
    go o = go2 o refl
      where
        go2 : {ns : List Symbol} {vars : List Title} → NamesRead ns vars → vars ≡ [] → Consumed (frames, m.Names place word true []) ((ts ++ tok (t.Word word) place ∷ ns) ++ tok (t.Word w.Disj) at ∷ [])
        go2 NamesRead.none e = read_as (simp append_assoc) (Consumed.of_names at {disj = true} b k l q NamesRead.none)
        go2 (NamesRead.more c o) e = absurd (some_names o e)
          where
            some_names : {ns : List Symbol} {vars : List Title} → SpellsNames ns vars → vars ≡ [] → ⊥
            some_names SpellsNames.one e = cc
            some_names (SpellsNames.more z a n {names = vars} o) e = last_is vars e
              where
                last_is : (vars : List Title) → vars ++ title n a ∷ [] ≡ [] → ⊥
                last_is [] e = cc
                last_is (x ∷ vars) e = cc
names_sound frames ts ns place d word disj vars _ at b k l q v = tt

listed_sound : (frames : List Frame) (ts ns : List Symbol) (place d : Span) (word : Word) (disj : Bool) (vars : List Title) (kind : TokenKind) (at : Span) →
    Before frames ts → InExpr frames → least frames ≤ 0 → is_quant word ≡ true → SpellsNames ns vars →
    After (ts ++ tok (t.Word word) place ∷ (disj_part disj d ++ ns)) kind at (listed frames place word disj vars kind)
unfolding listed
listed_sound frames ts ns place d word disj vars (t.Sign s.Semicolon) at b k l q v = read_as (simp append_assoc) (Consumed.of_names d {disj = disj} b k l q (NamesRead.more at v))
listed_sound frames ts ns place d word disj vars (t.Sign s.Colon) at b k l q v = read_as (simp append_assoc) (Consumed.of_operand (Before.range d at {disj = disj} b k l q v) tt tt)
listed_sound frames ts ns place d word disj vars _ at b k l q v = tt

variable_after_sound : (frames : List Frame) (ts : List Symbol) (place : Span) (op : Prefix) (n : List ℕ) (a : Span) (kind : TokenKind) (at : Span) (o : Option Word) → counting_word op ≡ o →
    Before frames ts → InExpr frames →
    After ((ts ++ tok (prefix_kind op) place ∷ []) ++ tok (t.Name n) a ∷ []) kind at (variable_after frames place o (title n a) kind)
unfolding variable_after
variable_after_sound frames ts place op n a kind at None e d k = tt
variable_after_sound frames ts place op n a kind at (Some word) e d k =
    tested_step _ kind at (nat_le (least frames) 0) (listed frames place word false (title n a ∷ []) kind)
    (λ c. after_as kind at (listed frames place word false (title n a ∷ []) kind) (word_as ts _ op word place e)
    (listed_sound frames ts (tok (t.Name n) a ∷ []) place place word false (title n a ∷ []) kind at d k (le_of _ _ c) (counting_quant op word e) SpellsNames.one))

variable_sound : {frames : List Frame} {ts : List Symbol} → Before frames ts → (n : List ℕ) (a : Span) (kind : TokenKind) (at : Span) →
    After (ts ++ tok (t.Name n) a ∷ []) kind at (variable frames (title n a) kind)
unfolding variable
variable_sound (Before.unary {at = place} {op = op} {frames = frames} {ts = ts} d k g l) n a kind at = variable_after_sound frames ts place op n a kind at (counting_word op) refl d k
variable_sound _ n a kind at = tt

-- ---- the ends of constructs

paren_sound : (frames : List Frame) (ts us : List Symbol) (x : Expr) (level : ℕ) (a : Span) (kind : TokenKind) (at : Span) →
    Before frames ts → InExpr frames → least frames ≤ 14 → Spells level us x →
    After ((ts ++ tok (t.Sign s.ParenOpen) a ∷ []) ++ us) kind at (close_paren frames x kind)
unfolding close_paren
paren_sound frames ts us x level a (t.Sign s.ParenClose) at d k l v =
    read_as (simp append_assoc) (Consumed.of_value d k (guard_any frames _ (λ h. cc)) l (Spells.paren {a = a} at (Spells.looser (omega arith) v)))
paren_sound frames ts us x level a _ at d k l v = tt

condition_sound : (frames : List Frame) (ts us : List Symbol) (x : Expr) (level : ℕ) (place : Span) (kind : TokenKind) (at : Span) →
    Before frames ts → InExpr frames → least frames ≤ 0 → Spells level us x →
    After ((ts ++ tok (t.Word w.If) place ∷ []) ++ us) kind at (close_condition frames place x kind)
unfolding close_condition
condition_sound frames ts us x level place (t.Word w.Then) at d k l v =
    read_as (simp append_assoc) (Consumed.of_operand (Before.consequence at d k l (Spells.looser (omega arith) v)) tt tt)
condition_sound frames ts us x level place _ at d k l v = tt

consequence_sound : (frames : List Frame) (ts us vs : List Symbol) (x y : Expr) (level : ℕ) (place a : Span) (kind : TokenKind) (at : Span) →
    Before frames ts → InExpr frames → least frames ≤ 0 → Spells 0 us x → Spells level vs y →
    After ((ts ++ tok (t.Word w.If) place ∷ (us ++ tok (t.Word w.Then) a ∷ [])) ++ vs) kind at (close_consequence frames place x y kind)
unfolding close_consequence
consequence_sound frames ts us vs x y level place a (t.Word w.Else) at d k l v w =
    read_as (simp append_assoc) (Consumed.of_operand (Before.alternative a at d k l v (Spells.looser (omega arith) w)) tt tt)
consequence_sound frames ts us vs x y level place a _ at d k l v w = tt

range_sound : (frames : List Frame) (ts ns us : List Symbol) (x : Expr) (level : ℕ) (place d c : Span) (word : Word) (disj : Bool) (vars : List Title) (kind : TokenKind) (at : Span) →
    Before frames ts → InExpr frames → least frames ≤ 0 → is_quant word ≡ true → SpellsNames ns vars → 11 ≤ level → Spells level us x →
    After ((ts ++ tok (t.Word word) place ∷ (disj_part disj d ++ (ns ++ tok (t.Sign s.Colon) c ∷ []))) ++ us) kind at (close_range frames place word disj vars x kind)
unfolding close_range
range_sound frames ts ns us x level place d c word disj vars (t.Sign s.Bar) at b k l q v h o =
    read_as (simp append_assoc) (Consumed.of_operand (Before.body d c at {disj = disj} b k l q v (Spells.looser h o)) tt tt)
range_sound frames ts ns us x level place d c word disj vars _ at b k l q v h o = tt

-- ---- brackets and goals

-- a further expression of a bracket
abbrev Further : List Expr → List Symbol → Type 0
Further [] us = Unit {0}
Further (x ∷ xs) us = FirstNotMinus us

pub no_minus_of : (us : List Symbol) → FirstNotMinus us → NoMinus us
no_minus_of [] h = tt
no_minus_of (x ∷ us) h = h

parts_more : {vs us : List Symbol} {parts : List Expr} {x : Expr} → PartsRead vs parts → Further parts us → Spells 0 us x → PartsRead (vs ++ us) (parts ++ x ∷ [])
parts_more {us = us} {x = x} PartsRead.none g v = subst (λ l. PartsRead l (x ∷ [])) (append-nil us) (PartsRead.some v SpellsMore.none)
parts_more {us = us} (PartsRead.some p w) g v = rw append_assoc (PartsRead.some p (more_append w (no_minus_of us g) v))

abbrev NonEmpty : List Expr → Type 0
NonEmpty [] = ⊥
NonEmpty (x ∷ xs) = Unit {0}

non_empty : (parts : List Expr) (x : Expr) → NonEmpty (parts ++ x ∷ [])
non_empty [] x = tt
non_empty (p ∷ ps) x = tt

items_bracket : {us ws : List Symbol} {xs : List Item} {parts : List Expr} {end : Ending} (place z : Span) → ItemsRead us xs end → PartsRead ws parts → NonEmpty parts →
    ItemsRead (us ++ tok (t.Sign s.BracketOpen) place ∷ (ws ++ tok (t.Sign s.BracketClose) z ∷ [])) (xs ++ i.Constraint place parts ∷ []) free
items_bracket place z r PartsRead.none h = absurd h
items_bracket {us = us} {xs = xs} {end = end} place z r (PartsRead.some {ts = vs} {us = ws} {x = x} {xs = parts} v w) h = record {
  spells = λ ts ys e o. moved (simp append_assoc) (sym (append_assoc xs _ ys))
      (r.spells (tok (t.Sign s.BracketOpen) place ∷ (vs ++ (ws ++ tok (t.Sign s.BracketClose) z ∷ ts))) (i.Constraint place (x ∷ parts) ∷ ys) (may_bracket end) (SpellsItems.bracket z v w o));
  begins = λ ts e o. moved_begins (simp append_assoc)
      (r.begins (tok (t.Sign s.BracketOpen) place ∷ (vs ++ (ws ++ tok (t.Sign s.BracketClose) z ∷ ts))) (may_bracket end) (BeginsItems.bracket z v w o));
}

items_goal : (kind : TokenKind) {us ws : List Symbol} {xs : List Item} {end : Ending} {least_first : Bool} {x : Expr} (place a z : Span) → ItemsRead us xs end →
    least_of kind ≡ Some least_first → Spells 0 ws x →
    ItemsRead (us ++ tok (t.Sign s.GoalOpen) place ∷ tok kind a ∷ (ws ++ tok (t.Sign s.GoalClose) z ∷ [])) (xs ++ i.Goal place least_first x ∷ []) free
items_goal kind {us = us} {ws = ws} {xs = xs} {end = end} {least_first = least_first} {x = x} place a z r g v = record {
  spells = λ ts ys e o. moved (simp append_assoc) (sym (append_assoc xs _ ys))
      (r.spells (tok (t.Sign s.GoalOpen) place ∷ tok kind a ∷ (ws ++ tok (t.Sign s.GoalClose) z ∷ ts)) (i.Goal place least_first x ∷ ys) (may_goal end) (SpellsItems.goal z g v o));
  begins = λ ts e o. moved_begins (simp append_assoc)
      (r.begins (tok (t.Sign s.GoalOpen) place ∷ tok kind a ∷ (ws ++ tok (t.Sign s.GoalClose) z ∷ ts)) (may_goal end) (BeginsItems.goal z g v o));
}

guard_bracket : (frames : List Frame) (items : List Item) (place : Span) (parts : List Expr) (us : List Symbol) → FirstNotMinus us →
    Guard (f.Bracket items place parts ∷ frames) us
guard_bracket frames items place parts us h = guard_any (f.Bracket items place parts ∷ frames) us h

-- The bracket's next expression, or its end.
bracket_sound : (frames : List Frame) (items : List Item) (place : Span) (parts : List Expr) (ts us ws : List Symbol) (end : Ending) (kind : TokenKind) (at : Span) →
    Before frames ts → InBody frames → ItemsRead us items end → PartsRead ws parts → NonEmpty parts →
    After (ts ++ (us ++ tok (t.Sign s.BracketOpen) place ∷ ws)) kind at (close_bracket frames items place parts kind at)
unfolding close_bracket
bracket_sound frames items place parts ts us ws end (t.Sign s.BracketClose) at d k r p h =
    read_as (simp append_assoc) (Consumed.of_items d k (items_bracket place at r p h))
bracket_sound frames items place parts ts us ws end (t.Sign s.Minus) at d k r p h = tt
bracket_sound frames items place parts ts us ws end kind at d k r p h =
    operand_sound (f.Bracket items place parts ∷ frames) _ kind at (Before.bracket d k r p) tt (guard_bracket frames items place parts _ (λ e. cc))

goal_sound : (frames : List Frame) (items : List Item) (place a : Span) (word : TokenKind) (least_first : Bool) (ts us ws : List Symbol) (end : Ending) (x : Expr) (level : ℕ) (kind : TokenKind) (at : Span) →
    Before frames ts → InBody frames → ItemsRead us items end → least_of word ≡ Some least_first → Spells level ws x →
    After ((ts ++ (us ++ tok (t.Sign s.GoalOpen) place ∷ tok word a ∷ [])) ++ ws) kind at (close_goal frames items place least_first x kind)
unfolding close_goal
goal_sound frames items place a word least_first ts us ws end x level (t.Sign s.GoalClose) at d k r g v =
    read_as (simp append_assoc) (Consumed.of_items d k (items_goal word place a at r g (Spells.looser (omega arith) v)))
goal_sound frames items place a word least_first ts us ws end x level _ at d k r g v = tt

further_guard : (frames : List Frame) (items : List Item) (place : Span) (parts : List Expr) (us : List Symbol) → Guard (f.Bracket items place parts ∷ frames) us → Further parts us
further_guard frames items place [] us g = tt
further_guard frames items place (x ∷ xs) us g = g

-- ---- items

block_sound : {frames : List Frame} {ts : List Symbol} → Before frames ts → InBody frames → (us : List Symbol) (xs : List Item) (end : Ending) (at : Span) → ItemsRead us xs end →
    After (ts ++ us) t.Close at (close_block frames xs)
unfolding close_block
block_sound (Before.block a {frames = frames} {ts = ts} {us = ys} {hs = hs} {ss = ss} d j r v w g) k us xs end at o =
    read_as (simp append_assoc) (Consumed.of_items d j (items_block a at r v w g (all_items o)))
block_sound _ k us xs end at o = tt

finish_sound : {frames : List Frame} {ts : List Symbol} → Before frames ts → InBody frames → (us : List Symbol) (xs : List Item) (end : Ending) (at : Span) → ItemsRead us xs end →
    After (ts ++ us) t.End at (finish frames xs)
unfolding finish
finish_sound Before.nothing k us xs end at o = Consumed.of_done (SpellsModule.module_of at (all_items o))
finish_sound _ k us xs end at o = tt

grouped_sound : (frames : List Frame) (ts us : List Symbol) (xs : List Item) (end : Ending) (kind : TokenKind) (at : Span) (o : Option Interval) → group_of kind ≡ o →
    Before frames ts → InBody frames → ItemsRead us xs end → MayFollow end kind → After (ts ++ us) kind at (grouped frames xs at false o)
unfolding grouped
grouped_sound frames ts us xs end kind at None e d k r g = tt
grouped_sound frames ts us xs end kind at (Some group) e d k r g =
    read_as (sym (append_assoc ts us _)) (Consumed.of_lead {hs = tok kind at ∷ []} d k r g (LeadRead.group_read false at at (SpellsGroup.word e)))

pub item_sound : (frames : List Frame) (ts us : List Symbol) (xs : List Item) (end : Ending) (kind : TokenKind) (at : Span) →
    Before frames ts → InBody frames → ItemsRead us xs end → MayFollow end kind → After (ts ++ us) kind at (item frames xs kind at)
unfolding item reference_stage above_stage
item_sound frames ts us xs end (t.Word w.Abstract) at d k r g = read_as (sym (append_assoc ts us _)) (Consumed.of_lead d k r g LeadRead.abstract_word)
item_sound frames ts us xs end (t.Number n) at d k r g = read_as (sym (append_assoc ts us _)) (Consumed.of_lead d k r g (LeadRead.low_bound false at at {low = n}))
item_sound frames ts us xs end (t.Name n) at d k r g =
    read_as (sym (append_assoc ts us _)) (Consumed.of_head {hs = tok (t.Name n) at ∷ []} d k r g (StageRead.early_read at n (SpellsLead.lead false at SpellsGroup.none) SpellsAbove.none SpellsReference.none))
item_sound frames ts us xs end (t.Word w.Enum) at d k r g = read_as (sym (append_assoc ts us _)) (Consumed.of_enum d k r)
item_sound frames ts us xs end (t.Sign s.BracketOpen) at d k r g = read_as (sym (append_assoc ts us _)) (Consumed.of_operand (Before.bracket d k r PartsRead.none) tt tt)
item_sound frames ts us xs end (t.Sign s.GoalOpen) at d k r g = read_as (sym (append_assoc ts us _)) (Consumed.of_goal d k r)
item_sound frames ts us xs end t.Next at d k r g = read_as (sym (append_assoc ts us _)) (Consumed.of_items d k (items_next at r))
item_sound frames ts us xs end t.Close at d k r g = block_sound d k us xs end at r
item_sound frames ts us xs end t.End at d k r g = finish_sound d k us xs end at r
item_sound frames ts us xs end kind at d k r g = grouped_sound frames ts us xs end kind at (group_of kind) refl d k r g

-- ---- heads

-- What stands around a head.
pub record Around (frames : List Frame) (items : List Item) (ts us hs : List Symbol) (end : Ending) : Type 0 where
  pub before : Before frames ts
  pub body : InBody frames
  pub read : ItemsRead us items end
  pub follows : FirstFollows end hs

three : (ts us hs ws : List Symbol) → ts ++ (us ++ (hs ++ ws)) ≡ (ts ++ (us ++ hs)) ++ ws
three ts us hs ws = simp append_assoc

still_lead : (frames : List Frame) (items : List Item) (ts us hs : List Symbol) (end : Ending) (l : Lead) (kind : TokenKind) (at : Span) →
    Around frames items ts us hs end → LeadRead (hs ++ tok kind at ∷ []) l → Consumed (frames, m.Lead items l) ((ts ++ (us ++ hs)) ++ tok kind at ∷ [])
still_lead frames items ts us hs end l kind at c v = read_as (three ts us hs _) (Consumed.of_lead c.before c.body c.read (first_follows_more end hs _ c.follows) v)

still_head : (frames : List Frame) (items : List Item) (ts us hs : List Symbol) (end : Ending) (h : Head) (st : Stage) (kind : TokenKind) (at : Span) →
    Around frames items ts us hs end → StageRead (hs ++ tok kind at ∷ []) h st → Consumed (frames, m.Head items h st) ((ts ++ (us ++ hs)) ++ tok kind at ∷ [])
still_head frames items ts us hs end h st kind at c v = read_as (three ts us hs _) (Consumed.of_head c.before c.body c.read (first_follows_more end hs _ c.follows) v)

stage_as : {ts us : List Symbol} {h : Head} {st : Stage} → ts ≡ us → StageRead ts h st → StageRead us h st
stage_as {h = h} {st = st} e v = subst (λ l. StageRead l h st) e v

lead_as : {ts us : List Symbol} {l : Lead} → ts ≡ us → LeadRead ts l → LeadRead us l
lead_as {l = l} e v = subst (λ k. LeadRead k l) e v

head_as : {ts us : List Symbol} {h : Head} → ts ≡ us → SpellsHead ts h → SpellsHead us h
head_as {h = h} e v = subst (λ l. SpellsHead l h) e v

tail_sound : (frames : List Frame) (items : List Item) (ts us hs : List Symbol) (end : Ending) (h : Head) (kind : TokenKind) (at : Span) →
    Around frames items ts us hs end → SpellsHead hs h → MayFollow (ending_of h.times) kind → After (ts ++ (us ++ hs)) kind at (tail frames items h kind at)
unfolding tail
tail_sound frames items ts us hs end h (t.Sign s.Equal) at c v g = read_as (three ts us hs _) (Consumed.of_operand (Before.equal c.before c.body c.read v c.follows) tt tt)
tail_sound frames items ts us hs end h t.Open at c v g =
    read_as (append-nil _ ∙ three ts us hs _) (Consumed.of_items (Before.block at {ss = []} c.before c.body c.read v SpellsStart.none c.follows) tt no_items)
tail_sound frames items ts us hs end h kind at c v g =
    after_as kind at (item frames (items ++ clafer h None [] ∷ []) kind at) (ap (λ l. ts ++ (us ++ l)) (append-nil hs))
    (item_sound frames ts (us ++ (hs ++ [])) (items ++ clafer h None [] ∷ []) (ending h None) kind at c.before c.body (items_leaf c.read v SpellsStart.none c.follows) g)

with_times_sound : (frames : List Frame) (items : List Item) (ts us : List Symbol) (end : Ending) (n : List ℕ) (z : Span) {hs vs ws : List Symbol}
    {is_abstract : Bool} {group : Option Interval} {above : Option Title} {reference : Option Pointer} (kind : TokenKind) (at : Span) (o : Option Interval) → times_of kind ≡ o →
    Around frames items ts us (hs ++ tok (t.Name n) z ∷ (vs ++ ws)) end → SpellsLead hs is_abstract group → SpellsAbove vs above → SpellsReference ws reference → MayFollow bare kind →
    After (ts ++ (us ++ (hs ++ tok (t.Name n) z ∷ (vs ++ ws)))) kind at (with_times frames items (head (place_of hs z) is_abstract group (title n z) above reference None) kind at o)
unfolding with_times
with_times_sound frames items ts us end n z {hs = hs} {vs = vs} {ws = ws} {is_abstract = is_abstract} {group = group} {above = above} {reference = reference} kind at None e c l a r g =
    tail_sound frames items ts us _ end _ kind at c (head_as (ap (λ q. hs ++ tok (t.Name n) z ∷ (vs ++ q)) (append-nil ws)) (SpellsHead.head_of z n l a r SpellsTimes.none)) g
with_times_sound frames items ts us end n z {hs = hs} {vs = vs} {ws = ws} {is_abstract = is_abstract} {group = group} {above = above} {reference = reference} kind at (Some multiplicity) e c l a r g =
    still_head frames items ts us _ end _ stage.Times kind at c (stage_as (simp append_assoc) (StageRead.multiplied z n l a r (SpellsTimes.sign {at = at} e)))

times_sound : (frames : List Frame) (items : List Item) (ts us : List Symbol) (end : Ending) (n : List ℕ) (z : Span) {hs vs ws : List Symbol}
    {is_abstract : Bool} {group : Option Interval} {above : Option Title} {reference : Option Pointer} (kind : TokenKind) (at : Span) →
    Around frames items ts us (hs ++ tok (t.Name n) z ∷ (vs ++ ws)) end → SpellsLead hs is_abstract group → SpellsAbove vs above → SpellsReference ws reference →
    After (ts ++ (us ++ (hs ++ tok (t.Name n) z ∷ (vs ++ ws)))) kind at (times frames items (head (place_of hs z) is_abstract group (title n z) above reference None) kind at)
unfolding times
times_sound frames items ts us end n z {hs = hs} {vs = vs} {ws = ws} (t.Number low) at c l a r =
    still_head frames items ts us _ end _ (stage.Low low) (t.Number low) at c (stage_as (simp append_assoc) (StageRead.low_read z at n {low = low} l a r))
times_sound frames items ts us end n z kind at c l a r = with_times_sound frames items ts us end n z kind at (times_of kind) refl c l a r tt

with_arrow_sound : (frames : List Frame) (items : List Item) (ts us : List Symbol) (end : Ending) (n : List ℕ) (z : Span) {hs vs : List Symbol}
    {is_abstract : Bool} {group : Option Interval} {above : Option Title} (kind : TokenKind) (at : Span) (o : Option Bool) → bag_of kind ≡ o →
    Around frames items ts us (hs ++ tok (t.Name n) z ∷ (vs ++ [])) end → SpellsLead hs is_abstract group → SpellsAbove vs above →
    After (ts ++ (us ++ (hs ++ tok (t.Name n) z ∷ (vs ++ [])))) kind at (with_arrow frames items (head (place_of hs z) is_abstract group (title n z) above None None) kind at o)
unfolding with_arrow
with_arrow_sound frames items ts us end n z kind at None e c l a = times_sound frames items ts us end n z kind at c l a SpellsReference.none
with_arrow_sound frames items ts us end n z {hs = hs} {vs = vs} kind at (Some bag) e c l a =
    still_head frames items ts us _ end _ (stage.Arrow at bag) kind at c (stage_as (simp append_assoc) (StageRead.arrow_read z n kind {a = at} l a e))

early_sound : (frames : List Frame) (items : List Item) (ts us : List Symbol) (end : Ending) (n : List ℕ) (z : Span) {hs vs ws : List Symbol}
    {is_abstract : Bool} {group : Option Interval} {above : Option Title} {reference : Option Pointer} (kind : TokenKind) (at : Span) →
    Around frames items ts us (hs ++ tok (t.Name n) z ∷ (vs ++ ws)) end → SpellsLead hs is_abstract group → SpellsAbove vs above → SpellsReference ws reference →
    After (ts ++ (us ++ (hs ++ tok (t.Name n) z ∷ (vs ++ ws)))) kind at (head_at frames items (head (place_of hs z) is_abstract group (title n z) above reference None) (reference_stage above reference) kind at)
unfolding head_at reference_stage above_stage
early_sound frames items ts us end n z {hs = hs} (t.Sign s.Colon) at c l SpellsAbove.none SpellsReference.none =
    still_head frames items ts us _ end _ stage.Colon (t.Sign s.Colon) at c (stage_as (simp append_assoc) (StageRead.colon_read z at n l))
early_sound frames items ts us end n z kind at c l SpellsAbove.none SpellsReference.none = with_arrow_sound frames items ts us end n z kind at (bag_of kind) refl c l SpellsAbove.none
early_sound frames items ts us end n z kind at c l (SpellsAbove.super {c = y} {at = x} {n = name}) SpellsReference.none =
    with_arrow_sound frames items ts us end n z kind at (bag_of kind) refl c l (SpellsAbove.super {c = y} {at = x} {n = name})
early_sound frames items ts us end n z kind at c l a (SpellsReference.arrow e g) = times_sound frames items ts us end n z kind at c l a (SpellsReference.arrow e g)

colon_sound : (frames : List Frame) (items : List Item) (ts us : List Symbol) (end : Ending) (n : List ℕ) (z y : Span) {hs : List Symbol}
    {is_abstract : Bool} {group : Option Interval} (kind : TokenKind) (at : Span) →
    Around frames items ts us (hs ++ tok (t.Name n) z ∷ tok (t.Sign s.Colon) y ∷ []) end → SpellsLead hs is_abstract group →
    After (ts ++ (us ++ (hs ++ tok (t.Name n) z ∷ tok (t.Sign s.Colon) y ∷ []))) kind at (head_at frames items (head (place_of hs z) is_abstract group (title n z) None None None) stage.Colon kind at)
unfolding head_at reference_stage above_stage
colon_sound frames items ts us end n z y {hs = hs} (t.Name name) at c l =
    still_head frames items ts us _ end _ stage.Above (t.Name name) at c (stage_as (simp append_assoc) (StageRead.early_read z n l (SpellsAbove.super {c = y} {at = at} {n = name}) SpellsReference.none))
colon_sound frames items ts us end n z y _ at c l = tt

targeted_sound : (frames : List Frame) (items : List Item) (ts us : List Symbol) (end : Ending) (n : List ℕ) (z a : Span) (arrow : TokenKind) (bag : Bool) {hs vs : List Symbol}
    {is_abstract : Bool} {group : Option Interval} {above : Option Title} (kind : TokenKind) (at : Span) (o : Option (Option Title)) → target_of kind at ≡ o →
    Around frames items ts us (hs ++ tok (t.Name n) z ∷ (vs ++ tok arrow a ∷ [])) end → SpellsLead hs is_abstract group → SpellsAbove vs above → bag_of arrow ≡ Some bag →
    After (ts ++ (us ++ (hs ++ tok (t.Name n) z ∷ (vs ++ tok arrow a ∷ [])))) kind at (targeted frames items (head (place_of hs z) is_abstract group (title n z) above None None) a bag o)
unfolding targeted reference_stage
targeted_sound frames items ts us end n z a arrow bag kind at None e c l v g = tt
targeted_sound frames items ts us end n z a arrow bag {hs = hs} {vs = vs} kind at (Some to) e c l v g =
    still_head frames items ts us _ end _ stage.Target kind at c (stage_as (simp append_assoc) (StageRead.early_read z n l v (SpellsReference.arrow {a = a} {z = at} g e)))

low_sound : (frames : List Frame) (items : List Item) (ts us : List Symbol) (end : Ending) (n : List ℕ) (z y : Span) (low : ℕ) {hs vs ws : List Symbol}
    {is_abstract : Bool} {group : Option Interval} {above : Option Title} {reference : Option Pointer} (kind : TokenKind) (at : Span) →
    Around frames items ts us (hs ++ tok (t.Name n) z ∷ (vs ++ (ws ++ tok (t.Number low) y ∷ []))) end → SpellsLead hs is_abstract group → SpellsAbove vs above → SpellsReference ws reference →
    After (ts ++ (us ++ (hs ++ tok (t.Name n) z ∷ (vs ++ (ws ++ tok (t.Number low) y ∷ []))))) kind at
    (low_times frames items (head (place_of hs z) is_abstract group (title n z) above reference (Some (interval low (Some low)))) low kind at)
unfolding low_times
low_sound frames items ts us end n z y low {hs = hs} {vs = vs} {ws = ws} (t.Sign s.DotDot) at c l a r =
    still_head frames items ts us _ end _ (stage.Dots low) (t.Sign s.DotDot) at c (stage_as (simp append_assoc) (StageRead.dots_read z y at n {low = low} l a r))
low_sound frames items ts us end n z y low kind at c l a r = tail_sound frames items ts us _ end _ kind at c (SpellsHead.head_of z n l a r (SpellsTimes.exact {at = y} {n = low})) tt

high_sound : (frames : List Frame) (items : List Item) (ts us : List Symbol) (end : Ending) (n : List ℕ) (z y d : Span) (low : ℕ) {hs vs ws : List Symbol}
    {is_abstract : Bool} {group : Option Interval} {above : Option Title} {reference : Option Pointer} (kind : TokenKind) (at : Span) (o : Option (Option ℕ)) → bound_of kind ≡ o →
    Around frames items ts us (hs ++ tok (t.Name n) z ∷ (vs ++ (ws ++ tok (t.Number low) y ∷ tok (t.Sign s.DotDot) d ∷ []))) end → SpellsLead hs is_abstract group → SpellsAbove vs above → SpellsReference ws reference →
    After (ts ++ (us ++ (hs ++ tok (t.Name n) z ∷ (vs ++ (ws ++ tok (t.Number low) y ∷ tok (t.Sign s.DotDot) d ∷ []))))) kind at
    (high_times frames items (head (place_of hs z) is_abstract group (title n z) above reference (Some (interval low (Some low)))) low o)
unfolding high_times
high_sound frames items ts us end n z y d low kind at None e c l a r = tt
high_sound frames items ts us end n z y d low {hs = hs} {vs = vs} {ws = ws} kind at (Some high) e c l a r =
    still_head frames items ts us _ end _ stage.Times kind at c (stage_as (simp append_assoc) (StageRead.multiplied z n l a r (SpellsTimes.range {at = y} {d = d} {z = at} e)))

multiplied_sound : (frames : List Frame) (items : List Item) (ts us hs : List Symbol) (end : Ending) (h : Head) (multiplicity : Interval) (kind : TokenKind) (at : Span) →
    Around frames items ts us hs end → SpellsHead hs h → h.times ≡ Some multiplicity → After (ts ++ (us ++ hs)) kind at (tail frames items h kind at)
multiplied_sound frames items ts us hs end h multiplicity kind at c v e =
    tail_sound frames items ts us hs end h kind at c v (subst (λ o. MayFollow (ending_of o) kind) (sym e) tt)

head_sound : {hs : List Symbol} {h : Head} {st : Stage} → StageRead hs h st → (frames : List Frame) (items : List Item) (ts us : List Symbol) (end : Ending) (kind : TokenKind) (at : Span) →
    Around frames items ts us hs end → After (ts ++ (us ++ hs)) kind at (head_at frames items h st kind at)
unfolding head_at
head_sound (StageRead.early_read z n l a r) frames items ts us end kind at c = early_sound frames items ts us end n z kind at c l a r
head_sound (StageRead.colon_read z y n l) frames items ts us end kind at c = colon_sound frames items ts us end n z y kind at c l
head_sound (StageRead.arrow_read z n arrow {a = a} {bag = bag} l v g) frames items ts us end kind at c = targeted_sound frames items ts us end n z a arrow bag kind at (target_of kind at) refl c l v g
head_sound (StageRead.low_read z y n {low = low} l a r) frames items ts us end kind at c = low_sound frames items ts us end n z y low kind at c l a r
head_sound (StageRead.dots_read z y d n {low = low} l a r) frames items ts us end kind at c = high_sound frames items ts us end n z y d low kind at (bound_of kind) refl c l a r
head_sound (StageRead.multiplied z n {multiplicity = multiplicity} l a r v) frames items ts us end kind at c = multiplied_sound frames items ts us _ end _ multiplicity kind at c (SpellsHead.head_of z n l a r v) refl

-- ---- before a clafer's name

abstract_group_sound : (frames : List Frame) (items : List Item) (ts us : List Symbol) (end : Ending) (a : Span) (kind : TokenKind) (at : Span) (o : Option Interval) → group_of kind ≡ o →
    Around frames items ts us (tok (t.Word w.Abstract) a ∷ []) end →
    After (ts ++ (us ++ tok (t.Word w.Abstract) a ∷ [])) kind at (grouped frames items a true o)
unfolding grouped
abstract_group_sound frames items ts us end a kind at None e c = tt
abstract_group_sound frames items ts us end a kind at (Some group) e c =
    still_lead frames items ts us (tok (t.Word w.Abstract) a ∷ []) end _ kind at c (LeadRead.group_read true a a (SpellsGroup.word {at = at} e))

abstract_sound : (frames : List Frame) (items : List Item) (ts us : List Symbol) (end : Ending) (a : Span) (kind : TokenKind) (at : Span) →
    Around frames items ts us (tok (t.Word w.Abstract) a ∷ []) end →
    After (ts ++ (us ++ tok (t.Word w.Abstract) a ∷ [])) kind at (lead_at frames items (record { at = a; is_abstract = true; front = front.Abstract }) front.Abstract kind at)
unfolding lead_at reference_stage above_stage
abstract_sound frames items ts us end a (t.Name n) at c =
    still_head frames items ts us (tok (t.Word w.Abstract) a ∷ []) end _ stage.Titled (t.Name n) at c (StageRead.early_read at n (SpellsLead.lead true a SpellsGroup.none) SpellsAbove.none SpellsReference.none)
abstract_sound frames items ts us end a (t.Number low) at c = still_lead frames items ts us (tok (t.Word w.Abstract) a ∷ []) end _ (t.Number low) at c (LeadRead.low_bound true a at {low = low})
abstract_sound frames items ts us end a kind at c = abstract_group_sound frames items ts us end a kind at (group_of kind) refl c

low_group_sound : (frames : List Frame) (items : List Item) (ts us : List Symbol) (end : Ending) (is_abstract : Bool) (a z : Span) (low : ℕ) (kind : TokenKind) (at : Span) →
    Around frames items ts us (abstract_part is_abstract a ++ tok (t.Number low) z ∷ []) end →
    After (ts ++ (us ++ (abstract_part is_abstract a ++ tok (t.Number low) z ∷ []))) kind at
    (lead_at frames items (record { at = place_of (abstract_part is_abstract a) z; is_abstract = is_abstract; front = front.Low low }) (front.Low low) kind at)
unfolding lead_at
low_group_sound frames items ts us end is_abstract a z low (t.Sign s.DotDot) at c =
    still_lead frames items ts us _ end _ (t.Sign s.DotDot) at c (lead_as (simp append_assoc) (LeadRead.dots_bound is_abstract a z at {low = low}))
low_group_sound frames items ts us end is_abstract a z low _ at c = tt

bounded_sound : (frames : List Frame) (items : List Item) (ts us : List Symbol) (end : Ending) (is_abstract : Bool) (a z d : Span) (low : ℕ) (kind : TokenKind) (at : Span) (o : Option (Option ℕ)) → bound_of kind ≡ o →
    Around frames items ts us (abstract_part is_abstract a ++ tok (t.Number low) z ∷ tok (t.Sign s.DotDot) d ∷ []) end →
    After (ts ++ (us ++ (abstract_part is_abstract a ++ tok (t.Number low) z ∷ tok (t.Sign s.DotDot) d ∷ []))) kind at
    (bounded frames items (record { at = place_of (abstract_part is_abstract a) z; is_abstract = is_abstract; front = front.Dots low }) low o)
unfolding bounded
bounded_sound frames items ts us end is_abstract a z d low kind at None e c = tt
bounded_sound frames items ts us end true a z d low kind at (Some high) e c =
    still_lead frames items ts us _ end _ kind at c (LeadRead.group_read true a a (SpellsGroup.range {at = z} {d = d} {z = at} e))
bounded_sound frames items ts us end false a z d low kind at (Some high) e c =
    still_lead frames items ts us _ end _ kind at c (LeadRead.group_read false a z (SpellsGroup.range {at = z} {d = d} {z = at} e))

place_same : (is_abstract : Bool) (a z y : Span) {group : Interval} {gs : List Symbol} → SpellsGroup gs (Some group) →
    place_of (abstract_part is_abstract a ++ gs) y ≡ place_of (abstract_part is_abstract a ++ gs) z
place_same true a z y v = refl
place_same false a z y v = go v refl
  where
    go : {gs : List Symbol} {o : Option Interval} → SpellsGroup gs o → {group : Interval} → o ≡ Some group → place_of gs y ≡ place_of gs z
    go SpellsGroup.none e = cc
    go (SpellsGroup.word g) e = refl
    go (SpellsGroup.range g) e = refl

group_sound : (frames : List Frame) (items : List Item) (ts us : List Symbol) (end : Ending) (is_abstract : Bool) (a z : Span) (group : Interval) (gs : List Symbol) (kind : TokenKind) (at : Span) → SpellsGroup gs (Some group) →
    Around frames items ts us (abstract_part is_abstract a ++ gs) end →
    After (ts ++ (us ++ (abstract_part is_abstract a ++ gs))) kind at
    (lead_at frames items (record { at = place_of (abstract_part is_abstract a ++ gs) z; is_abstract = is_abstract; front = front.Grouped group }) (front.Grouped group) kind at)
unfolding lead_at reference_stage above_stage
group_sound frames items ts us end is_abstract a z group gs (t.Name n) at v c =
    subst (λ p. Consumed (frames, m.Head items (head p is_abstract (Some group) (title n at) None None None) stage.Titled) ((ts ++ (us ++ (abstract_part is_abstract a ++ gs))) ++ tok (t.Name n) at ∷ []))
    (place_same is_abstract a z at v)
    (still_head frames items ts us _ end _ stage.Titled (t.Name n) at c (StageRead.early_read at n (SpellsLead.lead is_abstract a v) SpellsAbove.none SpellsReference.none))
group_sound frames items ts us end is_abstract a z group gs _ at v c = tt

lead_sound : {hs : List Symbol} {l : Lead} → LeadRead hs l → (frames : List Frame) (items : List Item) (ts us : List Symbol) (end : Ending) (kind : TokenKind) (at : Span) →
    Around frames items ts us hs end → After (ts ++ (us ++ hs)) kind at (lead_at frames items l l.front kind at)
unfolding lead_at
lead_sound (LeadRead.abstract_word {a = a}) frames items ts us end kind at c = abstract_sound frames items ts us end a kind at c
lead_sound (LeadRead.low_bound is_abstract a z {low = low}) frames items ts us end kind at c = low_group_sound frames items ts us end is_abstract a z low kind at c
lead_sound (LeadRead.dots_bound is_abstract a z d {low = low}) frames items ts us end kind at c = bounded_sound frames items ts us end is_abstract a z d low kind at (bound_of kind) refl c
lead_sound (LeadRead.group_read is_abstract a z {group = group} {gs = gs} v) frames items ts us end kind at c = group_sound frames items ts us end is_abstract a z group gs kind at v c

-- ---- a clafer's expression ends

start_sound : (frames : List Frame) (items : List Item) (ts us hs es : List Symbol) (end : Ending) (h : Head) (place : Span) (x : Expr) (level : ℕ) (kind : TokenKind) (at : Span) →
    Around frames items ts us hs end → SpellsHead hs h → Spells level es x →
    After ((ts ++ (us ++ (hs ++ tok (t.Sign s.Equal) place ∷ []))) ++ es) kind at (close_start frames items h place x kind at)
unfolding close_start
start_sound frames items ts us hs es end h place x level t.Open at c v o =
    read_as (append-nil _ ∙ simp append_assoc)
    (Consumed.of_items (Before.block at c.before c.body c.read v (SpellsStart.start {at = place} (Spells.looser (omega arith) o)) c.follows) tt no_items)
start_sound frames items ts us hs es end h place x level (t.Word w.Xor) at c v o = tt
start_sound frames items ts us hs es end h place x level kind at c v o =
    after_as kind at (item frames (items ++ clafer h (started place x) [] ∷ []) kind at) (simp append_assoc)
    (item_sound frames ts (us ++ (hs ++ tok (t.Sign s.Equal) place ∷ es)) (items ++ clafer h (started place x) [] ∷ []) valued kind at c.before c.body
    (items_leaf c.read v (SpellsStart.start {at = place} (Spells.looser (omega arith) o)) c.follows) tt)

-- ---- an expression ends

reduce_sound : {frames : List Frame} {ts : List Symbol} → Before frames ts → InExpr frames →
    (us : List Symbol) (x : Expr) (level : ℕ) (kind : TokenKind) (at : Span) → Guard frames us → least frames ≤ level → Spells level us x →
    After (ts ++ us) kind at (reduce frames x level kind at)
unfolding reduce
reduce_sound Before.nothing j us x level kind at g l v = tt
reduce_sound (Before.block a d k r o p q) j us x level kind at g l v = tt
reduce_sound (Before.bracket {at = place} {end = end} {frames = frames} {items = items} {parts = parts} {ts = ts} {us = ys} {vs = vs} d k r p) j us x level kind at g l v =
    let w = parts_more p (further_guard frames items place parts us g) (Spells.looser l v) in
    after_as kind at (close_bracket frames items place (parts ++ x ∷ []) kind at) (simp append_assoc)
    (bracket_sound frames items place (parts ++ x ∷ []) ts ys (vs ++ us) end kind at d k r w (non_empty parts x))
reduce_sound (Before.goal word a {at = place} {least_first = least_first} {end = end} {frames = frames} {items = items} {ts = ts} {us = ys} d k r e) j us x level kind at g l v =
    goal_sound frames items place a word least_first ts ys us end x level kind at d k r e v
reduce_sound (Before.equal {at = place} {end = end} {frames = frames} {items = items} {h = h} {ts = ts} {us = ys} {hs = hs} d k r o q) j us x level kind at g l v =
    start_sound frames items ts ys hs us end h place x level kind at (record { before = d; body = k; read = r; follows = q }) o v
reduce_sound (Before.binary a {at = place} {op = op} {frames = frames} {ts = ts} {us = ys} {x = y} d k h l2 o) j us x level kind at g l v =
    let z = infix_tree op place y x in
    let w = Spells.binary op place a o (Spells.looser l v) in
    let h2 = guard_more frames ys (tok (infix_kind op) place ∷ (infix_rest op a ++ us)) h in
    after_as kind at (settle frames z (infix_level op) kind at) (simp append_assoc)
    (either _ kind at (goes_on frames z (infix_level op) kind at) (reduce frames z (infix_level op) kind at)
    (goes_sound frames ts _ z (infix_level op) kind at d k h2 w)
    (reduce_sound d k _ z (infix_level op) kind at h2 l2 w))
reduce_sound (Before.unary {at = place} {op = op} {frames = frames} {ts = ts} d k h l2) j us x level kind at g l v =
    let z = prefix_tree op place x in
    let w = Spells.unary op {at = place} (Spells.looser l v) in
    let h2 = guard_first frames (tok (prefix_kind op) place) us h in
    after_as kind at (settle frames z (prefix_level op) kind at) (simp append_assoc)
    (either _ kind at (goes_on frames z (prefix_level op) kind at) (reduce frames z (prefix_level op) kind at)
    (goes_sound frames ts _ z (prefix_level op) kind at d k h2 w)
    (reduce_sound d k _ z (prefix_level op) kind at h2 l2 w))
reduce_sound (Before.paren a {frames = frames} {ts = ts} d k l2) j us x level kind at g l v = paren_sound frames ts us x level a kind at d k l2 v
reduce_sound (Before.condition {at = place} {frames = frames} {ts = ts} d k l2) j us x level kind at g l v = condition_sound frames ts us x level place kind at d k l2 v
reduce_sound (Before.consequence a {at = place} {frames = frames} {ts = ts} {us = ys} {x = y} d k l2 o) j us x level kind at g l v =
    consequence_sound frames ts ys us y x level place a kind at d k l2 o v
reduce_sound (Before.alternative a c {at = place} {frames = frames} {ts = ts} {us = ys} {vs = vs} {x = y} {y = y2} d k l2 o p) j us x level kind at g l v =
    let z = if_tree place y y2 x in
    let w = Spells.choice a c {at = place} o p (Spells.looser l v) in
    let h2 = guard_any frames _ (λ q. cc) in
    after_as kind at (settle frames z 0 kind at) (simp append_assoc)
    (either _ kind at (goes_on frames z 0 kind at) (reduce frames z 0 kind at)
    (goes_sound frames ts _ z 0 kind at d k h2 w)
    (reduce_sound d k _ z 0 kind at h2 l2 w))
reduce_sound (Before.range e c {at = place} {word = word} {disj = disj} {vars = vars} {frames = frames} {ts = ts} {ns = ns} d k l2 q o) j us x level kind at g l v =
    range_sound frames ts ns us x level place e c word disj vars kind at d k l2 q o l v
reduce_sound (Before.body e c a {at = place} {word = word} {disj = disj} {vars = vars} {frames = frames} {ts = ts} {ns = ns} {us = ys} {x = y} d k l2 q o p) j us x level kind at g l v =
    let z = quant_tree place word disj vars y x in
    let w = Spells.quant disj e c a {at = place} q o p (Spells.looser l v) in
    let h2 = guard_any frames _ (λ q. cc) in
    after_as kind at (settle frames z 0 kind at) (simp append_assoc)
    (either _ kind at (goes_on frames z 0 kind at) (reduce frames z 0 kind at)
    (goes_sound frames ts _ z 0 kind at d k h2 w)
    (reduce_sound d k _ z 0 kind at h2 l2 w))

settle_sound : (frames : List Frame) (ts us : List Symbol) (x : Expr) (level : ℕ) (kind : TokenKind) (at : Span) →
    Before frames ts → InExpr frames → Guard frames us → least frames ≤ level → Spells level us x → After (ts ++ us) kind at (settle frames x level kind at)
settle_sound frames ts us x level kind at d k g l v =
    either _ kind at (goes_on frames x level kind at) (reduce frames x level kind at)
    (goes_sound frames ts us x level kind at d k g v) (reduce_sound d k us x level kind at g l v)

named_sound : (frames : List Frame) (ts : List Symbol) (n : List ℕ) (a : Span) (kind : TokenKind) (at : Span) → Before frames ts → InExpr frames →
    After (ts ++ tok (t.Name n) a ∷ []) kind at (named frames (title n a) kind at)
unfolding named
named_sound frames ts n a (t.Sign s.Semicolon) at d k = variable_sound d n a (t.Sign s.Semicolon) at
named_sound frames ts n a (t.Sign s.Colon) at d k = variable_sound d n a (t.Sign s.Colon) at
named_sound frames ts n a kind at d k =
    settle_sound frames ts (tok (t.Name n) a ∷ []) (name_tree (title n a)) 14 kind at d k (guard_any frames _ (λ q. cc)) (omega (arith, least_high frames)) Spells.name

-- ---- enums

enum_word_sound : (frames : List Frame) (ts us : List Symbol) (items : List Item) (end : Ending) (place : Span) (kind : TokenKind) (at : Span) →
    Before frames ts → InBody frames → ItemsRead us items end → After (ts ++ (us ++ tok (t.Word w.Enum) place ∷ [])) kind at (enum_word frames items place kind at)
unfolding enum_word
enum_word_sound frames ts us items end place (t.Name n) at d k r = read_as (simp append_assoc) (Consumed.of_enum_title {at = place} {a = at} {n = n} d k r)
enum_word_sound frames ts us items end place _ at d k r = tt

enum_title_sound : (frames : List Frame) (ts us : List Symbol) (items : List Item) (end : Ending) (place a : Span) (n : List ℕ) (kind : TokenKind) (at : Span) →
    Before frames ts → InBody frames → ItemsRead us items end → After (ts ++ (us ++ tok (t.Word w.Enum) place ∷ tok (t.Name n) a ∷ [])) kind at (enum_title frames items place (title n a) kind)
unfolding enum_title
enum_title_sound frames ts us items end place a n (t.Sign s.Equal) at d k r = read_as (simp append_assoc) (Consumed.of_member at {at = place} {a = a} {n = n} d k r MembersRead.none)
enum_title_sound frames ts us items end place a n _ at d k r = tt

member_sound : (frames : List Frame) (ts us ms : List Symbol) (items : List Item) (end : Ending) (place a z : Span) (n : List ℕ) (members : List Title) (kind : TokenKind) (at : Span) →
    Before frames ts → InBody frames → ItemsRead us items end → MembersRead ms members →
    After (ts ++ (us ++ tok (t.Word w.Enum) place ∷ tok (t.Name n) a ∷ tok (t.Sign s.Equal) z ∷ ms)) kind at (member frames items place (title n a) members kind at)
unfolding member
member_sound frames ts us ms items end place a z n members (t.Name name) at d k r v = read_as (simp append_assoc) (Consumed.of_members z {at = place} {a = a} {n = n} d k r (member_more v))
  where
    member_more : {ms : List Symbol} {members : List Title} → MembersRead ms members → SpellsMembers (ms ++ tok (t.Name name) at ∷ []) (members ++ title name at ∷ [])
    member_more MembersRead.none = SpellsMembers.one
    member_more (MembersRead.more c {ms = ms} w) = rw (append_assoc ms (tok (t.Sign s.Bar) c ∷ []) (tok (t.Name name) at ∷ [])) (SpellsMembers.more c at name w)
member_sound frames ts us ms items end place a z n members _ at d k r v = tt

members_sound : (frames : List Frame) (ts us ms : List Symbol) (items : List Item) (end : Ending) (place a z : Span) (n : List ℕ) (members : List Title) (kind : TokenKind) (at : Span) →
    Before frames ts → InBody frames → ItemsRead us items end → SpellsMembers ms members →
    After (ts ++ (us ++ tok (t.Word w.Enum) place ∷ tok (t.Name n) a ∷ tok (t.Sign s.Equal) z ∷ ms)) kind at (more_members frames items place (title n a) members kind at)
unfolding more_members
members_sound frames ts us ms items end place a z n members (t.Sign s.Bar) at d k r v = read_as (simp append_assoc) (Consumed.of_member z {at = place} {a = a} {n = n} d k r (MembersRead.more at v))
members_sound frames ts us ms items end place a z n members kind at d k r v =
    item_sound frames ts _ (items ++ i.Enum place (title n a) members ∷ []) free kind at d k (items_enum place a z n r v) tt

goal_word_sound : (frames : List Frame) (ts us : List Symbol) (items : List Item) (end : Ending) (place : Span) (kind : TokenKind) (at : Span) (o : Option Bool) → least_of kind ≡ o →
    Before frames ts → InBody frames → ItemsRead us items end → After (ts ++ (us ++ tok (t.Sign s.GoalOpen) place ∷ [])) kind at (goal_word frames items place o)
unfolding goal_word
goal_word_sound frames ts us items end place kind at None e d k r = tt
goal_word_sound frames ts us items end place kind at (Some least_first) e d k r = read_as (simp append_assoc) (Consumed.of_operand (Before.goal kind at {at = place} d k r e) tt tt)

-- ---- fields and `not in`

field_sound : (frames : List Frame) (ts us : List Symbol) (x : Expr) (a : Span) (kind : TokenKind) (at : Span) (o : Option Expr) → field_tree x kind at ≡ o →
    Before frames ts → InExpr frames → Guard frames us → least frames ≤ 13 → Spells 13 us x →
    After (ts ++ (us ++ tok (t.Sign s.Dot) a ∷ [])) kind at (field_valued frames o)
unfolding field_valued
field_sound frames ts us x a kind at None e d k g l v = tt
field_sound frames ts us x a kind at (Some y) e d k g l v =
    read_as (simp append_assoc) (Consumed.of_value d k (guard_more frames us _ g) l (Spells.join a at kind v e))

not_in_sound : (frames : List Frame) (ts us : List Symbol) (x : Expr) (place : Span) (kind : TokenKind) (at : Span) →
    Before frames ts → InExpr frames → Guard frames us → least frames ≤ infix_level b.NotIn → Spells (left_of (infix_level b.NotIn)) us x →
    After (ts ++ (us ++ tok (t.Word w.Not) place ∷ [])) kind at (not_in (f.Binary place b.NotIn x ∷ frames) kind)
unfolding not_in
not_in_sound frames ts us x place (t.Word w.In) at d k g l v = read_as (simp append_assoc) (Consumed.of_operand (Before.binary at {at = place} {op = b.NotIn} d k g l v) tt tt)
not_in_sound frames ts us x place _ at d k g l v = tt

-- ---- steps and runs

pub step_sound : {v : State} {ts : List Symbol} → Consumed v ts → (kind : TokenKind) (at : Span) → After ts kind at (step v (tok kind at))
unfolding step_at
step_sound (Consumed.of_items {frames = frames} {ts = ts} {us = us} {xs = xs} d k r) kind at = item_sound frames ts us xs free kind at d k r tt
step_sound (Consumed.of_lead {end = end} {frames = frames} {ts = ts} {us = us} {xs = xs} d k r g v) kind at =
    lead_sound v frames xs ts us end kind at (record { before = d; body = k; read = r; follows = g })
step_sound (Consumed.of_head {end = end} {frames = frames} {ts = ts} {us = us} {xs = xs} d k r g v) kind at =
    head_sound v frames xs ts us end kind at (record { before = d; body = k; read = r; follows = g })
step_sound (Consumed.of_enum {at = place} {end = end} {frames = frames} {ts = ts} {us = us} {xs = xs} d k r) kind at = enum_word_sound frames ts us xs end place kind at d k r
step_sound (Consumed.of_enum_title {at = place} {a = a} {n = n} {end = end} {frames = frames} {ts = ts} {us = us} {xs = xs} d k r) kind at = enum_title_sound frames ts us xs end place a n kind at d k r
step_sound (Consumed.of_member z {at = place} {a = a} {n = n} {members = members} {end = end} {frames = frames} {ts = ts} {us = us} {ms = ms} {xs = xs} d k r v) kind at =
    member_sound frames ts us ms xs end place a z n members kind at d k r v
step_sound (Consumed.of_members z {at = place} {a = a} {n = n} {members = members} {end = end} {frames = frames} {ts = ts} {us = us} {ms = ms} {xs = xs} d k r v) kind at =
    members_sound frames ts us ms xs end place a z n members kind at d k r v
step_sound (Consumed.of_goal {at = place} {end = end} {frames = frames} {ts = ts} {us = us} {xs = xs} d k r) kind at = goal_word_sound frames ts us xs end place kind at (least_of kind) refl d k r
step_sound (Consumed.of_operand {frames = frames} {ts = ts} d k h) kind at = operand_sound frames ts kind at d k (guard_fresh frames _ h)
step_sound (Consumed.of_in {at = place} {frames = frames} {ts = ts} {us = us} {x = x} d k g l v) kind at = not_in_sound frames ts us x place kind at d k g l v
step_sound (Consumed.of_names e {at = place} {word = word} {disj = disj} {vars = vars} {frames = frames} {ts = ts} {ns = ns} d k l q v) kind at = names_sound frames ts ns place e word disj vars kind at d k l q v
step_sound (Consumed.of_listed e {at = place} {word = word} {disj = disj} {vars = vars} {frames = frames} {ts = ts} {ns = ns} d k l q v) kind at = listed_sound frames ts ns place e word disj vars kind at d k l q v
step_sound (Consumed.of_named {n = n} {at = a} {frames = frames} {ts = ts} d k) kind at = named_sound frames ts n a kind at d k
step_sound (Consumed.of_value {level = level} {frames = frames} {ts = ts} {us = us} {x = x} d k g l v) kind at = settle_sound frames ts us x level kind at d k g l v
step_sound (Consumed.of_field a {frames = frames} {ts = ts} {us = us} {x = x} d k g l v) kind at = field_sound frames ts us x a kind at (field_tree x kind at) refl d k g l v
step_sound (Consumed.of_done v) kind at = tt

some_same : {a c : State} → Some a ≡ Some c → a ≡ c
some_same e = cc

pub run_sound : (us : List Symbol) {v o : State} {ts : List Symbol} → Consumed v ts → run v us ≡ Some o → Consumed o (ts ++ us)
unfolding run
run_sound [] {v = v} {o = o} {ts = ts} c h = subst (λ l. Consumed o l) (sym (append-nil ts)) (subst (λ q. Consumed q ts) (some_same h) c)
run_sound (u ∷ us) {v = v} {o = o} {ts = ts} c h = go (step v u) (step_sound c u.kind u.at) h (λ q d g. run_sound us d g)
  where
    go : (p : Step) → After ts u.kind u.at p → then_run p (λ q. run q us) ≡ Some o →
        ((q : State) → Consumed q (ts ++ u ∷ []) → run q us ≡ Some o → Consumed o ((ts ++ u ∷ []) ++ us)) → Consumed o (ts ++ u ∷ us)
    go None d g each = cc
    go (Some q) d g each = subst (λ l. Consumed o l) (append_assoc ts (u ∷ []) us) (each q d g)

pub start_consumed : Consumed start []
start_consumed = Consumed.of_items Before.nothing tt no_items

done_inj : {a c : List Item} → m.Done a ≡ m.Done c → a ≡ c
done_inj e = cc

pub done_spells : {ts : List Symbol} {v : State} → Consumed v ts → (xs : List Item) → v.1 ≡ m.Done xs → SpellsModule ts xs
done_spells {ts = ts} (Consumed.of_done v) xs e = subst (λ l. SpellsModule ts l) (done_inj e) v
done_spells _ xs e = cc
