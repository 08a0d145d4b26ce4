-- The state of the reader after each token.
use Rattle.std.specs.Prelude.{ℕ, ◌==◌, ◌&&◌, nat_le, if◌then◌else◌, Bool, true, false, List, [], ◌∷◌, ◌++◌, Option, Some, None}
use Rattle.clf_base.specs.declared.fault.Span.{Span}
use Rattle.clf_tree.specs.declared.token.Sign.{Sign}
use Rattle.clf_tree.specs.declared.token.Sign.TheVariants as s
use Rattle.clf_tree.specs.declared.token.Title.{Title}
use Rattle.clf_tree.specs.declared.token.Word.{Word}
use Rattle.clf_tree.specs.declared.token.Word.TheVariants as w
use Rattle.clf_tree.specs.declared.token.TokenKind.{TokenKind}
use Rattle.clf_tree.specs.declared.token.TokenKind.TheVariants as t
use Rattle.clf_tree.specs.declared.expr.Expr.{Expr}
use Rattle.clf_tree.specs.declared.module.Interval.{Interval}
use Rattle.clf_tree.specs.declared.module.Start.{Start}
use Rattle.clf_tree.specs.declared.module.Item.{Item}
use Rattle.clf_tree.specs.declared.module.Item.TheVariants as i
use Rattle.clafer_grammar.specs.declared.heads.Front.{Front}
use Rattle.clafer_grammar.specs.declared.heads.Front.TheVariants as front
use Rattle.clafer_grammar.specs.declared.heads.Lead.{Lead}
use Rattle.clafer_grammar.specs.declared.heads.Head.{Head}
use Rattle.clafer_grammar.specs.declared.heads.Stage.{Stage}
use Rattle.clafer_grammar.specs.declared.heads.Stage.TheVariants as stage
use Rattle.clafer_grammar.specs.declared.operators.Infix.{Infix}
use Rattle.clafer_grammar.specs.declared.operators.Infix.TheVariants as b
use Rattle.clafer_grammar.specs.declared.operators.Prefix.{Prefix}
use Rattle.clafer_grammar.specs.declared.operators.Prefix.TheVariants as u
use Rattle.clafer_grammar.specs.declared.machine.Frame.{Frame}
use Rattle.clafer_grammar.specs.declared.machine.Frame.TheVariants as f
use Rattle.clafer_grammar.specs.declared.machine.Mode.{Mode}
use Rattle.clafer_grammar.specs.declared.machine.Mode.TheVariants as m
use Rattle.clafer_grammar.specs.Symbols.{Symbol}
use Rattle.clafer_grammar.specs.Trees.{title, name_tree, atom_tree, field_tree, prefix_tree, infix_tree, if_tree, quant_tree, clafer, started}
use Rattle.clafer_grammar.specs.Operators.{infix_level, left_of, right_of, prefix_level, operand_level}
use Rattle.clafer_grammar.specs.Declarations.{interval, pointer, group_of, bound_of, bag_of, target_of, times_of, head}
use Rattle.clafer_grammar.specs.Modules.{least_of}

-- ---- operators by their first tokens

abbrev pub infix_sign : Sign → Option Infix
infix_sign s.Iff = Some b.Iff
infix_sign s.Implies = Some b.Implies
infix_sign s.OrOr = Some b.Or
infix_sign s.AndAnd = Some b.And
infix_sign s.Equal = Some b.Equal
infix_sign s.NotEqual = Some b.NotEqual
infix_sign s.Less = Some b.Less
infix_sign s.LessEqual = Some b.LessEqual
infix_sign s.Greater = Some b.Greater
infix_sign s.GreaterEqual = Some b.GreaterEqual
infix_sign s.Plus = Some b.Add
infix_sign s.Minus = Some b.Sub
infix_sign s.Star = Some b.Mul
infix_sign s.PlusPlus = Some b.Union
infix_sign s.MinusMinus = Some b.Minus
infix_sign s.StarStar = Some b.Meet
infix_sign _ = None

abbrev pub infix_of : TokenKind → Option Infix
infix_of (t.Sign sign) = infix_sign sign
infix_of (t.Word w.In) = Some b.In
infix_of (t.Word w.Not) = Some b.NotIn
infix_of (t.Word w.Xor) = Some b.Xor
infix_of _ = None

abbrev pub prefix_of : TokenKind → Option Prefix
prefix_of (t.Sign s.Not) = Some u.Not
prefix_of (t.Sign s.Minus) = Some u.Neg
prefix_of (t.Sign s.Hash) = Some u.Card
prefix_of (t.Word w.Sum) = Some u.Sum
prefix_of (t.Word w.Some) = Some u.Some
prefix_of (t.Word w.No) = Some u.No
prefix_of (t.Word w.One) = Some u.One
prefix_of (t.Word w.Lone) = Some u.Lone
prefix_of _ = None

abbrev pub counting_word : Prefix → Option Word
counting_word u.Some = Some w.Some
counting_word u.No = Some w.No
counting_word u.One = Some w.One
counting_word u.Lone = Some w.Lone
counting_word _ = None

-- ---- operands

-- the least level of the operand that comes next
abbrev pub least : List Frame → ℕ
least (f.Binary at op x ∷ _) = right_of (infix_level op)
least (f.Unary at op ∷ _) = operand_level op
least (f.Range at word disj names ∷ _) = 11
least _ = 0

abbrev pub State : Type 0
State = List Frame × Mode

abbrev pub Step : Type 0
Step = Option State

unfoldable pub prefixed : List Frame → Span → Option Prefix → Step
prefixed frames at None = None
prefixed frames at (Some op) = if nat_le (least frames) (prefix_level op) then Some (f.Unary at op ∷ frames, m.Operand) else None

unfoldable pub atom : List Frame → TokenKind → Span → Option Expr → Step
atom frames kind at None = prefixed frames at (prefix_of kind)
atom frames kind at (Some x) = Some (frames, m.Value x 14)

-- `disj` behind a word that counts, at the head of an expression
unfoldable pub disjoint_after : List Frame → Span → Option Word → Step
disjoint_after frames at None = None
disjoint_after frames at (Some word) = if nat_le (least frames) 0 then Some (frames, m.Names at word true []) else None

unfoldable pub disjoint : List Frame → Step
disjoint (f.Unary at op ∷ below) = disjoint_after below at (counting_word op)
disjoint _ = None

-- An operand comes next, and this token.
unfoldable pub operand : List Frame → TokenKind → Span → Step
operand frames (t.Name n) at = Some (frames, m.Named (title n at))
operand frames (t.Sign s.ParenOpen) at = Some (f.Paren ∷ frames, m.Operand)
operand frames (t.Word w.If) at = if nat_le (least frames) 0 then Some (f.Condition at ∷ frames, m.Operand) else None
operand frames (t.Word w.All) at = if nat_le (least frames) 0 then Some (frames, m.Names at w.All false []) else None
operand frames (t.Word w.Disj) at = disjoint frames
operand frames kind at = atom frames kind at (atom_tree kind at)

-- ---- variables

unfoldable pub names : List Frame → Span → Word → Bool → List Title → TokenKind → Span → Step
names frames place word disj vars (t.Name n) at = Some (frames, m.Listed place word disj (vars ++ title n at ∷ []))
names frames place word false [] (t.Word w.Disj) at = Some (frames, m.Names place word true [])
names frames place word disj vars _ at = None

unfoldable pub listed : List Frame → Span → Word → Bool → List Title → TokenKind → Step
listed frames place word disj vars (t.Sign s.Semicolon) = Some (frames, m.Names place word disj vars)
listed frames place word disj vars (t.Sign s.Colon) = Some (f.Range place word disj vars ∷ frames, m.Operand)
listed frames place word disj vars _ = None

-- A name behind a word that counts, at the head of an expression, is the first variable.
unfoldable pub variable_after : List Frame → Span → Option Word → Title → TokenKind → Step
variable_after frames place None name kind = None
variable_after frames place (Some word) name kind = if nat_le (least frames) 0 then listed frames place word false (name ∷ []) kind else None

unfoldable pub variable : List Frame → Title → TokenKind → Step
variable (f.Unary place op ∷ below) name kind = variable_after below place (counting_word op) name kind
variable _ name kind = None

-- ---- a token after an expression

-- what comes behind the first token of an operator
abbrev pub after_infix : Infix → Mode
after_infix b.NotIn = m.In
after_infix _ = m.Operand

-- the token goes on with the expression
unfoldable pub with_infix : List Frame → Expr → ℕ → Span → Option Infix → Step
with_infix frames x level at None = None
with_infix frames x level at (Some op) =
    if nat_le (least frames) (infix_level op) && nat_le (left_of (infix_level op)) level
    then Some (f.Binary at op x ∷ frames, after_infix op)
    else None

unfoldable pub goes_on : List Frame → Expr → ℕ → TokenKind → Span → Step
goes_on frames x level (t.Sign s.Dot) at = if nat_le (least frames) 13 && nat_le 13 level then Some (frames, m.Field x) else None
goes_on frames x level kind at = with_infix frames x level at (infix_of kind)

unfoldable pub close_paren : List Frame → Expr → TokenKind → Step
close_paren below x (t.Sign s.ParenClose) = Some (below, m.Value x 14)
close_paren below x _ = None

unfoldable pub close_condition : List Frame → Span → Expr → TokenKind → Step
close_condition below at x (t.Word w.Then) = Some (f.Consequence at x ∷ below, m.Operand)
close_condition below at x _ = None

unfoldable pub close_consequence : List Frame → Span → Expr → Expr → TokenKind → Step
close_consequence below at x y (t.Word w.Else) = Some (f.Alternative at x y ∷ below, m.Operand)
close_consequence below at x y _ = None

unfoldable pub close_range : List Frame → Span → Word → Bool → List Title → Expr → TokenKind → Step
close_range below at word disj vars x (t.Sign s.Bar) = Some (f.Body at word disj vars x ∷ below, m.Operand)
close_range below at word disj vars x _ = None

unfoldable pub close_bracket : List Frame → List Item → Span → List Expr → TokenKind → Span → Step
close_bracket below before at parts (t.Sign s.BracketClose) _ = Some (below, m.Items (before ++ i.Constraint at parts ∷ []))
close_bracket below before at parts (t.Sign s.Minus) _ = None
close_bracket below before at parts kind place = operand (f.Bracket before at parts ∷ below) kind place

unfoldable pub close_goal : List Frame → List Item → Span → Bool → Expr → TokenKind → Step
close_goal below before at least_first x (t.Sign s.GoalClose) = Some (below, m.Items (before ++ i.Goal at least_first x ∷ []))
close_goal below before at least_first x _ = None

-- ---- items

unfoldable pub close_block : List Frame → List Item → Step
close_block (f.Block before h start ∷ below) inner = Some (below, m.Items (before ++ clafer h start inner ∷ []))
close_block _ inner = None

unfoldable pub finish : List Frame → List Item → Step
finish [] items = Some ([], m.Done items)
finish (_ ∷ _) items = None

unfoldable pub grouped : List Frame → List Item → Span → Bool → Option Interval → Step
grouped frames items at is_abstract None = None
grouped frames items at is_abstract (Some group) =
    Some (frames, m.Lead items (record { at = at; is_abstract = is_abstract; front = front.Grouped group }))

unfoldable pub item : List Frame → List Item → TokenKind → Span → Step
item frames items (t.Word w.Abstract) at = Some (frames, m.Lead items (record { at = at; is_abstract = true; front = front.Abstract }))
item frames items (t.Number n) at = Some (frames, m.Lead items (record { at = at; is_abstract = false; front = front.Low n }))
item frames items (t.Name n) at = Some (frames, m.Head items (head at false None (title n at) None None None) stage.Titled)
item frames items (t.Word w.Enum) at = Some (frames, m.Enum items at)
item frames items (t.Sign s.BracketOpen) at = Some (f.Bracket items at [] ∷ frames, m.Operand)
item frames items (t.Sign s.GoalOpen) at = Some (frames, m.Goal items at)
item frames items t.Next at = Some (frames, m.Items items)
item frames items t.Close at = close_block frames items
item frames items t.End at = finish frames items
item frames items kind at = grouped frames items at false (group_of kind)

-- ---- heads

-- a clafer's name behind what stands before it
abbrev pub titled : Lead → Option Interval → Title → Head
titled l group name = head l.at l.is_abstract group name None None None

unfoldable pub bounded : List Frame → List Item → Lead → ℕ → Option (Option ℕ) → Step
bounded frames items l low None = None
bounded frames items l low (Some high) = Some (frames, m.Lead items (record l { front = front.Grouped (interval low high) }))

unfoldable pub lead_at : List Frame → List Item → Lead → Front → TokenKind → Span → Step
lead_at frames items l front.Abstract (t.Name n) at = Some (frames, m.Head items (titled l None (title n at)) stage.Titled)
lead_at frames items l front.Abstract (t.Number low) at = Some (frames, m.Lead items (record l { front = front.Low low }))
lead_at frames items l front.Abstract kind at = grouped frames items l.at l.is_abstract (group_of kind)
lead_at frames items l (front.Low low) (t.Sign s.DotDot) at = Some (frames, m.Lead items (record l { front = front.Dots low }))
lead_at frames items l (front.Low low) _ at = None
lead_at frames items l (front.Dots low) kind at = bounded frames items l low (bound_of kind)
lead_at frames items l (front.Grouped group) (t.Name n) at = Some (frames, m.Head items (titled l (Some group) (title n at)) stage.Titled)
lead_at frames items l (front.Grouped group) _ at = None

-- the head is whole
unfoldable pub tail : List Frame → List Item → Head → TokenKind → Span → Step
tail frames items h (t.Sign s.Equal) at = Some (f.Start items h at ∷ frames, m.Operand)
tail frames items h t.Open at = Some (f.Block items h None ∷ frames, m.Items [])
tail frames items h kind at = item frames (items ++ clafer h None [] ∷ []) kind at

unfoldable pub with_times : List Frame → List Item → Head → TokenKind → Span → Option Interval → Step
with_times frames items h kind at None = tail frames items h kind at
with_times frames items h kind at (Some times) = Some (frames, m.Head items (record h { times = Some times }) stage.Times)

-- a multiplicity, or what comes behind it
unfoldable pub times : List Frame → List Item → Head → TokenKind → Span → Step
times frames items h (t.Number n) at = Some (frames, m.Head items (record h { times = Some (interval n (Some n)) }) (stage.Low n))
times frames items h kind at = with_times frames items h kind at (times_of kind)

unfoldable pub high_times : List Frame → List Item → Head → ℕ → Option (Option ℕ) → Step
high_times frames items h low None = None
high_times frames items h low (Some high) = Some (frames, m.Head items (record h { times = Some (interval low high) }) stage.Times)

unfoldable pub low_times : List Frame → List Item → Head → ℕ → TokenKind → Span → Step
low_times frames items h low (t.Sign s.DotDot) at = Some (frames, m.Head items h (stage.Dots low))
low_times frames items h low kind at = tail frames items h kind at

-- a reference, or what comes behind it
unfoldable pub with_arrow : List Frame → List Item → Head → TokenKind → Span → Option Bool → Step
with_arrow frames items h kind at None = times frames items h kind at
with_arrow frames items h kind at (Some bag) = Some (frames, m.Head items h (stage.Arrow at bag))

abbrev pub refers : List Frame → List Item → Head → TokenKind → Span → Step
refers frames items h kind at = with_arrow frames items h kind at (bag_of kind)

unfoldable pub targeted : List Frame → List Item → Head → Span → Bool → Option (Option Title) → Step
targeted frames items h place bag None = None
targeted frames items h place bag (Some to) = Some (frames, m.Head items (record h { reference = Some (pointer place bag to) }) stage.Target)

unfoldable pub head_at : List Frame → List Item → Head → Stage → TokenKind → Span → Step
head_at frames items h stage.Titled (t.Sign s.Colon) at = Some (frames, m.Head items h stage.Colon)
head_at frames items h stage.Titled kind at = refers frames items h kind at
head_at frames items h stage.Colon (t.Name n) at = Some (frames, m.Head items (record h { above = Some (title n at) }) stage.Above)
head_at frames items h stage.Colon _ at = None
head_at frames items h stage.Above kind at = refers frames items h kind at
head_at frames items h (stage.Arrow place bag) kind at = targeted frames items h place bag (target_of kind at)
head_at frames items h stage.Target kind at = times frames items h kind at
head_at frames items h (stage.Low low) kind at = low_times frames items h low kind at
head_at frames items h (stage.Dots low) kind at = high_times frames items h low (bound_of kind)
head_at frames items h stage.Times kind at = tail frames items h kind at

-- a clafer's expression is whole
unfoldable pub close_start : List Frame → List Item → Head → Span → Expr → TokenKind → Span → Step
close_start below items h place x t.Open at = Some (f.Block items h (started place x) ∷ below, m.Items [])
close_start below items h place x (t.Word w.Xor) at = None
close_start below items h place x kind at = item below (items ++ clafer h (started place x) [] ∷ []) kind at

-- ---- enums and goals

unfoldable pub enum_word : List Frame → List Item → Span → TokenKind → Span → Step
enum_word frames items place (t.Name n) at = Some (frames, m.EnumTitle items place (title n at))
enum_word frames items place _ at = None

unfoldable pub enum_title : List Frame → List Item → Span → Title → TokenKind → Step
enum_title frames items place name (t.Sign s.Equal) = Some (frames, m.Member items place name [])
enum_title frames items place name _ = None

unfoldable pub member : List Frame → List Item → Span → Title → List Title → TokenKind → Span → Step
member frames items place name members (t.Name n) at = Some (frames, m.Members items place name (members ++ title n at ∷ []))
member frames items place name members _ at = None

unfoldable pub more_members : List Frame → List Item → Span → Title → List Title → TokenKind → Span → Step
more_members frames items place name members (t.Sign s.Bar) at = Some (frames, m.Member items place name members)
more_members frames items place name members kind at = item frames (items ++ i.Enum place name members ∷ []) kind at

unfoldable pub goal_word : List Frame → List Item → Span → Option Bool → Step
goal_word frames items place None = None
goal_word frames items place (Some least_first) = Some (f.Goal items place least_first ∷ frames, m.Operand)

-- ---- the end of an expression

-- the first step, if there is one, and else the other
abbrev pub first_of_two : Step → Step → Step
first_of_two (Some state) other = Some state
first_of_two None other = other

-- The expression ends before the token, and with it each construct that it ends.
unfoldable pub reduce : List Frame → Expr → ℕ → TokenKind → Span → Step
reduce [] x level kind at = None
reduce (f.Binary place op y ∷ below) x level kind at =
    first_of_two (goes_on below (infix_tree op place y x) (infix_level op) kind at)
    (reduce below (infix_tree op place y x) (infix_level op) kind at)
reduce (f.Unary place op ∷ below) x level kind at =
    first_of_two (goes_on below (prefix_tree op place x) (prefix_level op) kind at)
    (reduce below (prefix_tree op place x) (prefix_level op) kind at)
reduce (f.Alternative place y z ∷ below) x level kind at =
    first_of_two (goes_on below (if_tree place y z x) 0 kind at) (reduce below (if_tree place y z x) 0 kind at)
reduce (f.Body place word disj vars y ∷ below) x level kind at =
    first_of_two (goes_on below (quant_tree place word disj vars y x) 0 kind at) (reduce below (quant_tree place word disj vars y x) 0 kind at)
reduce (f.Paren ∷ below) x level kind at = close_paren below x kind
reduce (f.Condition place ∷ below) x level kind at = close_condition below place x kind
reduce (f.Consequence place y ∷ below) x level kind at = close_consequence below place y x kind
reduce (f.Range place word disj vars ∷ below) x level kind at = close_range below place word disj vars x kind
reduce (f.Bracket before place parts ∷ below) x level kind at = close_bracket below before place (parts ++ x ∷ []) kind at
reduce (f.Goal before place least_first ∷ below) x level kind at = close_goal below before place least_first x kind
reduce (f.Start before h place ∷ below) x level kind at = close_start below before h place x kind at
reduce (f.Block before h start ∷ below) x level kind at = None

abbrev pub settle : List Frame → Expr → ℕ → TokenKind → Span → Step
settle frames x level kind at = first_of_two (goes_on frames x level kind at) (reduce frames x level kind at)

unfoldable pub named : List Frame → Title → TokenKind → Span → Step
named frames name (t.Sign s.Semicolon) at = variable frames name (t.Sign s.Semicolon)
named frames name (t.Sign s.Colon) at = variable frames name (t.Sign s.Colon)
named frames name kind at = settle frames (name_tree name) 14 kind at

unfoldable pub valued : List Frame → Option Expr → Step
valued frames None = None
valued frames (Some x) = Some (frames, m.Value x 13)

unfoldable pub not_in : List Frame → TokenKind → Step
not_in frames (t.Word w.In) = Some (frames, m.Operand)
not_in frames _ = None

-- ---- the reader

unfoldable pub step_at : List Frame → Mode → TokenKind → Span → Step
step_at frames (m.Items items) kind at = item frames items kind at
step_at frames (m.Lead items l) kind at = lead_at frames items l l.front kind at
step_at frames (m.Head items h stage) kind at = head_at frames items h stage kind at
step_at frames (m.Enum items place) kind at = enum_word frames items place kind at
step_at frames (m.EnumTitle items place name) kind at = enum_title frames items place name kind
step_at frames (m.Member items place name members) kind at = member frames items place name members kind at
step_at frames (m.Members items place name members) kind at = more_members frames items place name members kind at
step_at frames (m.Goal items place) kind at = goal_word frames items place (least_of kind)
step_at frames m.Operand kind at = operand frames kind at
step_at frames m.In kind at = not_in frames kind
step_at frames (m.Names place word disj vars) kind at = names frames place word disj vars kind at
step_at frames (m.Listed place word disj vars) kind at = listed frames place word disj vars kind
step_at frames (m.Named name) kind at = named frames name kind at
step_at frames (m.Value x level) kind at = settle frames x level kind at
step_at frames (m.Field x) kind at = valued frames (field_tree x kind at)
step_at frames (m.Done items) kind at = None

abbrev pub step : State → Symbol → Step
step state symbol = step_at state.0 state.1 symbol.kind symbol.at

abbrev pub then_run : Step → (State → Step) → Step
then_run None f = None
then_run (Some state) f = f state

unfoldable pub run : State → List Symbol → Step
run state [] = Some state
run state (symbol ∷ rest) = then_run (step state symbol) (λ next. run next rest)

abbrev pub start : State
start = ([], m.Items [])
