-- What spells the items of a body is read as those items, and what begins them is never refused.
use Rattle.std.proofs.Common.{◌≡◌, ◌≢◌, ℕ, ◌≤◌, Bool, true, false, refl, sym, ◌∙◌, ap, subst, lit≤, Option, Some, None, List, [], ◌∷◌, ◌++◌, append_assoc, append-nil}
use Rattle.clf_base.specs.declared.fault.Span.{Span}
use Rattle.clf_tree.specs.declared.token.Sign.TheVariants as s
use Rattle.clf_tree.specs.declared.token.Title.{Title}
use Rattle.clf_tree.specs.declared.token.Word.{Word}
use Rattle.clf_tree.specs.declared.token.Word.TheVariants as w
use Rattle.clf_tree.specs.declared.token.TokenKind.{TokenKind}
use Rattle.clf_tree.specs.declared.token.TokenKind.TheVariants as t
use Rattle.clf_tree.specs.declared.expr.Expr.{Expr}
use Rattle.clf_tree.specs.declared.module.Start.{Start}
use Rattle.clf_tree.specs.declared.module.Item.{Item}
use Rattle.clf_tree.specs.declared.module.Item.TheVariants as i
use Rattle.clafer_grammar.specs.declared.heads.Head.{Head}
use Rattle.clafer_grammar.specs.declared.operators.Prefix.{Prefix}
use Rattle.clafer_grammar.specs.declared.operators.Prefix.TheVariants as u
use Rattle.clafer_grammar.specs.declared.machine.Frame.{Frame}
use Rattle.clafer_grammar.specs.declared.machine.Frame.TheVariants as f
use Rattle.clafer_grammar.specs.declared.machine.Mode.TheVariants as m
use Rattle.clafer_grammar.specs.Symbols.{Symbol, tok}
use Rattle.clafer_grammar.specs.Trees.{title, clafer, started, atom_tree}
use Rattle.clafer_grammar.specs.Operators.{prefix_kind}
use Rattle.clafer_grammar.specs.Expressions.{is_quant, disj_part, Spells, Begins}
use Rattle.clafer_grammar.specs.Declarations.{SpellsHead, BeginsHead}
use Rattle.clafer_grammar.specs.Modules.{NoMinus, SpellsMore, BeginsMore, SpellsMembers, least_of, SpellsStart, Ending, free, bare, valued, ending_of, ending, MayFollow, Follows, SpellsItems, BeginsItems, SpellsModule, BeginsModule}
use Rattle.clafer_grammar.specs.Machine.{State, Step, prefixed, atom, operand, with_infix, goes_on, close_bracket, close_goal, close_block, finish, item, tail, head_at, close_start, enum_word, enum_title, member, more_members, goal_word, reduce, settle, step_at, step, then_run, run, start}
use Rattle.clafer_grammar.proofs.Levels.{needs_infix}
use Rattle.clafer_grammar.proofs.Complete.{run_on, run_step, run_none, needs, Reaches, then_token, complete}
use Rattle.clafer_grammar.proofs.Begun.{IsRunning, running_by, survives}
use Rattle.clafer_grammar.proofs.Heading.{EndsItem, HeadRead, head_read, head_begun, FirstEnds, StartsEnding, first_ends, head_first, begun_first}

-- ---- first tokens of expressions

unfoldable pub Starts : TokenKind → Type 0
Starts (t.Name n) = Unit {0}
Starts (t.Number n) = Unit {0}
Starts (t.Sign s.ParenOpen) = Unit {0}
Starts (t.Sign s.Not) = Unit {0}
Starts (t.Sign s.Minus) = Unit {0}
Starts (t.Sign s.Hash) = Unit {0}
Starts (t.Word w.This) = Unit {0}
Starts (t.Word w.Parent) = Unit {0}
Starts (t.Word w.Dref) = Unit {0}
Starts (t.Word w.If) = Unit {0}
Starts (t.Word w.Sum) = Unit {0}
Starts (t.Word w.All) = Unit {0}
Starts (t.Word w.Some) = Unit {0}
Starts (t.Word w.No) = Unit {0}
Starts (t.Word w.One) = Unit {0}
Starts (t.Word w.Lone) = Unit {0}
Starts _ = ⊥

unary_starts : (op : Prefix) → Starts (prefix_kind op)
unfolding Starts
unary_starts = elim [ u.Not ↦ tt | u.Neg ↦ tt | u.Card ↦ tt | u.Sum ↦ tt | u.Some ↦ tt | u.No ↦ tt | u.One ↦ tt | u.Lone ↦ tt ]

atom_starts : (kind : TokenKind) (at : Span) (x : Expr) → atom_tree kind at ≡ Some x → Starts kind
unfolding Starts
atom_starts (t.Number n) at x e = tt
atom_starts (t.Word w.This) at x e = tt
atom_starts (t.Word w.Parent) at x e = tt
atom_starts (t.Word w.Dref) at x e = tt
atom_starts _ at x e = cc

quant_starts : (word : Word) → is_quant word ≡ true → Starts (t.Word word)
unfolding Starts
quant_starts w.All q = tt
quant_starts w.Some q = tt
quant_starts w.No q = tt
quant_starts w.One q = tt
quant_starts w.Lone q = tt
quant_starts _ q = cc

abbrev pub FirstStarts : List Symbol → Type 0
FirstStarts [] = ⊥
FirstStarts (first ∷ _) = Starts first.kind

abbrev FirstMay : List Symbol → Type 0
FirstMay [] = Unit {0}
FirstMay (first ∷ _) = Starts first.kind

pub starts_more : (ts us : List Symbol) → FirstStarts ts → FirstStarts (ts ++ us)
starts_more [] us h = absurd h
starts_more (x ∷ ts) us h = h

may_of : (ts : List Symbol) → FirstStarts ts → FirstMay ts
may_of [] h = tt
may_of (x ∷ ts) h = h

pub spells_starts : {k : ℕ} {ts : List Symbol} {x : Expr} → Spells k ts x → FirstStarts ts
unfolding Starts
spells_starts (Spells.looser le v) = spells_starts v
spells_starts Spells.name = tt
spells_starts (Spells.atom {at = at} {kind = kind} {x = x} e) = atom_starts kind at x e
spells_starts (Spells.paren z v) = tt
spells_starts (Spells.join a at kind {ts = ts} v e) = starts_more ts _ (spells_starts v)
spells_starts (Spells.unary op v) = unary_starts op
spells_starts (Spells.binary op at a {ts = ts} v w) = starts_more ts _ (spells_starts v)
spells_starts (Spells.choice a z p q o) = tt
spells_starts (Spells.quant disj d c z {word = word} q v p o) = quant_starts word q

begins_may : {k : ℕ} {ts : List Symbol} → Begins k ts → FirstMay ts
unfolding Starts
begins_may Begins.nothing = tt
begins_may (Begins.whole {ts = ts} v) = may_of ts (spells_starts v)
begins_may (Begins.looser le v) = begins_may v
begins_may (Begins.paren v) = tt
begins_may (Begins.dot a {ts = ts} v) = may_of _ (starts_more ts _ (spells_starts v))
begins_may (Begins.unary op v) = unary_starts op
begins_may (Begins.operator op at {ts = ts} v) = may_of _ (starts_more ts _ (spells_starts v))
begins_may (Begins.binary op at a {ts = ts} v w) = may_of _ (starts_more ts _ (spells_starts v))
begins_may (Begins.condition v) = tt
begins_may (Begins.consequence a p v) = tt
begins_may (Begins.alternative a z p q v) = tt
begins_may (Begins.quant disj d {word = word} q) = quant_starts word q
begins_may (Begins.names disj d {word = word} q v) = quant_starts word q
begins_may (Begins.further disj d c {word = word} q v) = quant_starts word q
begins_may (Begins.range disj d c {word = word} q v p) = quant_starts word q
begins_may (Begins.body disj d c z {word = word} q v p o) = quant_starts word q

-- ---- a bracket

next_part : (frames : List Frame) (before : List Item) (place : Span) (parts : List Expr) (x : Expr) (level : ℕ) (kind : TokenKind) (at : Span) →
    Starts kind → kind ≢ t.Sign s.Minus →
    settle (f.Bracket before place parts ∷ frames) x level kind at ≡ operand (f.Bracket before place (parts ++ x ∷ []) ∷ frames) kind at
unfolding Starts goes_on with_infix reduce close_bracket
next_part frames before place parts x level (t.Name n) at h g = refl
next_part frames before place parts x level (t.Number n) at h g = refl
next_part frames before place parts x level (t.Sign s.ParenOpen) at h g = refl
next_part frames before place parts x level (t.Sign s.Not) at h g = refl
next_part frames before place parts x level (t.Sign s.Minus) at h g = absurd (g refl)
next_part frames before place parts x level (t.Sign s.Hash) at h g = refl
next_part frames before place parts x level (t.Word w.This) at h g = refl
next_part frames before place parts x level (t.Word w.Parent) at h g = refl
next_part frames before place parts x level (t.Word w.Dref) at h g = refl
next_part frames before place parts x level (t.Word w.If) at h g = refl
next_part frames before place parts x level (t.Word w.Sum) at h g = refl
next_part frames before place parts x level (t.Word w.All) at h g = refl
next_part frames before place parts x level (t.Word w.Some) at h g = refl
next_part frames before place parts x level (t.Word w.No) at h g = refl
next_part frames before place parts x level (t.Word w.One) at h g = refl
next_part frames before place parts x level (t.Word w.Lone) at h g = refl
next_part frames before place parts x level _ at h g = absurd h

starts_need : (kind : TokenKind) → Starts kind → kind ≢ t.Sign s.Minus → needs kind ≤ 0
unfolding Starts needs needs_infix
starts_need (t.Name n) h g = lit≤ tt
starts_need (t.Number n) h g = lit≤ tt
starts_need (t.Sign s.ParenOpen) h g = lit≤ tt
starts_need (t.Sign s.Not) h g = lit≤ tt
starts_need (t.Sign s.Minus) h g = absurd (g refl)
starts_need (t.Sign s.Hash) h g = lit≤ tt
starts_need (t.Word w.This) h g = lit≤ tt
starts_need (t.Word w.Parent) h g = lit≤ tt
starts_need (t.Word w.Dref) h g = lit≤ tt
starts_need (t.Word w.If) h g = lit≤ tt
starts_need (t.Word w.Sum) h g = lit≤ tt
starts_need (t.Word w.All) h g = lit≤ tt
starts_need (t.Word w.Some) h g = lit≤ tt
starts_need (t.Word w.No) h g = lit≤ tt
starts_need (t.Word w.One) h g = lit≤ tt
starts_need (t.Word w.Lone) h g = lit≤ tt
starts_need _ h g = absurd h

closes_bracket : (frames : List Frame) (before : List Item) (place : Span) (parts : List Expr) (x : Expr) (level : ℕ) (at : Span) →
    settle (f.Bracket before place parts ∷ frames) x level (t.Sign s.BracketClose) at ≡ Some (frames, m.Items (before ++ i.Constraint place (parts ++ x ∷ []) ∷ []))
unfolding goes_on with_infix reduce close_bracket
closes_bracket frames before place parts x level at = refl

free_bracket : needs (t.Sign s.BracketClose) ≤ 0
unfolding needs needs_infix
free_bracket = lit≤ tt

-- After an expression of a bracket, the tokens of the next one.
next_runs : (frames : List Frame) (before : List Item) (place : Span) (parts : List Expr) (ts : List Symbol) (x : Expr)
    (r : Reaches (f.Bracket before place parts ∷ frames) 0 ts x) (us : List Symbol) → FirstStarts us → NoMinus us →
    run (f.Bracket before place parts ∷ frames, m.Operand) (ts ++ us) ≡ run (f.Bracket before place (parts ++ x ∷ []) ∷ frames, m.Operand) us
unfolding run step_at
next_runs frames before place parts ts x r [] h g = absurd h
next_runs frames before place parts ts x r (u ∷ us) h g =
    run_on (f.Bracket before place parts ∷ frames, m.Operand) r.state ts (u ∷ us) r.runs ∙
    ap (λ o. then_run o (λ w. run w us)) (r.settles u.kind u.at (starts_need u.kind h g) ∙ next_part frames before place parts x r.level u.kind u.at h g)

no_minus_more : (ts us : List Symbol) → FirstStarts ts → NoMinus ts → NoMinus (ts ++ us)
no_minus_more [] us h g = absurd h
no_minus_more (x ∷ ts) us h g = g

more_runs : {us : List Symbol} {xs : List Expr} → SpellsMore us xs →
    (frames : List Frame) (before : List Item) (place : Span) (parts : List Expr) (ts : List Symbol) (x : Expr) (z : Span) (vs : List Symbol) →
    Reaches (f.Bracket before place parts ∷ frames) 0 ts x →
    run (f.Bracket before place parts ∷ frames, m.Operand) (ts ++ (us ++ tok (t.Sign s.BracketClose) z ∷ vs)) ≡
    run (frames, m.Items (before ++ i.Constraint place (parts ++ x ∷ xs) ∷ [])) vs
more_runs SpellsMore.none frames before place parts ts x z vs r =
    then_token (f.Bracket before place parts ∷ frames) 0 ts x r (t.Sign s.BracketClose) z _ vs free_bracket (closes_bracket frames before place parts x r.level z)
more_runs (SpellsMore.more {ts = us} {us = ws} {x = y} {xs = ys} g v w) frames before place parts ts x z vs r =
    let starts = spells_starts v in
    let r2 = complete v (f.Bracket before place (parts ++ x ∷ []) ∷ frames) (lit≤ tt) in
    let rest = more_runs w frames before place (parts ++ x ∷ []) us y z vs r2 in
    rw (append_assoc us ws (tok (t.Sign s.BracketClose) z ∷ vs))
    (next_runs frames before place parts ts x r (us ++ (ws ++ tok (t.Sign s.BracketClose) z ∷ vs)) (starts_more us _ starts) (no_minus_more us _ starts g) ∙
    rest ∙ ap (λ q. run (frames, m.Items (before ++ i.Constraint place q ∷ [])) vs) (append_assoc parts (x ∷ []) (y ∷ ys)))

-- ---- items that end with the next token

-- These tokens are read as an item that ends before a token that may follow it.
pub record Reads (frames : List Frame) (items : List Item) (ts : List Symbol) (x : Item) (end : Ending) : Type 0 where
  pub state : State
  pub runs : run (frames, m.Items items) ts ≡ Some state
  pub ends : (kind : TokenKind) (at : Span) → EndsItem kind → MayFollow end kind → step state (tok kind at) ≡ item frames (items ++ x ∷ []) kind at

may_close : (end : Ending) → MayFollow end t.Close
may_close free = tt
may_close bare = tt
may_close valued = tt

may_end : (end : Ending) → MayFollow end t.End
may_end free = tt
may_end bare = tt
may_end valued = tt

close_ends : EndsItem t.Close
unfolding EndsItem
close_ends = tt

end_ends : EndsItem t.End
unfolding EndsItem
end_ends = tt

pub step_item : (frames : List Frame) (items : List Item) (kind : TokenKind) (at : Span) → step (frames, m.Items items) (tok kind at) ≡ item frames items kind at
unfolding step_at
step_item frames items kind at = refl

-- The tokens are read as the items, and an end finds them whole.
pub record Builds (frames : List Frame) (items : List Item) (ts : List Symbol) (xs : List Item) : Type 0 where
  pub state : State
  pub runs : run (frames, m.Items items) ts ≡ Some state
  pub closes : (at : Span) → step state (tok t.Close at) ≡ step (frames, m.Items (items ++ xs)) (tok t.Close at)
  pub ends : (at : Span) → step state (tok t.End at) ≡ step (frames, m.Items (items ++ xs)) (tok t.End at)

-- A run from either of two states that a first token can't tell apart.
same_first : (a c : State) (x : Symbol) (ts : List Symbol) → step a x ≡ step c x → run a (x ∷ ts) ≡ run c (x ∷ ts)
unfolding run
same_first a c x ts h = ap (λ o. then_run o (λ v. run v ts)) h

one_more : (items xs : List Item) (x : Item) → (items ++ x ∷ []) ++ xs ≡ items ++ x ∷ xs
one_more items xs x = append_assoc items (x ∷ []) xs

built : (frames : List Frame) (items xs : List Item) (x : Item) (ts us : List Symbol) →
    run (frames, m.Items items) ts ≡ run (frames, m.Items (items ++ x ∷ [])) us →
    Builds frames (items ++ x ∷ []) us xs → Builds frames items ts (x ∷ xs)
built frames items xs x ts us same r = record {
  state = r.state;
  runs = same ∙ r.runs;
  closes = λ at. r.closes at ∙ ap (λ l. step (frames, m.Items l) (tok t.Close at)) (one_more items xs x);
  ends = λ at. r.ends at ∙ ap (λ l. step (frames, m.Items l) (tok t.End at)) (one_more items xs x);
}

-- The item, and then a token that may follow it.
open_runs : (frames : List Frame) (items : List Item) (x : Item) (end : Ending) (ts : List Symbol) (v : Symbol) (vs : List Symbol) → Reads frames items ts x end →
    EndsItem v.kind → MayFollow end v.kind →
    run (frames, m.Items items) (ts ++ v ∷ vs) ≡ run (frames, m.Items (items ++ x ∷ [])) (v ∷ vs)
open_runs frames items x end ts v vs r e g =
    run_on (frames, m.Items items) r.state ts (v ∷ vs) r.runs ∙
    same_first r.state (frames, m.Items (items ++ x ∷ [])) v vs (r.ends v.kind v.at e g ∙ sym (step_item frames (items ++ x ∷ []) v.kind v.at))

none_builds : (frames : List Frame) (items : List Item) (xs : List Item) → Builds frames items [] xs → (kind : TokenKind) (at : Span) →
    ((state : State) → run (frames, m.Items items) [] ≡ Some state → step state (tok kind at) ≡ step (frames, m.Items (items ++ xs)) (tok kind at)) →
    step (frames, m.Items items) (tok kind at) ≡ step (frames, m.Items (items ++ xs)) (tok kind at)
none_builds frames items xs r kind at h = h (frames, m.Items items) (run_none _)

some_same : {a c : State} → Some a ≡ Some c → a ≡ c
some_same e = cc

-- with no token, the state is the one before
empty_state : (from : State) (state : State) → run from [] ≡ Some state → from ≡ state
empty_state from state h = some_same (sym (run_none from) ∙ h)

-- An item that ends with the next token, and the items behind it.
then_items : (frames : List Frame) (items xs : List Item) (x : Item) (end : Ending) (ts vs : List Symbol) → Reads frames items ts x end →
    Follows end vs → FirstEnds vs → Builds frames (items ++ x ∷ []) vs xs → Builds frames items (ts ++ vs) (x ∷ xs)
unfolding FirstEnds
then_items frames items xs x end ts [] r g e b =
    let same = empty_state (frames, m.Items (items ++ x ∷ [])) b.state b.runs in
    record {
      state = r.state;
      runs = ap (λ l. run (frames, m.Items items) l) (append-nil ts) ∙ r.runs;
      closes = λ at. r.ends t.Close at close_ends (may_close end) ∙ sym (step_item frames (items ++ x ∷ []) t.Close at) ∙
          ap (λ w. step w (tok t.Close at)) same ∙ b.closes at ∙ ap (λ l. step (frames, m.Items l) (tok t.Close at)) (one_more items xs x);
      ends = λ at. r.ends t.End at end_ends (may_end end) ∙ sym (step_item frames (items ++ x ∷ []) t.End at) ∙
          ap (λ w. step w (tok t.End at)) same ∙ b.ends at ∙ ap (λ l. step (frames, m.Items l) (tok t.End at)) (one_more items xs x);
    }
then_items frames items xs x end ts (v ∷ vs) r g e b = built frames items xs x (ts ++ v ∷ vs) (v ∷ vs) (open_runs frames items x end ts v vs r e g) b

-- ---- clafers

ends_need : (kind : TokenKind) → EndsItem kind → MayFollow valued kind → needs kind ≤ 0
unfolding EndsItem needs needs_infix
ends_need (t.Name n) e g = lit≤ tt
ends_need (t.Number n) e g = lit≤ tt
ends_need (t.Word w.Abstract) e g = lit≤ tt
ends_need (t.Word w.Xor) e g = absurd g
ends_need (t.Word w.Or) e g = lit≤ tt
ends_need (t.Word w.Mux) e g = lit≤ tt
ends_need (t.Word w.Opt) e g = lit≤ tt
ends_need (t.Word w.Enum) e g = lit≤ tt
ends_need (t.Sign s.BracketOpen) e g = lit≤ tt
ends_need (t.Sign s.GoalOpen) e g = lit≤ tt
ends_need t.Next e g = lit≤ tt
ends_need t.Close e g = lit≤ tt
ends_need t.End e g = lit≤ tt
ends_need _ e g = absurd e

start_ends : (frames : List Frame) (items : List Item) (h : Head) (place : Span) (x : Expr) (level : ℕ) (kind : TokenKind) (at : Span) → EndsItem kind → MayFollow valued kind →
    settle (f.Start items h place ∷ frames) x level kind at ≡ item frames (items ++ clafer h (started place x) [] ∷ []) kind at
unfolding EndsItem goes_on with_infix reduce close_start
start_ends frames items h place x level (t.Name n) at e g = refl
start_ends frames items h place x level (t.Number n) at e g = refl
start_ends frames items h place x level (t.Word w.Abstract) at e g = refl
start_ends frames items h place x level (t.Word w.Xor) at e g = absurd g
start_ends frames items h place x level (t.Word w.Or) at e g = refl
start_ends frames items h place x level (t.Word w.Mux) at e g = refl
start_ends frames items h place x level (t.Word w.Opt) at e g = refl
start_ends frames items h place x level (t.Word w.Enum) at e g = refl
start_ends frames items h place x level (t.Sign s.BracketOpen) at e g = refl
start_ends frames items h place x level (t.Sign s.GoalOpen) at e g = refl
start_ends frames items h place x level t.Next at e g = refl
start_ends frames items h place x level t.Close at e g = refl
start_ends frames items h place x level t.End at e g = refl
start_ends frames items h place x level _ at e g = absurd e

start_opens : (frames : List Frame) (items : List Item) (h : Head) (place : Span) (x : Expr) (level : ℕ) (at : Span) →
    settle (f.Start items h place ∷ frames) x level t.Open at ≡ Some (f.Block items h (started place x) ∷ frames, m.Items [])
unfolding goes_on with_infix reduce close_start
start_opens frames items h place x level at = refl

open_needs : needs t.Open ≤ 0
unfolding needs needs_infix
open_needs = lit≤ tt

step_head : (frames : List Frame) (items : List Item) (h : Head) (st : _) (kind : TokenKind) (at : Span) →
    step (frames, m.Head items h st) (tok kind at) ≡ head_at frames items h st kind at
unfolding step_at
step_head frames items h st kind at = refl

-- A clafer's head and expression, to which a block may come.
pub record Clafers (frames : List Frame) (items : List Item) (ts : List Symbol) (h : Head) (value : Option Start) : Type 0 where
  pub reads : Reads frames items ts (clafer h value []) (ending h value)
  pub opens : (at : Span) → step reads.state (tok t.Open at) ≡ Some (f.Block items h value ∷ frames, m.Items [])

-- After a head and `=`.
equal_runs : {ts : List Symbol} {h : Head} → SpellsHead ts h → (frames : List Frame) (items : List Item) (at : Span) (us : List Symbol) →
    run (frames, m.Items items) (ts ++ tok (t.Sign s.Equal) at ∷ us) ≡ run (f.Start items h at ∷ frames, m.Operand) us
equal_runs {ts = ts} {h = h} v frames items at us =
    let r = head_read v frames items in
    run_on (frames, m.Items items) (frames, m.Head items h r.st) ts (tok (t.Sign s.Equal) at ∷ us) r.runs ∙
    run_step (frames, m.Head items h r.st) (f.Start items h at ∷ frames, m.Operand) (tok (t.Sign s.Equal) at) us (step_head frames items h r.st (t.Sign s.Equal) at ∙ r.whole.equal at)

pub clafers : {ts us : List Symbol} {h : Head} {value : Option Start} → SpellsHead ts h → SpellsStart us value → (frames : List Frame) (items : List Item) →
    Clafers frames items (ts ++ us) h value
clafers {ts = ts} {h = h} v SpellsStart.none frames items =
    let r = head_read v frames items in
    record {
      reads = record {
        state = (frames, m.Head items h r.st);
        runs = ap (λ l. run (frames, m.Items items) l) (append-nil ts) ∙ r.runs;
        ends = λ kind at e g. step_head frames items h r.st kind at ∙ r.whole.ends kind at e g;
      };
      opens = λ at. step_head frames items h r.st t.Open at ∙ r.whole.opens at;
    }
clafers {ts = ts} {h = h} v (SpellsStart.start {at = place} {ts = us} {x = x} w) frames items =
    let r = complete w (f.Start items h place ∷ frames) (lit≤ tt) in
    record {
      reads = record {
        state = r.state;
        runs = equal_runs v frames items place us ∙ r.runs;
        ends = λ kind at e g. r.settles kind at (ends_need kind e g) ∙ start_ends frames items h place x r.level kind at e g;
      };
      opens = λ at. r.settles t.Open at open_needs ∙ start_opens frames items h place x r.level at;
    }

takes_close : (frames : List Frame) (items inner : List Item) (h : Head) (value : Option Start) (at : Span) →
    step (f.Block items h value ∷ frames, m.Items inner) (tok t.Close at) ≡ Some (frames, m.Items (items ++ clafer h value inner ∷ []))
unfolding step_at item close_block
takes_close frames items inner h value at = refl

-- A clafer up to the start of its block.
opening_runs : {ts us : List Symbol} {h : Head} {value : Option Start} → SpellsHead ts h → SpellsStart us value → (frames : List Frame) (items : List Item) (a : Span) (ws : List Symbol) →
    run (frames, m.Items items) (ts ++ (us ++ tok t.Open a ∷ ws)) ≡ run (f.Block items h value ∷ frames, m.Items []) ws
opening_runs {ts = ts} {us = us} {h = h} {value = value} v w frames items a ws =
    let c = clafers v w frames items in
    ap (λ l. run (frames, m.Items items) l) (sym (append_assoc ts us (tok t.Open a ∷ ws))) ∙
    run_on (frames, m.Items items) c.reads.state (ts ++ us) (tok t.Open a ∷ ws) c.reads.runs ∙
    run_step c.reads.state (f.Block items h value ∷ frames, m.Items []) (tok t.Open a) ws (c.opens a)

-- A clafer with its block.
block_runs : {ts us : List Symbol} {h : Head} {value : Option Start} → SpellsHead ts h → SpellsStart us value → (frames : List Frame) (items inner : List Item) (a z : Span) (ws vs : List Symbol) →
    Builds (f.Block items h value ∷ frames) [] ws inner →
    run (frames, m.Items items) (ts ++ (us ++ tok t.Open a ∷ (ws ++ tok t.Close z ∷ vs))) ≡ run (frames, m.Items (items ++ clafer h value inner ∷ [])) vs
block_runs {h = h} {value = value} v w frames items inner a z ws vs r =
    opening_runs v w frames items a (ws ++ tok t.Close z ∷ vs) ∙
    run_on (f.Block items h value ∷ frames, m.Items []) r.state ws (tok t.Close z ∷ vs) r.runs ∙
    run_step r.state (frames, m.Items (items ++ clafer h value inner ∷ [])) (tok t.Close z) vs (r.closes z ∙ takes_close frames items inner h value z)

-- ---- brackets, goals and enums

takes_bracket : (frames : List Frame) (items : List Item) (at : Span) →
    step (frames, m.Items items) (tok (t.Sign s.BracketOpen) at) ≡ Some (f.Bracket items at [] ∷ frames, m.Operand)
unfolding step_at item
takes_bracket frames items at = refl

bracket_runs : (frames : List Frame) (items : List Item) (at z : Span) (ts us vs : List Symbol) (first : Expr) (parts : List Expr) →
    Spells 0 ts first → SpellsMore us parts →
    run (frames, m.Items items) (tok (t.Sign s.BracketOpen) at ∷ (ts ++ (us ++ tok (t.Sign s.BracketClose) z ∷ vs))) ≡ run (frames, m.Items (items ++ i.Constraint at (first ∷ parts) ∷ [])) vs
bracket_runs frames items at z ts us vs first parts v w =
    run_step (frames, m.Items items) (f.Bracket items at [] ∷ frames, m.Operand) (tok (t.Sign s.BracketOpen) at) _ (takes_bracket frames items at) ∙
    more_runs w frames items at [] ts first z vs (complete v (f.Bracket items at [] ∷ frames) (lit≤ tt))

takes_goal : (frames : List Frame) (items : List Item) (at : Span) →
    step (frames, m.Items items) (tok (t.Sign s.GoalOpen) at) ≡ Some (frames, m.Goal items at)
unfolding step_at item
takes_goal frames items at = refl

takes_least : (frames : List Frame) (items : List Item) (place : Span) (kind : TokenKind) (at : Span) (least_first : Bool) → least_of kind ≡ Some least_first →
    step (frames, m.Goal items place) (tok kind at) ≡ Some (f.Goal items place least_first ∷ frames, m.Operand)
unfolding step_at goal_word
takes_least frames items place kind at least_first e = ap (goal_word frames items place) e

-- After `<<` and its word.
goal_opens : (frames : List Frame) (items : List Item) (at a : Span) (kind : TokenKind) (least_first : Bool) (ts : List Symbol) → least_of kind ≡ Some least_first →
    run (frames, m.Items items) (tok (t.Sign s.GoalOpen) at ∷ tok kind a ∷ ts) ≡ run (f.Goal items at least_first ∷ frames, m.Operand) ts
goal_opens frames items at a kind least_first ts e =
    run_step (frames, m.Items items) (frames, m.Goal items at) (tok (t.Sign s.GoalOpen) at) _ (takes_goal frames items at) ∙
    run_step (frames, m.Goal items at) (f.Goal items at least_first ∷ frames, m.Operand) (tok kind a) ts (takes_least frames items at kind a least_first e)

closes_goal : (frames : List Frame) (items : List Item) (place : Span) (least_first : Bool) (x : Expr) (level : ℕ) (at : Span) →
    settle (f.Goal items place least_first ∷ frames) x level (t.Sign s.GoalClose) at ≡ Some (frames, m.Items (items ++ i.Goal place least_first x ∷ []))
unfolding goes_on with_infix reduce close_goal
closes_goal frames items place least_first x level at = refl

free_goal : needs (t.Sign s.GoalClose) ≤ 0
unfolding needs needs_infix
free_goal = lit≤ tt

goal_runs : (frames : List Frame) (items : List Item) (at a z : Span) (kind : TokenKind) (least_first : Bool) (ts vs : List Symbol) (x : Expr) → least_of kind ≡ Some least_first → Spells 0 ts x →
    run (frames, m.Items items) (tok (t.Sign s.GoalOpen) at ∷ tok kind a ∷ (ts ++ tok (t.Sign s.GoalClose) z ∷ vs)) ≡ run (frames, m.Items (items ++ i.Goal at least_first x ∷ [])) vs
goal_runs frames items at a z kind least_first ts vs x e v =
    let r = complete v (f.Goal items at least_first ∷ frames) (lit≤ tt) in
    goal_opens frames items at a kind least_first _ e ∙
    then_token (f.Goal items at least_first ∷ frames) 0 ts x r (t.Sign s.GoalClose) z _ vs free_goal (closes_goal frames items at least_first x r.level z)

-- After an enum's `=`.
enum_runs : (frames : List Frame) (items : List Item) (at a z : Span) (n : List ℕ) (ts : List Symbol) →
    run (frames, m.Items items) (tok (t.Word w.Enum) at ∷ tok (t.Name n) a ∷ tok (t.Sign s.Equal) z ∷ ts) ≡ run (frames, m.Member items at (title n a) []) ts
unfolding run step_at item enum_word enum_title
enum_runs frames items at a z n ts = refl

bar_step : (frames : List Frame) (items : List Item) (at : Span) (name : Title) (members : List Title) (z : Span) →
    step (frames, m.Members items at name members) (tok (t.Sign s.Bar) z) ≡ Some (frames, m.Member items at name members)
unfolding step_at more_members
bar_step frames items at name members z = refl

member_step : (frames : List Frame) (items : List Item) (at : Span) (name : Title) (members : List Title) (n : List ℕ) (z : Span) →
    step (frames, m.Member items at name members) (tok (t.Name n) z) ≡ Some (frames, m.Members items at name (members ++ title n z ∷ []))
unfolding step_at member
member_step frames items at name members n z = refl

members_run : {ts : List Symbol} {members : List Title} → SpellsMembers ts members → (frames : List Frame) (items : List Item) (at : Span) (name : Title) →
    run (frames, m.Member items at name []) ts ≡ Some (frames, m.Members items at name members)
members_run (SpellsMembers.one {at = z} {n = n}) frames items at name =
    run_step (frames, m.Member items at name []) (frames, m.Members items at name (title n z ∷ [])) (tok (t.Name n) z) [] (member_step frames items at name [] n z) ∙ run_none _
members_run (SpellsMembers.more z y n {ts = ts} {members = members} v) frames items at name =
    run_on (frames, m.Member items at name []) (frames, m.Members items at name members) ts _ (members_run v frames items at name) ∙
    run_step (frames, m.Members items at name members) (frames, m.Member items at name members) (tok (t.Sign s.Bar) z) _ (bar_step frames items at name members z) ∙
    run_step (frames, m.Member items at name members) (frames, m.Members items at name (members ++ title n y ∷ [])) (tok (t.Name n) y) [] (member_step frames items at name members n y) ∙
    run_none _

members_end : (frames : List Frame) (items : List Item) (at : Span) (name : Title) (members : List Title) (kind : TokenKind) (z : Span) → EndsItem kind →
    step (frames, m.Members items at name members) (tok kind z) ≡ item frames (items ++ i.Enum at name members ∷ []) kind z
unfolding step_at more_members EndsItem
members_end frames items at name members (t.Sign s.Bar) z e = absurd e
members_end frames items at name members kind z e = refl

enum_reads : {ts : List Symbol} {members : List Title} → SpellsMembers ts members → (frames : List Frame) (items : List Item) (at a z : Span) (n : List ℕ) →
    Reads frames items (tok (t.Word w.Enum) at ∷ tok (t.Name n) a ∷ tok (t.Sign s.Equal) z ∷ ts) (i.Enum at (title n a) members) free
enum_reads {ts = ts} {members = members} v frames items at a z n = record {
  state = (frames, m.Members items at (title n a) members);
  runs = enum_runs frames items at a z n ts ∙ members_run v frames items at (title n a);
  ends = λ kind y e g. members_end frames items at (title n a) members kind y e;
}

takes_next : (frames : List Frame) (items : List Item) (at : Span) → step (frames, m.Items items) (tok t.Next at) ≡ Some (frames, m.Items items)
unfolding step_at item
takes_next frames items at = refl

-- ---- items

pub items_first : {ts : List Symbol} {xs : List Item} → SpellsItems ts xs → FirstEnds ts
unfolding FirstEnds EndsItem
items_first SpellsItems.none = tt
items_first (SpellsItems.next v) = tt
items_first (SpellsItems.leaf {ts = ts} h v g w) = first_ends ts _ (head_first h)
items_first (SpellsItems.block a z {ts = ts} h v w o) = first_ends ts _ (head_first h)
items_first (SpellsItems.enumeration v w) = tt
items_first (SpellsItems.bracket z v w o) = tt
items_first (SpellsItems.goal z e v w) = tt

begun_items_first : {ts : List Symbol} → BeginsItems ts → FirstEnds ts
unfolding FirstEnds EndsItem
begun_items_first BeginsItems.none = tt
begun_items_first (BeginsItems.next v) = tt
begun_items_first (BeginsItems.leaf {ts = ts} h v g w) = first_ends ts _ (head_first h)
begun_items_first (BeginsItems.block a z {ts = ts} h v w o) = first_ends ts _ (head_first h)
begun_items_first (BeginsItems.enumeration v w) = tt
begun_items_first (BeginsItems.bracket z v w o) = tt
begun_items_first (BeginsItems.goal z e v w) = tt
begun_items_first (BeginsItems.head v) = begun_first v
begun_items_first (BeginsItems.start at {ts = ts} h v) = first_ends ts _ (head_first h)
begun_items_first (BeginsItems.body a {ts = ts} h v w) = first_ends ts _ (head_first h)
begun_items_first BeginsItems.enum_word = tt
begun_items_first BeginsItems.enum_title = tt
begun_items_first BeginsItems.enum_sign = tt
begun_items_first (BeginsItems.member b v) = tt
begun_items_first (BeginsItems.first v) = tt
begun_items_first (BeginsItems.parts v w) = tt
begun_items_first BeginsItems.goal_sign = tt
begun_items_first (BeginsItems.goal_word e v) = tt

pub builds : {ts : List Symbol} {xs : List Item} → SpellsItems ts xs → (frames : List Frame) (items : List Item) → Builds frames items ts xs
builds SpellsItems.none frames items = record {
  state = (frames, m.Items items);
  runs = run_none _;
  closes = λ at. ap (λ l. step (frames, m.Items l) (tok t.Close at)) (sym (append-nil items));
  ends = λ at. ap (λ l. step (frames, m.Items l) (tok t.End at)) (sym (append-nil items));
}
builds (SpellsItems.next {at = at} {ts = ts} {xs = xs} v) frames items =
    let r = builds v frames items in
    record { state = r.state; runs = run_step (frames, m.Items items) (frames, m.Items items) (tok t.Next at) ts (takes_next frames items at) ∙ r.runs; closes = r.closes; ends = r.ends }
builds (SpellsItems.leaf {ts = ts} {us = us} {vs = vs} {h = h} {start = value} {xs = xs} v w g o) frames items =
    let c = clafers v w frames items in
    subst (λ l. Builds frames items l (clafer h value [] ∷ xs)) (append_assoc ts us vs)
    (then_items frames items xs (clafer h value []) (ending h value) (ts ++ us) vs c.reads g (items_first o) (builds o frames (items ++ clafer h value [] ∷ [])))
builds (SpellsItems.block a z {ts = ts} {us = us} {ws = ws} {vs = vs} {h = h} {start = value} {inner = inner} {xs = xs} v w p o) frames items =
    built frames items xs (clafer h value inner) _ vs
    (block_runs v w frames items inner a z ws vs (builds p (f.Block items h value ∷ frames) []))
    (builds o frames (items ++ clafer h value inner ∷ []))
builds (SpellsItems.enumeration {at = at} {a = a} {z = z} {n = n} {ts = ts} {vs = vs} {members = members} {xs = xs} v o) frames items =
    then_items frames items xs (i.Enum at (title n a) members) free (tok (t.Word w.Enum) at ∷ tok (t.Name n) a ∷ tok (t.Sign s.Equal) z ∷ ts) vs
    (enum_reads v frames items at a z n) (free_follows vs) (items_first o) (builds o frames (items ++ i.Enum at (title n a) members ∷ []))
  where
    free_follows : (vs : List Symbol) → Follows free vs
    free_follows [] = tt
    free_follows (v ∷ vs) = tt
builds (SpellsItems.bracket z {at = at} {ts = ts} {us = us} {vs = vs} {first = first} {parts = parts} {xs = xs} v w o) frames items =
    built frames items xs (i.Constraint at (first ∷ parts)) _ vs
    (bracket_runs frames items at z ts us vs first parts v w)
    (builds o frames (items ++ i.Constraint at (first ∷ parts) ∷ []))
builds (SpellsItems.goal z {at = at} {a = a} {kind = kind} {least = least_first} {ts = ts} {vs = vs} {x = x} {xs = xs} e v o) frames items =
    built frames items xs (i.Goal at least_first x) _ vs
    (goal_runs frames items at a z kind least_first ts vs x e v)
    (builds o frames (items ++ i.Goal at least_first x ∷ []))

-- ---- what begins items

more_survives : {us : List Symbol} → BeginsMore us →
    (frames : List Frame) (before : List Item) (place : Span) (parts : List Expr) (ts : List Symbol) (x : Expr) →
    Reaches (f.Bracket before place parts ∷ frames) 0 ts x →
    IsRunning (run (f.Bracket before place parts ∷ frames, m.Operand) (ts ++ us))
more_survives (BeginsMore.part {ts = us} g v) frames before place parts ts x r =
    go us g (begins_may v) (survives v (f.Bracket before place (parts ++ x ∷ []) ∷ frames) (lit≤ tt))
  where
    go : (us : List Symbol) → NoMinus us → FirstMay us → IsRunning (run (f.Bracket before place (parts ++ x ∷ []) ∷ frames, m.Operand) us) →
        IsRunning (run (f.Bracket before place parts ∷ frames, m.Operand) (ts ++ us))
    go [] g h w = (r.state, ap (λ l. run (f.Bracket before place parts ∷ frames, m.Operand) l) (append-nil ts) ∙ r.runs)
    go (u ∷ us) g h w = running_by (next_runs frames before place parts ts x r (u ∷ us) h g) w
more_survives (BeginsMore.more {ts = us} {us = ws} {x = y} g v w) frames before place parts ts x r =
    let starts = spells_starts v in
    let r2 = complete v (f.Bracket before place (parts ++ x ∷ []) ∷ frames) (lit≤ tt) in
    running_by (next_runs frames before place parts ts x r (us ++ ws) (starts_more us _ starts) (no_minus_more us _ starts g))
    (more_survives w frames before place (parts ++ x ∷ []) us y r2)

-- An item that ends with the next token, and what begins items behind it.
then_begun : (frames : List Frame) (items : List Item) (x : Item) (end : Ending) (ts vs : List Symbol) → Reads frames items ts x end →
    Follows end vs → FirstEnds vs → IsRunning (run (frames, m.Items (items ++ x ∷ [])) vs) → IsRunning (run (frames, m.Items items) (ts ++ vs))
unfolding FirstEnds
then_begun frames items x end ts [] r g e b = (r.state, ap (λ l. run (frames, m.Items items) l) (append-nil ts) ∙ r.runs)
then_begun frames items x end ts (v ∷ vs) r g e b = running_by (open_runs frames items x end ts v vs r e g) b

pub items_survive : {ts : List Symbol} → BeginsItems ts → (frames : List Frame) (items : List Item) → IsRunning (run (frames, m.Items items) ts)
unfolding step_at item enum_word enum_title run
items_survive BeginsItems.none frames items = (_, refl)
items_survive (BeginsItems.next {at = at} {ts = ts} v) frames items =
    running_by (run_step (frames, m.Items items) (frames, m.Items items) (tok t.Next at) ts (takes_next frames items at)) (items_survive v frames items)
items_survive (BeginsItems.leaf {ts = ts} {us = us} {vs = vs} {h = h} {start = value} v w g o) frames items =
    let c = clafers v w frames items in
    running_by (ap (λ l. run (frames, m.Items items) l) (sym (append_assoc ts us vs)))
    (then_begun frames items (clafer h value []) (ending h value) (ts ++ us) vs c.reads g (begun_items_first o) (items_survive o frames (items ++ clafer h value [] ∷ [])))
items_survive (BeginsItems.block a z {ws = ws} {vs = vs} {h = h} {start = value} {inner = inner} v w p o) frames items =
    running_by (block_runs v w frames items inner a z ws vs (builds p (f.Block items h value ∷ frames) []))
    (items_survive o frames (items ++ clafer h value inner ∷ []))
items_survive (BeginsItems.enumeration {at = at} {a = a} {z = z} {n = n} {ts = ts} {vs = vs} {members = members} v o) frames items =
    then_begun frames items (i.Enum at (title n a) members) free (tok (t.Word w.Enum) at ∷ tok (t.Name n) a ∷ tok (t.Sign s.Equal) z ∷ ts) vs
    (enum_reads v frames items at a z n) (free_follows vs) (begun_items_first o) (items_survive o frames (items ++ i.Enum at (title n a) members ∷ []))
  where
    free_follows : (vs : List Symbol) → Follows free vs
    free_follows [] = tt
    free_follows (v ∷ vs) = tt
items_survive (BeginsItems.bracket z {at = at} {ts = ts} {us = us} {vs = vs} {first = first} {parts = parts} v w o) frames items =
    running_by (bracket_runs frames items at z ts us vs first parts v w)
    (items_survive o frames (items ++ i.Constraint at (first ∷ parts) ∷ []))
items_survive (BeginsItems.goal z {at = at} {a = a} {kind = kind} {least = least_first} {ts = ts} {vs = vs} {x = x} e v o) frames items =
    running_by (goal_runs frames items at a z kind least_first ts vs x e v)
    (items_survive o frames (items ++ i.Goal at least_first x ∷ []))
items_survive (BeginsItems.head v) frames items = head_begun v frames items
items_survive (BeginsItems.start at {us = us} {h = h} v w) frames items =
    running_by (equal_runs v frames items at us) (survives w (f.Start items h at ∷ frames) (lit≤ tt))
items_survive (BeginsItems.body a {ws = ws} {h = h} {start = value} v w o) frames items =
    running_by (opening_runs v w frames items a ws) (items_survive o (f.Block items h value ∷ frames) [])
items_survive BeginsItems.enum_word frames items = (_, refl)
items_survive BeginsItems.enum_title frames items = (_, refl)
items_survive BeginsItems.enum_sign frames items = (_, refl)
items_survive (BeginsItems.member b {at = at} {a = a} {z = z} {n = n} {ts = ts} {members = members} v) frames items = (
  (frames, m.Member items at (title n a) members),
  enum_runs frames items at a z n _ ∙
      run_on (frames, m.Member items at (title n a) []) (frames, m.Members items at (title n a) members) ts _ (members_run v frames items at (title n a)) ∙
      run_step (frames, m.Members items at (title n a) members) (frames, m.Member items at (title n a) members) (tok (t.Sign s.Bar) b) [] (bar_step frames items at (title n a) members b) ∙ run_none _,
)
items_survive (BeginsItems.first {at = at} {ts = ts} v) frames items =
    running_by (run_step (frames, m.Items items) (f.Bracket items at [] ∷ frames, m.Operand) (tok (t.Sign s.BracketOpen) at) ts (takes_bracket frames items at))
    (survives v (f.Bracket items at [] ∷ frames) (lit≤ tt))
items_survive (BeginsItems.parts {at = at} {ts = ts} {us = us} {first = first} v w) frames items =
    running_by (run_step (frames, m.Items items) (f.Bracket items at [] ∷ frames, m.Operand) (tok (t.Sign s.BracketOpen) at) (ts ++ us) (takes_bracket frames items at))
    (more_survives w frames items at [] ts first (complete v (f.Bracket items at [] ∷ frames) (lit≤ tt)))
items_survive BeginsItems.goal_sign frames items = (_, refl)
items_survive (BeginsItems.goal_word {at = at} {a = a} {kind = kind} {least = least_first} {ts = ts} e v) frames items =
    running_by (goal_opens frames items at a kind least_first ts e) (survives v (f.Goal items at least_first ∷ frames) (lit≤ tt))

-- ---- modules

takes_end : (items : List Item) (at : Span) → step ([], m.Items items) (tok t.End at) ≡ Some ([], m.Done items)
unfolding step_at item finish
takes_end items at = refl

pub module_runs : {ts : List Symbol} {xs : List Item} → SpellsModule ts xs → run start ts ≡ Some ([], m.Done xs)
module_runs (SpellsModule.module_of at {ts = ts} {xs = xs} v) =
    let r = builds v [] [] in
    run_on start r.state ts (tok t.End at ∷ []) r.runs ∙
    run_step r.state ([], m.Done xs) (tok t.End at) [] (r.ends at ∙ takes_end xs at) ∙ run_none _

pub module_survives : {ts : List Symbol} → BeginsModule ts → IsRunning (run start ts)
module_survives (BeginsModule.whole v) = (_, module_runs v)
module_survives (BeginsModule.items v) = items_survive v [] []

done_same : {a c : List Item} → m.Done a ≡ m.Done c → a ≡ c
done_same e = cc

-- A token list spells at most one module.
pub spells_one : {ts : List Symbol} {xs ys : List Item} → SpellsModule ts xs → SpellsModule ts ys → xs ≡ ys
spells_one v w = done_same (ap (λ o. o.1) (some_same (sym (module_runs v) ∙ module_runs w)))
