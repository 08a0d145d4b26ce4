-- What spells an expression is read as that expression.
use Rattle.std.proofs.Common.{◌≡◌, ℕ, ◌≤◌, ◌&&◌, if◌then◌else◌, Bool, true, false, refl, sym, ◌∙◌, ap, arith, lit≤, Option, Some, None, List, [], ◌∷◌, ◌++◌, append_assoc}
use Rattle.std.specs.Prelude.{nat_le}
use Rattle.std.proofs.lemmas.Bool.Decides.{nat_tests}
use Rattle.clf_base.specs.declared.fault.Span.{Span}
use Rattle.clf_tree.specs.declared.token.Sign.TheVariants as s
use Rattle.clf_tree.specs.declared.token.Title.{Title}
use Rattle.clf_tree.specs.declared.token.Word.{Word}
use Rattle.clf_tree.specs.declared.token.Word.TheVariants as w
use Rattle.clf_tree.specs.declared.token.TokenKind.{TokenKind}
use Rattle.clf_tree.specs.declared.token.TokenKind.TheVariants as t
use Rattle.clf_tree.specs.declared.expr.Expr.{Expr}
use Rattle.clafer_grammar.specs.declared.operators.Infix.{Infix}
use Rattle.clafer_grammar.specs.declared.operators.Infix.TheVariants as b
use Rattle.clafer_grammar.specs.declared.operators.Prefix.{Prefix}
use Rattle.clafer_grammar.specs.declared.operators.Prefix.TheVariants as u
use Rattle.clafer_grammar.specs.declared.machine.Frame.{Frame}
use Rattle.clafer_grammar.specs.declared.machine.Frame.TheVariants as f
use Rattle.clafer_grammar.specs.declared.machine.Mode.{Mode}
use Rattle.clafer_grammar.specs.declared.machine.Mode.TheVariants as m
use Rattle.clafer_grammar.specs.Symbols.{Symbol, tok}
use Rattle.clafer_grammar.specs.Trees.{title, name_tree, atom_tree, field_tree, prefix_tree, infix_tree, if_tree, quant_tree}
use Rattle.clafer_grammar.specs.Operators.{infix_kind, infix_rest, infix_level, left_of, right_of, prefix_kind, prefix_level, operand_level}
use Rattle.clafer_grammar.specs.Expressions.{is_quant, disj_part, SpellsNames, Spells}
use Rattle.clafer_grammar.specs.Machine.{infix_of, counting_word, least, State, Step, prefixed, atom, disjoint_after, disjoint, operand, names, listed, variable_after, variable, after_infix, with_infix, goes_on, close_paren, close_condition, close_consequence, close_range, reduce, settle, first_of_two, named, valued, not_in, step_at, step, then_run, run}
use Rattle.clafer_grammar.proofs.Levels.{left_above, right_above, levels_apart, binary_low, binary_high, needs_infix}

-- ---- runs

pub run_on : (s s' : State) (xs ys : List Symbol) → run s xs ≡ Some s' → run s (xs ++ ys) ≡ run s' ys
unfolding run
run_on s s' [] ys h = ap (λ o. then_run o (λ w. run w ys)) h
run_on s s' (x ∷ xs) ys h = go (λ w g. run_on w s' xs ys g) (step s x) h
  where
    go : ((w : State) → run w xs ≡ Some s' → run w (xs ++ ys) ≡ run s' ys) →
        (o : Step) → then_run o (λ w. run w xs) ≡ Some s' → then_run o (λ w. run w (xs ++ ys)) ≡ run s' ys
    go each None g = cc
    go each (Some w) g = each w g

pub run_step : (s s' : State) (x : Symbol) (xs : List Symbol) → step s x ≡ Some s' → run s (x ∷ xs) ≡ run s' xs
unfolding run
run_step s s' x xs h = ap (λ o. then_run o (λ w. run w xs)) h

pub run_none : (s : State) → run s [] ≡ Some s
unfolding run
run_none s = refl

-- ---- tokens after an expression

unfoldable pub needs : TokenKind → ℕ
needs (t.Sign s.Dot) = 13
needs (t.Sign s.Colon) = 16
needs (t.Sign s.Semicolon) = 16
needs kind = needs_infix (infix_of kind)

pub needs_sign : (op : Infix) → needs (infix_kind op) ≡ left_of (infix_level op)
unfolding needs needs_infix
needs_sign = elim [ b.Iff ↦ refl | b.Implies ↦ refl | _ ↦ refl ]

-- A construct whose result has level k and whose last part has at least level r takes no operator that goes on with the whole.
unfoldable pub IsApart : ℕ → ℕ → Type 0
IsApart k r = (op : Infix) → r ≤ infix_level op → left_of (infix_level op) ≤ k → ⊥

pub infix_stays : (frames : List Frame) (x : Expr) (level k : ℕ) (at : Span) (o : Option Infix) →
    IsApart k (least frames) → needs_infix o ≤ k → with_infix frames x level at o ≡ None
unfolding with_infix needs_infix IsApart
infix_stays frames x level k at None h g = refl
infix_stays frames x level k at (Some op) h g =
    go (nat_le (least frames) (infix_level op)) (nat_le (left_of (infix_level op)) level) refl
  where
    go : (p q : Bool) → nat_le (least frames) (infix_level op) ≡ p →
        ◌≡◌ {A = Step} (if◌then◌else◌ {A = Step} (p && q) (Some (f.Binary at op x ∷ frames, after_infix op)) None) None
    go false q e = refl
    go true q e = absurd (h op (grind (arith, nat_tests)) g)

pub stays : (frames : List Frame) (x : Expr) (level k : ℕ) (kind : TokenKind) (at : Span) →
    IsApart k (least frames) → k ≤ 12 → needs kind ≤ k → goes_on frames x level kind at ≡ None
unfolding goes_on needs with_infix
stays frames x level k (t.Sign s.Dot) at h b g = absurd (omega arith)
stays frames x level k (t.Sign s.Colon) at h b g = refl
stays frames x level k (t.Sign s.Semicolon) at h b g = refl
stays frames x level k kind at h b g = infix_stays frames x level k at (infix_of kind) h g

pub binary_apart : (op : Infix) → IsApart (infix_level op) (right_of (infix_level op))
unfolding IsApart
binary_apart op other h g = levels_apart (infix_level op) (infix_level other) h g

pub no_six : (op : Infix) → 6 ≤ infix_level op → left_of (infix_level op) ≤ 6 → ⊥
unfolding left_of
no_six = elim [ b.Iff ↦ grind arith | b.Implies ↦ grind arith | _ ↦ grind arith ]

pub no_ten : (op : Infix) → 10 ≤ infix_level op → left_of (infix_level op) ≤ 10 → ⊥
unfolding left_of
no_ten = elim [ b.Iff ↦ grind arith | b.Implies ↦ grind arith | _ ↦ grind arith ]

counts_apart : (op : Infix) → 11 ≤ infix_level op → left_of (infix_level op) ≤ 7 → ⊥
counts_apart op h g = omega (arith, left_above (infix_level op))

pub unary_apart : (op : Prefix) → IsApart (prefix_level op) (operand_level op)
unfolding IsApart
unary_apart = elim [ u.Not ↦ no_six | u.Neg ↦ no_ten | u.Card ↦ no_ten | u.Sum ↦ no_ten | u.Some ↦ counts_apart | u.No ↦ counts_apart | u.One ↦ counts_apart | u.Lone ↦ counts_apart ]

pub open_apart : IsApart 0 0
unfolding IsApart
open_apart op h g = omega (arith, left_above (infix_level op), binary_low op)

pub unary_within : (op : Prefix) → (prefix_level op ≤ operand_level op) × (prefix_level op ≤ 12)
unary_within = elim [ u.Not ↦ (lit≤ tt, lit≤ tt) | u.Neg ↦ (lit≤ tt, lit≤ tt) | u.Card ↦ (lit≤ tt, lit≤ tt) | u.Sum ↦ (lit≤ tt, lit≤ tt) | _ ↦ (lit≤ tt, lit≤ tt) ]

-- ---- expressions

-- The tokens are read as the expression, and a token that goes on with nothing of level k or tighter finds it whole.
pub record Reaches (frames : List Frame) (k : ℕ) (ts : List Symbol) (x : Expr) : Type 0 where
  pub state : State
  pub level : ℕ
  pub runs : run (frames, m.Operand) ts ≡ Some state
  pub at_least : k ≤ level
  pub settles : (kind : TokenKind) (at : Span) → needs kind ≤ k → step state (tok kind at) ≡ settle frames x level kind at

goes_sign : (frames : List Frame) (x : Expr) (level : ℕ) (at : Span) (op : Infix) →
    goes_on frames x level (infix_kind op) at ≡ with_infix frames x level at (Some op)
unfolding goes_on
goes_sign frames x level at = elim [ b.Iff ↦ refl | b.Implies ↦ refl | _ ↦ refl ]

operand_sign : (frames : List Frame) (at : Span) (op : Prefix) → operand frames (prefix_kind op) at ≡ prefixed frames at (Some op)
unfolding operand atom
operand_sign frames at = elim [ u.Not ↦ refl | u.Neg ↦ refl | _ ↦ refl ]

pub le_test : (a c : ℕ) → a ≤ c → nat_le a c ≡ true
le_test a c h = grind (arith, nat_tests)

pub takes_infix : (frames : List Frame) (x : Expr) (level : ℕ) (at : Span) (op : Infix) →
    least frames ≤ infix_level op → left_of (infix_level op) ≤ level →
    settle frames x level (infix_kind op) at ≡ Some (f.Binary at op x ∷ frames, after_infix op)
unfolding with_infix
takes_infix frames x level at op h g =
    let goes : goes_on frames x level (infix_kind op) at ≡ Some (f.Binary at op x ∷ frames, after_infix op) =
    goes_sign frames x level at op ∙ rw (le_test _ _ h, le_test _ _ g) refl in
    ap (λ o. first_of_two o (reduce frames x level (infix_kind op) at)) goes

pub takes_dot : (frames : List Frame) (x : Expr) (level : ℕ) (at : Span) → least frames ≤ 13 → 13 ≤ level →
    settle frames x level (t.Sign s.Dot) at ≡ Some (frames, m.Field x)
unfolding goes_on
takes_dot frames x level at h g =
    rw (le_test _ _ h, le_test _ _ g) refl

pub takes_prefix : (frames : List Frame) (at : Span) (op : Prefix) → least frames ≤ prefix_level op →
    operand frames (prefix_kind op) at ≡ Some (f.Unary at op ∷ frames, m.Operand)
unfolding prefixed
takes_prefix frames at op h = operand_sign frames at op ∙ rw (le_test _ _ h) refl

pub takes_if : (frames : List Frame) (at : Span) → least frames ≤ 0 →
    operand frames (t.Word w.If) at ≡ Some (f.Condition at ∷ frames, m.Operand)
unfolding operand
takes_if frames at h = rw (le_test _ _ h) refl

pub takes_all : (frames : List Frame) (at : Span) → least frames ≤ 0 →
    operand frames (t.Word w.All) at ≡ Some (frames, m.Names at w.All false [])
unfolding operand
takes_all frames at h = rw (le_test _ _ h) refl

pub takes_atom : (frames : List Frame) (kind : TokenKind) (at : Span) (x : Expr) → atom_tree kind at ≡ Some x →
    operand frames kind at ≡ Some (frames, m.Value x 14)
unfolding operand atom
takes_atom frames (t.Name n) at x h = cc
takes_atom frames (t.Sign s.ParenOpen) at x h = cc
takes_atom frames (t.Word w.If) at x h = cc
takes_atom frames (t.Word w.All) at x h = cc
takes_atom frames (t.Word w.Disj) at x h = cc
takes_atom frames kind at x h = ap (atom frames kind at) h

-- a frame whose last part ends with it
ends : (frame : Frame) (frames : List Frame) (x y : Expr) (level k : ℕ) (kind : TokenKind) (at : Span) →
    IsApart k (least (frame ∷ frames)) → k ≤ 12 → needs kind ≤ k →
    reduce (frame ∷ frames) x level kind at ≡ settle frames y k kind at →
    settle (frame ∷ frames) x level kind at ≡ settle frames y k kind at
ends frame frames x y level k kind at h b g r =
    ap (λ o. first_of_two o (reduce (frame ∷ frames) x level kind at)) (stays (frame ∷ frames) x level k kind at h b g) ∙ r

binary_ends : (frames : List Frame) (x y : Expr) (level : ℕ) (place : Span) (op : Infix) (kind : TokenKind) (at : Span) →
    needs kind ≤ infix_level op →
    settle (f.Binary place op x ∷ frames) y level kind at ≡ settle frames (infix_tree op place x y) (infix_level op) kind at
unfolding reduce
binary_ends frames x y level place op kind at g =
    ends (f.Binary place op x) frames y (infix_tree op place x y) level (infix_level op) kind at (binary_apart op) (binary_high op) g refl

unary_ends : (frames : List Frame) (x : Expr) (level : ℕ) (place : Span) (op : Prefix) (kind : TokenKind) (at : Span) →
    needs kind ≤ prefix_level op →
    settle (f.Unary place op ∷ frames) x level kind at ≡ settle frames (prefix_tree op place x) (prefix_level op) kind at
unfolding reduce
unary_ends frames x level place op kind at g =
    let w = unary_within op in
    ends (f.Unary place op) frames x (prefix_tree op place x) level (prefix_level op) kind at (unary_apart op) w.1 g refl

choice_ends : (frames : List Frame) (x y v : Expr) (level : ℕ) (place : Span) (kind : TokenKind) (at : Span) → needs kind ≤ 0 →
    settle (f.Alternative place x y ∷ frames) v level kind at ≡ settle frames (if_tree place x y v) 0 kind at
unfolding reduce
choice_ends frames x y v level place kind at g =
    ends (f.Alternative place x y) frames v (if_tree place x y v) level 0 kind at open_apart (lit≤ tt) g refl

quant_ends : (frames : List Frame) (x y : Expr) (level : ℕ) (place : Span) (word : Word) (disj : Bool) (vars : List Title) (kind : TokenKind) (at : Span) →
    needs kind ≤ 0 →
    settle (f.Body place word disj vars x ∷ frames) y level kind at ≡ settle frames (quant_tree place word disj vars x y) 0 kind at
unfolding reduce
quant_ends frames x y level place word disj vars kind at g =
    ends (f.Body place word disj vars x) frames y (quant_tree place word disj vars x y) level 0 kind at open_apart (lit≤ tt) g refl

-- ---- closing signs

pub closes_paren : (frames : List Frame) (x : Expr) (level : ℕ) (at : Span) →
    settle (f.Paren ∷ frames) x level (t.Sign s.ParenClose) at ≡ Some (frames, m.Value x 14)
unfolding goes_on with_infix reduce close_paren
closes_paren frames x level at = refl

pub closes_condition : (frames : List Frame) (x : Expr) (level : ℕ) (place at : Span) →
    settle (f.Condition place ∷ frames) x level (t.Word w.Then) at ≡ Some (f.Consequence place x ∷ frames, m.Operand)
unfolding goes_on with_infix reduce close_condition
closes_condition frames x level place at = refl

pub closes_consequence : (frames : List Frame) (x y : Expr) (level : ℕ) (place at : Span) →
    settle (f.Consequence place x ∷ frames) y level (t.Word w.Else) at ≡ Some (f.Alternative place x y ∷ frames, m.Operand)
unfolding goes_on with_infix reduce close_consequence
closes_consequence frames x y level place at = refl

pub closes_range : (frames : List Frame) (x : Expr) (level : ℕ) (place at : Span) (word : Word) (disj : Bool) (vars : List Title) →
    settle (f.Range place word disj vars ∷ frames) x level (t.Sign s.Bar) at ≡ Some (f.Body place word disj vars x ∷ frames, m.Operand)
unfolding goes_on with_infix reduce close_range
closes_range frames x level place at word disj vars = refl

-- ---- the states between

pub step_operand : (frames : List Frame) (kind : TokenKind) (at : Span) →
    step (frames, m.Operand) (tok kind at) ≡ operand frames kind at
unfolding step_at
step_operand frames kind at = refl

-- a name, to a token that brings in no variable
step_named : (frames : List Frame) (name : Title) (kind : TokenKind) (at : Span) → needs kind ≤ 14 →
    step (frames, m.Named name) (tok kind at) ≡ settle frames (name_tree name) 14 kind at
unfolding step_at named needs
step_named frames name (t.Sign s.Semicolon) at h = absurd (omega arith)
step_named frames name (t.Sign s.Colon) at h = absurd (omega arith)
step_named frames name kind at h = refl

step_value : (frames : List Frame) (x : Expr) (level : ℕ) (kind : TokenKind) (at : Span) →
    step (frames, m.Value x level) (tok kind at) ≡ settle frames x level kind at
unfolding step_at
step_value frames x level kind at = refl

-- After the tokens of an expression and one more.
pub then_token : (frames : List Frame) (k : ℕ) (ts : List Symbol) (x : Expr) (r : Reaches frames k ts x) (kind : TokenKind) (at : Span) (s : State) (us : List Symbol) →
    needs kind ≤ k → settle frames x r.level kind at ≡ Some s →
    run (frames, m.Operand) (ts ++ tok kind at ∷ us) ≡ run s us
then_token frames k ts x r kind at s us g h =
    run_on (frames, m.Operand) r.state ts (tok kind at ∷ us) r.runs ∙
    run_step r.state s (tok kind at) us (r.settles kind at g ∙ h)

pub first_token : (frames : List Frame) (kind : TokenKind) (at : Span) (s : State) (us : List Symbol) → operand frames kind at ≡ Some s →
    run (frames, m.Operand) (tok kind at ∷ us) ≡ run s us
first_token frames kind at s us h = run_step (frames, m.Operand) s (tok kind at) us (step_operand frames kind at ∙ h)

pub takes_name : (frames : List Frame) (n : List ℕ) (at : Span) → operand frames (t.Name n) at ≡ Some (frames, m.Named (title n at))
unfolding operand
takes_name frames n at = refl

pub takes_paren : (frames : List Frame) (at : Span) → operand frames (t.Sign s.ParenOpen) at ≡ Some (f.Paren ∷ frames, m.Operand)
unfolding operand
takes_paren frames at = refl

pub free_paren : needs (t.Sign s.ParenClose) ≤ 0
unfolding needs needs_infix
free_paren = lit≤ tt

pub free_then : needs (t.Word w.Then) ≤ 0
unfolding needs needs_infix
free_then = lit≤ tt

pub free_else : needs (t.Word w.Else) ≤ 0
unfolding needs needs_infix
free_else = lit≤ tt

pub free_bar : needs (t.Sign s.Bar) ≤ 11
unfolding needs needs_infix
free_bar = lit≤ tt

pub dot_needs : needs (t.Sign s.Dot) ≤ 13
unfolding needs
dot_needs = lit≤ tt

pub step_field : (frames : List Frame) (x y : Expr) (kind : TokenKind) (at : Span) → field_tree x kind at ≡ Some y →
    step (frames, m.Field x) (tok kind at) ≡ Some (frames, m.Value y 13)
unfolding step_at valued
step_field frames x y kind at h = ap (valued frames) h

-- ---- operators of several tokens

rest_runs : (frames : List Frame) (op : Infix) (a : Span) (us : List Symbol) →
    run (frames, after_infix op) (infix_rest op a ++ us) ≡ run (frames, m.Operand) us
unfolding step_at not_in
rest_runs frames b.NotIn a us = run_step (frames, m.In) (frames, m.Operand) (tok (t.Word w.In) a) us refl
rest_runs frames _ a us = refl

-- After the tokens of an expression and those of an operator.
pub then_infix : (frames : List Frame) (ts : List Symbol) (x : Expr) (op : Infix) (at a : Span) (us : List Symbol) →
    Reaches frames (left_of (infix_level op)) ts x → least frames ≤ infix_level op →
    run (frames, m.Operand) (ts ++ tok (infix_kind op) at ∷ (infix_rest op a ++ us)) ≡ run (f.Binary at op x ∷ frames, m.Operand) us
then_infix frames ts x op at a us r h =
    then_token frames (left_of (infix_level op)) ts x r (infix_kind op) at (f.Binary at op x ∷ frames, after_infix op) _
    (omega (arith, needs_sign op)) (takes_infix frames x r.level at op h r.at_least) ∙
    rest_runs (f.Binary at op x ∷ frames) op a us

-- ---- variables

-- The state has read these variables, and the next token tells whether there are more.
pub record Lists (frames : List Frame) (place : Span) (word : Word) (disj : Bool) (vars : List Title) (state : State) : Type 0 where
  pub further : (z : Span) → step state (tok (t.Sign s.Semicolon) z) ≡ Some (frames, m.Names place word disj vars)
  pub colon : (z : Span) → step state (tok (t.Sign s.Colon) z) ≡ Some (f.Range place word disj vars ∷ frames, m.Operand)

pub listed_lists : (frames : List Frame) (place : Span) (word : Word) (disj : Bool) (vars : List Title) →
    Lists frames place word disj vars (frames, m.Listed place word disj vars)
unfolding step_at listed
listed_lists frames place word disj vars = record { further = λ z. refl; colon = λ z. refl }

counted_lists : (frames : List Frame) (place : Span) (op : Prefix) (word : Word) (name : Title) → least frames ≤ 0 → counting_word op ≡ Some word →
    Lists frames place word false (name ∷ []) (f.Unary place op ∷ frames, m.Named name)
unfolding step_at named variable variable_after listed
counted_lists frames place op word name h e = record {
  further = λ z. ap (λ o. variable_after frames place o name (t.Sign s.Semicolon)) e ∙ rw (le_test _ _ h) refl;
  colon = λ z. ap (λ o. variable_after frames place o name (t.Sign s.Colon)) e ∙ rw (le_test _ _ h) refl;
}

pub takes_disj : (frames : List Frame) (place at : Span) (op : Prefix) (word : Word) → least frames ≤ 0 → counting_word op ≡ Some word →
    operand (f.Unary place op ∷ frames) (t.Word w.Disj) at ≡ Some (frames, m.Names place word true [])
unfolding operand disjoint disjoint_after
takes_disj frames place at op word h e = ap (disjoint_after frames place) e ∙ rw (le_test _ _ h) refl

counts_high : (op : Prefix) (word : Word) → counting_word op ≡ Some word → 0 ≤ prefix_level op
counts_high op word e = omega arith

abbrev pub Listing : List Frame → Span → Word → Bool → Span → List Symbol → List Title → Type 0
Listing frames place word disj d ts vars =
    (state : State) × (run (frames, m.Operand) (tok (t.Word word) place ∷ (disj_part disj d ++ ts)) ≡ Some state) × Lists frames place word disj vars state

one_name : (frames : List Frame) (place : Span) (word : Word) (vars : List Title) (n : List ℕ) (at : Span) →
    run (frames, m.Names place word true vars) (tok (t.Name n) at ∷ []) ≡ Some (frames, m.Listed place word true (vars ++ title n at ∷ []))
unfolding step_at names
one_name frames place word vars n at = run_step _ (frames, m.Listed place word true (vars ++ title n at ∷ [])) (tok (t.Name n) at) [] refl ∙ run_none _

counted_one : (frames : List Frame) (place : Span) (op : Prefix) (word : Word) (disj : Bool) (d : Span) (n : List ℕ) (at : Span) →
    least frames ≤ 0 → counting_word op ≡ Some word → prefix_kind op ≡ t.Word word →
    Listing frames place word disj d (tok (t.Name n) at ∷ []) (title n at ∷ [])
counted_one frames place op word false d n at h e k = (
  (f.Unary place op ∷ frames, m.Named (title n at)),
  ap (λ kind. run (frames, m.Operand) (tok kind place ∷ tok (t.Name n) at ∷ [])) (sym k) ∙
      first_token frames (prefix_kind op) place (f.Unary place op ∷ frames, m.Operand) _ (takes_prefix frames place op (omega arith)) ∙
      first_token (f.Unary place op ∷ frames) (t.Name n) at (f.Unary place op ∷ frames, m.Named (title n at)) [] (takes_name (f.Unary place op ∷ frames) n at) ∙ run_none _,
  counted_lists frames place op word (title n at) h e,
)
counted_one frames place op word true d n at h e k = (
  (frames, m.Listed place word true (title n at ∷ [])),
  ap (λ kind. run (frames, m.Operand) (tok kind place ∷ tok (t.Word w.Disj) d ∷ tok (t.Name n) at ∷ [])) (sym k) ∙
      first_token frames (prefix_kind op) place (f.Unary place op ∷ frames, m.Operand) _ (takes_prefix frames place op (omega arith)) ∙
      first_token (f.Unary place op ∷ frames) (t.Word w.Disj) d (frames, m.Names place word true []) _ (takes_disj frames place d op word h e) ∙
      one_name frames place word [] n at,
  listed_lists frames place word true (title n at ∷ []),
)

pub all_runs : (frames : List Frame) (place : Span) (disj : Bool) (d : Span) (ts : List Symbol) → least frames ≤ 0 →
    run (frames, m.Operand) (tok (t.Word w.All) place ∷ (disj_part disj d ++ ts)) ≡ run (frames, m.Names place w.All disj []) ts
unfolding step_at names
all_runs frames place false d ts h = first_token frames (t.Word w.All) place (frames, m.Names place w.All false []) _ (takes_all frames place h)
all_runs frames place true d ts h =
    first_token frames (t.Word w.All) place (frames, m.Names place w.All false []) _ (takes_all frames place h) ∙
    run_step (frames, m.Names place w.All false []) (frames, m.Names place w.All true []) (tok (t.Word w.Disj) d) ts refl

all_one : (frames : List Frame) (place : Span) (disj : Bool) (d : Span) (n : List ℕ) (at : Span) → least frames ≤ 0 →
    Listing frames place w.All disj d (tok (t.Name n) at ∷ []) (title n at ∷ [])
unfolding step_at names
all_one frames place disj d n at h = (
  (frames, m.Listed place w.All disj (title n at ∷ [])),
  all_runs frames place disj d (tok (t.Name n) at ∷ []) h ∙
      run_step (frames, m.Names place w.All disj []) (frames, m.Listed place w.All disj (title n at ∷ [])) (tok (t.Name n) at) [] refl ∙ run_none _,
  listed_lists frames place w.All disj (title n at ∷ []),
)

one_runs : (frames : List Frame) (place : Span) (word : Word) (disj : Bool) (d : Span) (n : List ℕ) (at : Span) → least frames ≤ 0 → is_quant word ≡ true →
    Listing frames place word disj d (tok (t.Name n) at ∷ []) (title n at ∷ [])
one_runs frames place w.All disj d n at h q = all_one frames place disj d n at h
one_runs frames place w.Some disj d n at h q = counted_one frames place u.Some w.Some disj d n at h refl refl
one_runs frames place w.No disj d n at h q = counted_one frames place u.No w.No disj d n at h refl refl
one_runs frames place w.One disj d n at h q = counted_one frames place u.One w.One disj d n at h refl refl
one_runs frames place w.Lone disj d n at h q = counted_one frames place u.Lone w.Lone disj d n at h refl refl
one_runs frames place _ disj d n at h q = cc

step_name : (frames : List Frame) (place : Span) (word : Word) (disj : Bool) (vars : List Title) (n : List ℕ) (at : Span) →
    step (frames, m.Names place word disj vars) (tok (t.Name n) at) ≡ Some (frames, m.Listed place word disj (vars ++ title n at ∷ []))
unfolding step_at names
step_name frames place word disj vars n at = refl

pub names_run : {ts : List Symbol} {vars : List Title} → SpellsNames ts vars → (frames : List Frame) (place : Span) (word : Word) (disj : Bool) (d : Span) →
    least frames ≤ 0 → is_quant word ≡ true → Listing frames place word disj d ts vars
names_run (SpellsNames.one {at = at} {n = n}) frames place word disj d h q = one_runs frames place word disj d n at h q
names_run (SpellsNames.more z at n {ts = ts} {names = vars} v) frames place word disj d h q =
    let r = names_run v frames place word disj d h q in (
      (frames, m.Listed place word disj (vars ++ title n at ∷ [])),
      ap (λ l. run (frames, m.Operand) (tok (t.Word word) place ∷ l)) (sym (append_assoc (disj_part disj d) ts _)) ∙
          run_on (frames, m.Operand) r.0 (tok (t.Word word) place ∷ (disj_part disj d ++ ts)) _ r.1 ∙
          run_step r.0 (frames, m.Names place word disj vars) (tok (t.Sign s.Semicolon) z) _ (r.2.further z) ∙
          run_step (frames, m.Names place word disj vars) (frames, m.Listed place word disj (vars ++ title n at ∷ [])) (tok (t.Name n) at) [] (step_name frames place word disj vars n at) ∙
          run_none _,
      listed_lists frames place word disj (vars ++ title n at ∷ []),
    )

-- After a quantifier up to its `:`.
pub variables_run : (frames : List Frame) (place : Span) (word : Word) (disj : Bool) (d c : Span) (ts : List Symbol) (vars : List Title) (us : List Symbol) →
    least frames ≤ 0 → is_quant word ≡ true → SpellsNames ts vars →
    run (frames, m.Operand) (tok (t.Word word) place ∷ (disj_part disj d ++ (ts ++ tok (t.Sign s.Colon) c ∷ us))) ≡ run (f.Range place word disj vars ∷ frames, m.Operand) us
variables_run frames place word disj d c ts vars us h q v =
    let r = names_run v frames place word disj d h q in
    ap (λ l. run (frames, m.Operand) (tok (t.Word word) place ∷ l)) (sym (append_assoc (disj_part disj d) ts _)) ∙
    run_on (frames, m.Operand) r.0 (tok (t.Word word) place ∷ (disj_part disj d ++ ts)) _ r.1 ∙
    run_step r.0 (f.Range place word disj vars ∷ frames, m.Operand) (tok (t.Sign s.Colon) c) us (r.2.colon c)

-- ---- all expressions

-- An expression that the next construct has whole.
whole_at : (frames : List Frame) (k level : ℕ) (ts : List Symbol) (x : Expr) →
    run (frames, m.Operand) ts ≡ Some (frames, m.Value x level) → k ≤ level → Reaches frames k ts x
whole_at frames k level ts x h g = record {
  state = (frames, m.Value x level);
  level = level;
  runs = h;
  at_least = g;
  settles = λ kind at c. step_value frames x level kind at;
}

-- The last part of a construct, and with it the construct.
last_part : (frame : Frame) (frames : List Frame) (j k : ℕ) (us ts : List Symbol) (x y : Expr) →
    Reaches (frame ∷ frames) j us x → k ≤ j →
    run (frames, m.Operand) ts ≡ run (frame ∷ frames, m.Operand) us →
    ((level : ℕ) (kind : TokenKind) (at : Span) → needs kind ≤ k → settle (frame ∷ frames) x level kind at ≡ settle frames y k kind at) →
    Reaches frames k ts y
last_part frame frames j k us ts x y r le same ended = record {
  state = r.state;
  level = k;
  runs = same ∙ r.runs;
  at_least = omega arith;
  settles = λ kind at c. r.settles kind at (omega arith) ∙ ended r.level kind at c;
}

pub complete : {k : ℕ} {ts : List Symbol} {x : Expr} → Spells k ts x → (frames : List Frame) → least frames ≤ k → Reaches frames k ts x
complete (Spells.looser {j = j} {k = k} {ts = ts} {x = x} le v) frames h =
    let r = complete v frames (omega arith) in
    record {
      state = r.state;
      level = r.level;
      runs = r.runs;
      at_least = let g = r.at_least in omega arith;
      settles = λ kind at c. r.settles kind at (omega arith);
    }
complete (Spells.name {at = at} {n = n}) frames h =
    record {
      state = (frames, m.Named (title n at));
      level = 14;
      runs = first_token frames (t.Name n) at (frames, m.Named (title n at)) [] (takes_name frames n at) ∙ run_none _;
      at_least = lit≤ tt;
      settles = λ kind z c. step_named frames (title n at) kind z c;
    }
complete (Spells.atom {at = at} {kind = kind} {x = x} e) frames h =
    whole_at frames 14 14 _ _ (first_token frames kind at (frames, m.Value x 14) [] (takes_atom frames kind at x e) ∙ run_none _) (lit≤ tt)
complete (Spells.paren {a = a} z {ts = ts} {x = x} v) frames h =
    let r = complete v (f.Paren ∷ frames) (lit≤ tt) in
    whole_at frames 14 14 _ _
    (first_token frames (t.Sign s.ParenOpen) a (f.Paren ∷ frames, m.Operand) _ (takes_paren frames a) ∙
    then_token (f.Paren ∷ frames) 0 ts x r (t.Sign s.ParenClose) z (frames, m.Value x 14) [] free_paren (closes_paren frames x r.level z) ∙ run_none _)
    (lit≤ tt)
complete (Spells.join a at kind {ts = ts} {x = x} {y = y} v e) frames h =
    let r = complete v frames h in
    whole_at frames 13 13 _ _
    (then_token frames 13 ts x r (t.Sign s.Dot) a (frames, m.Field x) _ dot_needs (takes_dot frames x r.level a h r.at_least) ∙
    run_step (frames, m.Field x) (frames, m.Value y 13) (tok kind at) [] (step_field frames x y kind at e) ∙ run_none _)
    (lit≤ tt)
complete (Spells.unary op {at = at} {us = us} {x = x} v) frames h =
    let w = unary_within op in
    last_part (f.Unary at op) frames (operand_level op) (prefix_level op) us _ x _
    (complete v (f.Unary at op ∷ frames) (omega arith)) w.0
    (first_token frames (prefix_kind op) at (f.Unary at op ∷ frames, m.Operand) us (takes_prefix frames at op h))
    (λ level kind z c. unary_ends frames x level at op kind z c)
complete (Spells.binary op at a {ts = ts} {us = us} {x = x} {y = y} v w) frames h =
    let low = left_above (infix_level op) in
    last_part (f.Binary at op x) frames (right_of (infix_level op)) (infix_level op) us _ y _
    (complete w (f.Binary at op x ∷ frames) (omega arith)) (right_above (infix_level op))
    (then_infix frames ts x op at a us (complete v frames (omega arith)) h)
    (λ level kind z c. binary_ends frames x y level at op kind z c)
complete (Spells.choice a z {at = at} {ts = ts} {us = us} {vs = vs} {x = x} {y = y} {v = v} p q o) frames h =
    let r = complete p (f.Condition at ∷ frames) (lit≤ tt) in
    let r2 = complete q (f.Consequence at x ∷ frames) (lit≤ tt) in
    last_part (f.Alternative at x y) frames 0 0 vs _ v _
    (complete o (f.Alternative at x y ∷ frames) (lit≤ tt)) (lit≤ tt)
    (first_token frames (t.Word w.If) at (f.Condition at ∷ frames, m.Operand) _ (takes_if frames at h) ∙
    then_token (f.Condition at ∷ frames) 0 ts x r (t.Word w.Then) a (f.Consequence at x ∷ frames, m.Operand) _ free_then (closes_condition frames x r.level at a) ∙
    then_token (f.Consequence at x ∷ frames) 0 us y r2 (t.Word w.Else) z (f.Alternative at x y ∷ frames, m.Operand) vs free_else (closes_consequence frames x y r2.level at z))
    (λ level kind c d. choice_ends frames x y v level at kind c d)
complete (Spells.quant disj d c z {at = at} {word = word} {ns = ns} {ts = ts} {us = us} {names = vars} {x = x} {y = y} quants v p q) frames h =
    let r = complete p (f.Range at word disj vars ∷ frames) (lit≤ tt) in
    last_part (f.Body at word disj vars x) frames 0 0 us _ y _
    (complete q (f.Body at word disj vars x ∷ frames) (lit≤ tt)) (lit≤ tt)
    (variables_run frames at word disj d c ns vars _ h quants v ∙
    then_token (f.Range at word disj vars ∷ frames) 11 ts x r (t.Sign s.Bar) z (f.Body at word disj vars x ∷ frames, m.Operand) us free_bar (closes_range frames x r.level at z word disj vars))
    (λ level kind e g. quant_ends frames x y level at word disj vars kind e g)
