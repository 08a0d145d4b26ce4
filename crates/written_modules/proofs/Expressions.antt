-- What tokens spell is an expression in which nothing is looked up yet.
use Rattle.std.proofs.Common.{◌≡◌, ℕ, Bool, true, ◌&&◌, List, [], ◌∷◌, ◌++◌, Some, refl, sym, subst, ◌∙◌}
use Rattle.std.proofs.lemmas.Bool.{and_from}
use Rattle.std.proofs.lemmas.List.Folds.{list_all-append}
use Rattle.clf_base.specs.declared.fault.Span.{Span}
use Rattle.clf_base.specs.declared.fault.Refusal.{Refusal}
use Rattle.clf_tree.specs.declared.token.Sign.TheVariants as s
use Rattle.clf_tree.specs.declared.token.Title.{Title}
use Rattle.clf_tree.specs.declared.token.Word.{Word}
use Rattle.clf_tree.specs.declared.token.Word.TheVariants as w
use Rattle.clf_tree.specs.declared.token.TokenKind.{TokenKind}
use Rattle.clf_tree.specs.declared.token.TokenKind.TheVariants as t
use Rattle.clf_tree.specs.declared.expr.Expr.{Expr}
use Rattle.clf_tree.specs.declared.expr.Form.TheVariants as form
use Rattle.clf_tree.specs.Lists.{each_two}
use Rattle.clf_tree.specs.Named.{is_name, are_names, is_quantifier, differ}
use Rattle.clf_tree.specs.Tree.{Tree, tree}
use Rattle.clafer_grammar.specs.declared.operators.Infix.{Infix}
use Rattle.clafer_grammar.specs.declared.operators.Infix.TheVariants as b
use Rattle.clafer_grammar.specs.declared.operators.Prefix.{Prefix}
use Rattle.clafer_grammar.specs.declared.operators.Prefix.TheVariants as u
use Rattle.clafer_grammar.specs.Symbols.{Symbol, tok}
use Rattle.clafer_grammar.specs.Trees.{title, node, atom_tree, field_tree, prefix_tree, infix_tree, if_tree, quant_tree}
use Rattle.clafer_grammar.specs.Operators.{infix_kind, infix_rest, prefix_kind}
use Rattle.clafer_grammar.specs.Expressions.{is_quant, disj_part, SpellsNames, Spells}
use Rattle.clafer_desugar.specs.Refusals.{names_refusals, expr_refusals}
use Rattle.plain_models.specs.Written.{is_written}
use Rattle.written_modules.proofs.Built as built
use Rattle.written_modules.proofs.Tokens.{AllRight, two_parts, behind_first, behind}

-- where nothing is refused in it, nothing in it is looked up yet
abbrev pub Fine : Tree → Type 0
Fine t = expr_refusals t ≡ [] → is_written t ≡ true

-- where no name of a quantifier is refused, its names differ
abbrev pub NamesDiffer : Type 0
NamesDiffer = (names : List Title) → names_refusals [] names ≡ [] → each_two differ names ≡ true

pub both_none : (xs ys : List Refusal) → xs ++ ys ≡ [] → (xs ≡ []) × (ys ≡ [])
both_none [] ys h = (refl, h)
both_none (x ∷ xs) ys h = (cc)

of_two : (a c : Tree) → Fine a → Fine c → expr_refusals a ++ expr_refusals c ≡ [] → (is_written a && is_written c) ≡ true
of_two a c p q none =
    let parts = both_none (expr_refusals a) (expr_refusals c) none in
    and_from (is_written a) (is_written c) (p parts.0) (q parts.1)

-- ---- operators

prefix_fine : (op : Prefix) (at : Span) (x : Expr) → Fine (tree x) → Fine (tree (prefix_tree op at x))
prefix_fine u.Not at x p = subst Fine (sym (built.not at x)) p
prefix_fine u.Neg at x p = subst Fine (sym (built.neg at x)) p
prefix_fine u.Card at x p = subst Fine (sym (built.card at x)) p
prefix_fine u.Sum at x p = subst Fine (sym (built.sum at x)) p
prefix_fine u.Some at x p = subst Fine (sym (built.some at x)) p
prefix_fine u.No at x p = subst Fine (sym (built.no at x)) p
prefix_fine u.One at x p = subst Fine (sym (built.one at x)) p
prefix_fine u.Lone at x p = subst Fine (sym (built.lone at x)) p

infix_fine : (op : Infix) (at : Span) (x y : Expr) → Fine (tree x) → Fine (tree y) → Fine (tree (infix_tree op at x y))
infix_fine b.Iff at x y p q = subst Fine (sym (built.iff at x y)) (of_two (tree x) (tree y) p q)
infix_fine b.Implies at x y p q = subst Fine (sym (built.implies at x y)) (of_two (tree x) (tree y) p q)
infix_fine b.Or at x y p q = subst Fine (sym (built.or at x y)) (of_two (tree x) (tree y) p q)
infix_fine b.Xor at x y p q = subst Fine (sym (built.xor at x y)) (of_two (tree x) (tree y) p q)
infix_fine b.And at x y p q = subst Fine (sym (built.and at x y)) (of_two (tree x) (tree y) p q)
infix_fine b.Equal at x y p q = subst Fine (sym (built.equal at x y)) (of_two (tree x) (tree y) p q)
infix_fine b.NotEqual at x y p q = subst Fine (sym (built.not at (node at (form.Equal x y)))) (subst Fine (sym (built.equal at x y)) (of_two (tree x) (tree y) p q))
infix_fine b.Less at x y p q = subst Fine (sym (built.less at x y)) (of_two (tree x) (tree y) p q)
infix_fine b.LessEqual at x y p q = subst Fine (sym (built.less_equal at x y)) (of_two (tree x) (tree y) p q)
infix_fine b.Greater at x y p q = subst Fine (sym (built.greater at x y)) (of_two (tree x) (tree y) p q)
infix_fine b.GreaterEqual at x y p q = subst Fine (sym (built.greater_equal at x y)) (of_two (tree x) (tree y) p q)
infix_fine b.In at x y p q = subst Fine (sym (built.within at x y)) (of_two (tree x) (tree y) p q)
infix_fine b.NotIn at x y p q = subst Fine (sym (built.not at (node at (form.In x y)))) (subst Fine (sym (built.within at x y)) (of_two (tree x) (tree y) p q))
infix_fine b.Add at x y p q = subst Fine (sym (built.add at x y)) (of_two (tree x) (tree y) p q)
infix_fine b.Sub at x y p q = subst Fine (sym (built.sub at x y)) (of_two (tree x) (tree y) p q)
infix_fine b.Mul at x y p q = subst Fine (sym (built.mul at x y)) (of_two (tree x) (tree y) p q)
infix_fine b.Union at x y p q = subst Fine (sym (built.union at x y)) (of_two (tree x) (tree y) p q)
infix_fine b.Minus at x y p q = subst Fine (sym (built.minus at x y)) (of_two (tree x) (tree y) p q)
infix_fine b.Meet at x y p q = subst Fine (sym (built.meet at x y)) (of_two (tree x) (tree y) p q)

-- ---- operands

of_some : (x y : Expr) → Some x ≡ Some y → x ≡ y
of_some x y h = (cc)

this_fine : (at : Span) → Fine (tree (node at form.This))
this_fine at = subst Fine (sym (built.this at)) (λ none. refl)

atom_fine : (kind : TokenKind) (at : Span) (x : Expr) → atom_tree kind at ≡ Some x → Fine (tree x)
atom_fine (t.Number n) at x is = subst (λ (z : Expr). Fine (tree z)) (of_some (node at (form.Literal n)) x is) (subst Fine (sym (built.literal at n)) (λ none. refl))
atom_fine (t.Word w.This) at x is = subst (λ (z : Expr). Fine (tree z)) (of_some (node at form.This) x is) (this_fine at)
atom_fine (t.Word w.Parent) at x is =
    subst (λ (z : Expr). Fine (tree z)) (of_some (node at (form.Parent (node at form.This))) x is) (subst Fine (sym (built.parent at (node at form.This))) (this_fine at))
atom_fine (t.Word w.Dref) at x is =
    subst (λ (z : Expr). Fine (tree z)) (of_some (node at (form.Dref (node at form.This))) x is) (subst Fine (sym (built.dref at (node at form.This))) (this_fine at))
atom_fine _ at x is = (cc)

field_fine : (x : Expr) (kind : TokenKind) (at : Span) (y : Expr) → field_tree x kind at ≡ Some y → Fine (tree x) → Fine (tree y)
field_fine x (t.Name n) at y is p = subst (λ (z : Expr). Fine (tree z)) (of_some (node at (form.Join x n)) y is) (subst Fine (sym (built.join at x n)) p)
field_fine x (t.Word w.Parent) at y is p = subst (λ (z : Expr). Fine (tree z)) (of_some (node at (form.Parent x)) y is) (subst Fine (sym (built.parent at x)) p)
field_fine x (t.Word w.Dref) at y is p = subst (λ (z : Expr). Fine (tree z)) (of_some (node at (form.Dref x)) y is) (subst Fine (sym (built.dref at x)) p)
field_fine x _ at y is p = (cc)

choice_fine : (at : Span) (x y z : Expr) → Fine (tree x) → Fine (tree y) → Fine (tree z) → Fine (tree (if_tree at x y z))
choice_fine at x y z p q r = subst Fine (sym (built.choice at x y z)) (λ none.
    let parts = both_none (expr_refusals (tree x)) (expr_refusals (tree y) ++ expr_refusals (tree z)) none in
    let rest = both_none (expr_refusals (tree y)) (expr_refusals (tree z)) parts.1 in
    and_from (is_written (tree x) && is_written (tree y)) (is_written (tree z)) (and_from (is_written (tree x)) (is_written (tree y)) (p parts.0) (q rest.0)) (r rest.1))

-- ---- quantifiers

quantifies : (word : Word) → is_quant word ≡ true → is_quantifier [] word ≡ true
quantifies w.All h = refl
quantifies w.Some h = refl
quantifies w.No h = refl
quantifies w.One h = refl
quantifies w.Lone h = refl
quantifies _ h = (cc)

pub name_right : (n : List ℕ) (at : Span) (ts : List Symbol) → AllRight (tok (t.Name n) at ∷ ts) → is_name n ≡ true
name_right n at ts h = (behind_first (tok (t.Name n) at) ts h).0

-- behind the last of some names
pub one_more : (names : List Title) (name : Title) → are_names names ≡ true → is_name name.name ≡ true → are_names (names ++ name ∷ []) ≡ true
one_more names name p q =
    list_all-append (λ (x : Title). is_name x.name) names (name ∷ []) ∙ and_from (are_names names) (is_name name.name && true) p (and_from (is_name name.name) true q refl)

pub variables_named : {ts : List Symbol} {names : List Title} → SpellsNames ts names → AllRight ts → are_names names ≡ true
variables_named (SpellsNames.one {at = at} {n = n}) h = and_from (is_name n) true (name_right n at [] h) refl
variables_named (SpellsNames.more z at n {ts = ts} {names = names} v) h =
    let parts = behind ts (tok (t.Sign s.Semicolon) z) (tok (t.Name n) at ∷ []) h in
    one_more names (title n at) (variables_named v parts.0) (name_right n at [] parts.1)

quant_fine : NamesDiffer → (at : Span) (word : Word) (disj : Bool) (names : List Title) (x y : Expr) → is_quant word ≡ true → are_names names ≡ true
    → Fine (tree x) → Fine (tree y) → Fine (tree (quant_tree at word disj names x y))
quant_fine law at word disj names x y quants all p q = subst Fine (sym (built.quant at word disj names x y)) (λ none.
    let parts = both_none (names_refusals [] names) (expr_refusals (tree x) ++ expr_refusals (tree y)) none in
    let rest = both_none (expr_refusals (tree x)) (expr_refusals (tree y)) parts.1 in
    and_from (is_quantifier [] word && are_names names && each_two differ names && is_written (tree x)) (is_written (tree y))
    (and_from (is_quantifier [] word && are_names names && each_two differ names) (is_written (tree x))
    (and_from (is_quantifier [] word && are_names names) (each_two differ names)
    (and_from (is_quantifier [] word) (are_names names) (quantifies word quants) all) (law names parts.0)) (p rest.0)) (q rest.1))

-- ---- expressions

pub fine : NamesDiffer → {k : ℕ} {ts : List Symbol} {x : Expr} → Spells k ts x → AllRight ts → Fine (tree x)
fine law (Spells.looser {j = j} {k = k} {ts = ts} {x = x} le v) h = fine law v h
fine law (Spells.name {at = at} {n = n}) h = subst Fine (sym (built.name at n)) (λ none. refl)
fine law (Spells.atom {at = at} {kind = kind} {x = x} is) h = atom_fine kind at x is
fine law (Spells.paren {a = a} z {ts = ts} {x = x} v) h =
    let inner = (behind_first (tok (t.Sign s.ParenOpen) a) (ts ++ tok (t.Sign s.ParenClose) z ∷ []) h).1 in
    fine law v (behind ts (tok (t.Sign s.ParenClose) z) [] inner).0
fine law (Spells.join a at kind {ts = ts} {x = x} {y = y} v is) h =
    field_fine x kind at y is (fine law v (behind ts (tok (t.Sign s.Dot) a) (tok kind at ∷ []) h).0)
fine law (Spells.unary op {at = at} {us = us} {x = x} v) h = prefix_fine op at x (fine law v (behind_first (tok (prefix_kind op) at) us h).1)
fine law (Spells.binary op at a {ts = ts} {us = us} {x = x} {y = y} v o) h =
    let parts = behind ts (tok (infix_kind op) at) (infix_rest op a ++ us) h in
    infix_fine op at x y (fine law v parts.0) (fine law o (two_parts (infix_rest op a) us parts.1).1)
fine law (Spells.choice a z {at = at} {ts = ts} {us = us} {vs = vs} {x = x} {y = y} {v = v} p q o) h =
    let inner = (behind_first (tok (t.Word w.If) at) (ts ++ tok (t.Word w.Then) a ∷ (us ++ tok (t.Word w.Else) z ∷ vs)) h).1 in
    let parts = behind ts (tok (t.Word w.Then) a) (us ++ tok (t.Word w.Else) z ∷ vs) inner in
    let rest = behind us (tok (t.Word w.Else) z) vs parts.1 in
    choice_fine at x y v (fine law p parts.0) (fine law q rest.0) (fine law o rest.1)
fine law (Spells.quant disj d c z {at = at} {word = word} {ns = ns} {ts = ts} {us = us} {names = names} {x = x} {y = y} quants v p q) h =
    let inner = (behind_first (tok (t.Word word) at) (disj_part disj d ++ (ns ++ tok (t.Sign s.Colon) c ∷ (ts ++ tok (t.Sign s.Bar) z ∷ us))) h).1 in
    let front = two_parts (disj_part disj d) (ns ++ tok (t.Sign s.Colon) c ∷ (ts ++ tok (t.Sign s.Bar) z ∷ us)) inner in
    let parts = behind ns (tok (t.Sign s.Colon) c) (ts ++ tok (t.Sign s.Bar) z ∷ us) front.1 in
    let rest = behind ts (tok (t.Sign s.Bar) z) us parts.1 in
    quant_fine law at word disj names x y quants (variables_named v parts.0) (fine law p rest.0) (fine law q rest.1)
