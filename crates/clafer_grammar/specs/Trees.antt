-- The trees that tokens spell.
use Rattle.std.specs.Prelude.{ℕ, Bool, List, [], ◌∷◌, Option, Some, None}
use Rattle.clf_base.specs.declared.fault.Span.{Span}
use Rattle.clf_tree.specs.declared.token.Title.{Title}
use Rattle.clf_tree.specs.declared.token.Word.{Word}
use Rattle.clf_tree.specs.declared.token.Word.TheVariants as w
use Rattle.clf_tree.specs.declared.token.TokenKind.{TokenKind}
use Rattle.clf_tree.specs.declared.token.TokenKind.TheVariants as t
use Rattle.clf_tree.specs.declared.expr.Expr.{Expr, roll-Expr}
use Rattle.clf_tree.specs.declared.expr.Form.{Form}
use Rattle.clf_tree.specs.declared.expr.Form.TheVariants as form
use Rattle.clf_tree.specs.declared.module.Declared.{Declared, roll-Declared}
use Rattle.clf_tree.specs.declared.module.Item.{Item}
use Rattle.clf_tree.specs.declared.module.Item.TheVariants as item
use Rattle.clf_tree.specs.declared.module.Start.{Start}
use Rattle.clafer_grammar.specs.declared.heads.Head.{Head}
use Rattle.clafer_grammar.specs.declared.operators.Infix.{Infix}
use Rattle.clafer_grammar.specs.declared.operators.Infix.TheVariants as b
use Rattle.clafer_grammar.specs.declared.operators.Prefix.{Prefix}
use Rattle.clafer_grammar.specs.declared.operators.Prefix.TheVariants as u

abbrev pub title : List ℕ → Span → Title
title name at = record { name = name; at = at }

-- ---- expressions

abbrev pub node : Span → Form → Expr
node at f = roll-Expr (record { at = at; form = f })

abbrev pub name_tree : Title → Expr
name_tree name = node name.at (form.Name name.name)

-- An operand of one token that is no name. `parent` alone is `this.parent`, and `dref` alone is `this.dref`.
abbrev pub atom_tree : TokenKind → Span → Option Expr
atom_tree (t.Number value) at = Some (node at (form.Literal value))
atom_tree (t.Word w.This) at = Some (node at form.This)
atom_tree (t.Word w.Parent) at = Some (node at (form.Parent (node at form.This)))
atom_tree (t.Word w.Dref) at = Some (node at (form.Dref (node at form.This)))
atom_tree _ at = None

-- An expression, a dot and this token.
abbrev pub field_tree : Expr → TokenKind → Span → Option Expr
field_tree x (t.Name name) at = Some (node at (form.Join x name))
field_tree x (t.Word w.Parent) at = Some (node at (form.Parent x))
field_tree x (t.Word w.Dref) at = Some (node at (form.Dref x))
field_tree x _ at = None

abbrev pub prefix_form : Prefix → Expr → Form
prefix_form u.Not x = form.Not x
prefix_form u.Neg x = form.Neg x
prefix_form u.Card x = form.Card x
prefix_form u.Sum x = form.Sum x
prefix_form u.Some x = form.Some x
prefix_form u.No x = form.No x
prefix_form u.One x = form.One x
prefix_form u.Lone x = form.Lone x

abbrev pub prefix_tree : Prefix → Span → Expr → Expr
prefix_tree op at x = node at (prefix_form op x)

-- the form of an operator, without the negation of `!=` and `not in`
abbrev pub infix_form : Infix → Expr → Expr → Form
infix_form b.Iff x y = form.Iff x y
infix_form b.Implies x y = form.Implies x y
infix_form b.Or x y = form.Or x y
infix_form b.Xor x y = form.Xor x y
infix_form b.And x y = form.And x y
infix_form b.Equal x y = form.Equal x y
infix_form b.NotEqual x y = form.Equal x y
infix_form b.Less x y = form.Less x y
infix_form b.LessEqual x y = form.LessEqual x y
infix_form b.Greater x y = form.Greater x y
infix_form b.GreaterEqual x y = form.GreaterEqual x y
infix_form b.In x y = form.In x y
infix_form b.NotIn x y = form.In x y
infix_form b.Add x y = form.Add x y
infix_form b.Sub x y = form.Sub x y
infix_form b.Mul x y = form.Mul x y
infix_form b.Union x y = form.Union x y
infix_form b.Minus x y = form.Minus x y
infix_form b.Meet x y = form.Meet x y

-- `!=` and `not in` are the negations of `=` and `in`, and both nodes have the place of their sign.
abbrev pub infix_tree : Infix → Span → Expr → Expr → Expr
infix_tree b.NotEqual at x y = node at (form.Not (node at (infix_form b.NotEqual x y)))
infix_tree b.NotIn at x y = node at (form.Not (node at (infix_form b.NotIn x y)))
infix_tree op at x y = node at (infix_form op x y)

abbrev pub if_tree : Span → Expr → Expr → Expr → Expr
if_tree at x y z = node at (form.If x y z)

abbrev pub quant_tree : Span → Word → Bool → List Title → Expr → Expr → Expr
quant_tree at word disj names over body = node at (form.Quant word disj names over body)

-- ---- items

abbrev pub clafer : Head → Option Start → List Item → Item
clafer h start items = item.Clafer (roll-Declared (record {
  at = h.at;
  is_abstract = h.is_abstract;
  group = h.group;
  title = h.title;
  above = h.above;
  reference = h.reference;
  times = h.times;
  start = start;
  items = items;
}))

abbrev pub started : Span → Expr → Option Start
started at body = Some (record { at = at; body = body })
