-- The operators: their signs, and the levels that say which of them is tighter.
use Rattle.std.specs.Prelude.{ℕ, ◌+◌, ◌≡◌, ◌==◌, ◌||◌, if◌then◌else◌, List, [], ◌∷◌}
use Rattle.clf_base.specs.declared.fault.Span.{Span}
use Rattle.clf_tree.specs.declared.token.Sign.TheVariants as s
use Rattle.clf_tree.specs.declared.token.Word.TheVariants as w
use Rattle.clf_tree.specs.declared.token.TokenKind.{TokenKind}
use Rattle.clf_tree.specs.declared.token.TokenKind.TheVariants as t
use Rattle.clafer_grammar.specs.declared.operators.Infix.{Infix}
use Rattle.clafer_grammar.specs.declared.operators.Infix.TheVariants as b
use Rattle.clafer_grammar.specs.declared.operators.Prefix.{Prefix}
use Rattle.clafer_grammar.specs.declared.operators.Prefix.TheVariants as u
use Rattle.clafer_grammar.specs.Symbols.{Symbol, tok}

-- Levels go from 0, the loosest, to 14, an operand of one token or in parentheses.

-- the first token of an operator
abbrev pub infix_kind : Infix → TokenKind
infix_kind b.Iff = t.Sign s.Iff
infix_kind b.Implies = t.Sign s.Implies
infix_kind b.Or = t.Sign s.OrOr
infix_kind b.Xor = t.Word w.Xor
infix_kind b.And = t.Sign s.AndAnd
infix_kind b.Equal = t.Sign s.Equal
infix_kind b.NotEqual = t.Sign s.NotEqual
infix_kind b.Less = t.Sign s.Less
infix_kind b.LessEqual = t.Sign s.LessEqual
infix_kind b.Greater = t.Sign s.Greater
infix_kind b.GreaterEqual = t.Sign s.GreaterEqual
infix_kind b.In = t.Word w.In
infix_kind b.NotIn = t.Word w.Not
infix_kind b.Add = t.Sign s.Plus
infix_kind b.Sub = t.Sign s.Minus
infix_kind b.Mul = t.Sign s.Star
infix_kind b.Union = t.Sign s.PlusPlus
infix_kind b.Minus = t.Sign s.MinusMinus
infix_kind b.Meet = t.Sign s.StarStar

-- the tokens of an operator behind its first: the `in` of `not in`
abbrev pub infix_rest : Infix → Span → List Symbol
infix_rest b.NotIn at = tok (t.Word w.In) at ∷ []
infix_rest _ at = []

-- the level of what an operator makes
abbrev pub infix_level : Infix → ℕ
infix_level b.Iff = 1
infix_level b.Implies = 2
infix_level b.Or = 3
infix_level b.Xor = 4
infix_level b.And = 5
infix_level b.Equal = 7
infix_level b.NotEqual = 7
infix_level b.Less = 7
infix_level b.LessEqual = 7
infix_level b.Greater = 7
infix_level b.GreaterEqual = 7
infix_level b.In = 7
infix_level b.NotIn = 7
infix_level b.Add = 8
infix_level b.Sub = 8
infix_level b.Mul = 9
infix_level b.Union = 11
infix_level b.Minus = 11
infix_level b.Meet = 12

-- Operators of level 2 group to the right, those of level 7 not at all, and the others to the left:
-- the least level of the left operand, and that of the right one.
unfoldable pub left_of : ℕ → ℕ
left_of level = if level == 2 || level == 7 then level + 1 else level

unfoldable pub right_of : ℕ → ℕ
right_of level = if level == 2 then level else level + 1

abbrev pub prefix_kind : Prefix → TokenKind
prefix_kind u.Not = t.Sign s.Not
prefix_kind u.Neg = t.Sign s.Minus
prefix_kind u.Card = t.Sign s.Hash
prefix_kind u.Sum = t.Word w.Sum
prefix_kind u.Some = t.Word w.Some
prefix_kind u.No = t.Word w.No
prefix_kind u.One = t.Word w.One
prefix_kind u.Lone = t.Word w.Lone

abbrev pub prefix_level : Prefix → ℕ
prefix_level u.Not = 6
prefix_level u.Neg = 10
prefix_level u.Card = 10
prefix_level u.Sum = 10
prefix_level u.Some = 7
prefix_level u.No = 7
prefix_level u.One = 7
prefix_level u.Lone = 7

abbrev pub operand_level : Prefix → ℕ
operand_level u.Not = 6
operand_level u.Neg = 10
operand_level u.Card = 10
operand_level u.Sum = 10
operand_level u.Some = 11
operand_level u.No = 11
operand_level u.One = 11
operand_level u.Lone = 11
