-- A token behind an expression: whether it goes on with it, and what construct with a token of its own it ends.
use Rattle.std.specs.Prelude.{ℕ, Bool, true, false, ◌&&◌, nat_le, List, [], ◌∷◌, ◌++◌, Option, Some, None}
use Rattle.clf_base.specs.declared.fault.Span.{Span}
use Rattle.clf_tree.specs.declared.token.Sign.TheVariants as s
use Rattle.clf_tree.specs.declared.token.TokenKind.{TokenKind}
use Rattle.clf_tree.specs.declared.token.TokenKind.TheVariants as t
use Rattle.clf_tree.specs.declared.expr.Expr.{Expr}
use Rattle.clafer_grammar.specs.declared.operators.Infix.{Infix}
use Rattle.clafer_grammar.specs.declared.machine.Frame.{Frame}
use Rattle.clafer_grammar.specs.declared.machine.Frame.TheVariants as f
use Rattle.clafer_grammar.specs.Operators.{infix_level, left_of}
use Rattle.clafer_grammar.specs.Machine.{Step, least, infix_of, close_paren, close_condition, close_consequence, close_range, close_bracket, close_goal, close_start}

-- the operator attaches to an expression of the level
unfoldable pub attaches : List Frame → ℕ → Option Infix → Bool
attaches frames level None = false
attaches frames level (Some op) = nat_le (least frames) (infix_level op) && nat_le (left_of (infix_level op)) level

-- the token goes on with an expression of the level
unfoldable pub is_going_on : List Frame → ℕ → TokenKind → Bool
is_going_on frames level (t.Sign s.Dot) = nat_le (least frames) 13 && nat_le 13 level
is_going_on frames level kind = attaches frames level (infix_of kind)

-- A construct with a token of its own, and the token behind its last expression.
unfoldable pub closed : List Frame → Frame → Expr → TokenKind → Span → Step
closed below f.Paren x kind at = close_paren below x kind
closed below (f.Condition place) x kind at = close_condition below place x kind
closed below (f.Consequence place y) x kind at = close_consequence below place y x kind
closed below (f.Range place word disj vars) x kind at = close_range below place word disj vars x kind
closed below (f.Bracket before place parts) x kind at = close_bracket below before place (parts ++ x ∷ []) kind at
closed below (f.Goal before place is_least) x kind at = close_goal below before place is_least x kind
closed below (f.Start before h place) x kind at = close_start below before h place x kind at
closed below _ x kind at = None
