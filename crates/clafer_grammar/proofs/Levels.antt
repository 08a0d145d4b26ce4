-- The levels of operators.
use Rattle.std.proofs.Common.{ℕ, ◌+◌, ◌≤◌, arith, lit≤, Option, Some, None}
use Rattle.std.proofs.lemmas.Bool.Decides.{nat_tests}
use Rattle.clafer_grammar.specs.declared.operators.Infix.{Infix}
use Rattle.clafer_grammar.specs.declared.operators.Infix.TheVariants as b
use Rattle.clafer_grammar.specs.Operators.{infix_level, left_of, right_of}

pub left_above : (k : ℕ) → k ≤ left_of k
unfolding left_of
left_above k = grind (arith, nat_tests)

pub left_within : (k : ℕ) → left_of k ≤ k + 1
unfolding left_of
left_within k = grind (arith, nat_tests)

pub right_above : (k : ℕ) → k ≤ right_of k
unfolding right_of
right_above k = grind (arith, nat_tests)

pub right_within : (k : ℕ) → right_of k ≤ k + 1
unfolding right_of
right_within k = grind (arith, nat_tests)

-- No operator goes on with the right operand of one, and with the whole too.
pub levels_apart : (m n : ℕ) → right_of m ≤ n → left_of n ≤ m → ⊥
unfolding left_of right_of
levels_apart m n = grind (arith, nat_tests)

pub binary_low : (op : Infix) → 1 ≤ infix_level op
binary_low = elim [ b.Iff ↦ lit≤ tt | b.Implies ↦ lit≤ tt | b.Or ↦ lit≤ tt | _ ↦ lit≤ tt ]

pub binary_high : (op : Infix) → infix_level op ≤ 12
binary_high = elim [ b.Iff ↦ lit≤ tt | b.Implies ↦ lit≤ tt | _ ↦ lit≤ tt ]

-- the tightest level at which a token goes on with an expression, 0 for one that goes on with none
unfoldable pub needs_infix : Option Infix → ℕ
needs_infix None = 0
needs_infix (Some op) = left_of (infix_level op)
