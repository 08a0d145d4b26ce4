-- Laws of the opposite literal.
use Rattle.std.proofs.Common.{ℕ, ◌≡◌, ◌+◌, ◌-◌, ◌*◌, ◌/◌, ◌%◌, ◌<◌, ◌≢◌, arith}
use Rattle.cdcl_search.specs.Literals.{flip}

pub flip-flip : (l : ℕ) → flip (flip l) ≡ l
unfolding flip
flip-flip l = omega arith

pub flip-variable : (l : ℕ) → flip l / 2 ≡ l / 2
unfolding flip
flip-variable l = omega arith

pub flip-other : (l : ℕ) → flip l ≢ l
unfolding flip
flip-other l = omega arith

pub flip-below : (l n : ℕ) → l < 2 * n → flip l < 2 * n
unfolding flip
flip-below l n h = omega arith

pub flip-even : (l : ℕ) → l % 2 ≡ 0 → flip l ≡ l + 1
unfolding flip
flip-even l h = omega arith

pub flip-odd : (l : ℕ) → l % 2 ≢ 0 → flip l ≡ l - 1
unfolding flip
flip-odd l h = omega arith

pub same_variable : (a b : ℕ) → a / 2 ≡ b / 2 → a ≢ b → a ≡ flip b
unfolding flip
same_variable a b h k = omega arith

pub flip_positive : (v : ℕ) → flip (2 * v) ≡ 2 * v + 1
unfolding flip
flip_positive v = omega arith

pub flip_negated : (v : ℕ) → flip (2 * v + 1) ≡ 2 * v
unfolding flip
flip_negated v = omega arith
