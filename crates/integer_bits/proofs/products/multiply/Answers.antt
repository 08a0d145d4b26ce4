use Rattle.std.proofs.Common.{subst}
use Rattle.std.specs.Prelude.{◌≡◌}
use Rattle.std.proofs.Math.IntN.{*ℤ_comm}
use Rattle.integer_bits.specs.Numbers.{integer_at, cut, FitsBits}
use Rattle.integer_bits.proofs.products.multiply.Goals as goal

pub returns-then-is_constant-clause-value : goal.returns-then-is_constant-clause-value
returns-then-is_constant-clause-value c = λ bits.
    let turn = *ℤ_comm (integer_at c.args.circuit.now c.args.b.now bits) (integer_at c.args.circuit.now c.args.a.now bits) in
    subst (λ z. FitsBits c.args.width z → integer_at c.times_number.new.circuit c.in_ok-turned.turned bits ≡ z) turn (c.in_ok-turned.ensures.value bits)

pub returns-then-is_constant-clause-cut : goal.returns-then-is_constant-clause-cut
returns-then-is_constant-clause-cut c = λ bits.
    let turn = *ℤ_comm (integer_at c.args.circuit.now c.args.b.now bits) (integer_at c.args.circuit.now c.args.a.now bits) in
    subst (λ z. integer_at c.times_number.new.circuit c.in_ok-turned.turned bits ≡ cut c.args.width z) turn (c.in_ok-turned.ensures.cut bits)
