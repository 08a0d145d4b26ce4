use Rattle.std.proofs.Common.{◌∙◌}
use Rattle.set_bits.proofs.Falsity.{many_negated}
use Rattle.set_bits.proofs.counts.many_false.Goals as goal

pub returns-clause-value : goal.returns-clause-value
returns-clause-value c = λ bits. c.in_ok-wire.ensures.value bits ∙ many_negated c.args.circuit.now c.negate_all.new.circuit c.args.wires.now c.in_ok-negated.negated c.args.least bits c.in_ok-negated.ensures.negated
