use Rattle.std.proofs.Common.{sym, ◌∙◌}
use Rattle.integer_bits.proofs.Choosing.{chosen_cut}
use Rattle.integer_bits.proofs.choices.choose.Goals as goal

pub returns-clause-value : goal.returns-clause-value
returns-clause-value c =
    chosen_cut c.args.width c.args.circuit.now c.choose_bits.new.circuit c.args.pick c.args.a.now c.args.b.now c.in_ok-long_a.long_a c.in_ok-long_b.long_b c.in_ok-chosen.chosen
    c.requires.some c.requires.a_some c.requires.b_some c.in_ok-long_a.ensures.items c.in_ok-long_b.ensures.items (c.in_ok-long_b.ensures.len ∙ sym c.in_ok-long_a.ensures.len) c.in_ok-chosen.ensures.chosen
