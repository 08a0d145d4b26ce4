use Rattle.std.proofs.Common.{◌∙◌, ap, ◌++◌, [], ◌∷◌}
use Rattle.integer_bits.specs.declared.totals.Part.{Part}
use Rattle.number_encoder.proofs.Membered.{number_told}
use Rattle.number_encoder.proofs.parts.part_of.Goals as goal

pub returns-clause-values : goal.returns-clause-values
returns-clause-values c =
    let p : Part = record { here = c.in_ok-here.here; bits = c.args.number } in
    number_told c.args.circuit.now c.constant.new.self c.in_ok-here.here c.args.number c.push.new.self 1 (c.in_ok-push.ensures.ok ∙ ap (λ us. us ++ p ∷ []) c.new-parts.ensures) c.requires.number_in c.in_ok-here.ensures.extends c.in_ok-here.ensures.value
