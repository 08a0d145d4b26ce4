use Rattle.set_bits.proofs.Picking.{picked_behind}
use Rattle.set_bits.proofs.sets.choose_sets.Goals as goal

pub returns-clause-value : goal.returns-clause-value
returns-clause-value c = picked_behind _ c.args.circuit.now c.not.new.self c.choose_slots.new.circuit c.args.pick c.args.a.now c.args.b.now c.in_ok-set.set c.in_ok-other.ensures.extends c.requires.pick_in c.requires.a_set c.requires.b_set c.in_ok-set.ensures.value
