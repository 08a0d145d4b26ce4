use Rattle.std.proofs.Common.{length}
use Rattle.shape_encoder.proofs.Compared.{made_stays, whole_made}
use Rattle.shape_encoder.proofs.twins.tie_slot.Goals as goal

pub returns-clause-parents : goal.returns-clause-parents
returns-clause-parents c =
    made_stays c.ends_of.new.circuit c.ends_of-2.new.circuit (length c.args.targets.now) c.args.parents.now c.in_ok-up.up.items c.in_ok-onto.ensures.extends (whole_made c.args.circuit.now c.ends_of.new.circuit c.args.parents.now c.in_ok-up.up.items c.in_ok-up.ensures.made)

pub returns-clause-targets : goal.returns-clause-targets
returns-clause-targets c = whole_made c.ends_of.new.circuit c.ends_of-2.new.circuit c.args.targets.now c.in_ok-onto.onto.items c.in_ok-onto.ensures.made
