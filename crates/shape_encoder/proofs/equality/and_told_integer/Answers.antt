use Rattle.std.proofs.Common.{◌+◌, ◌*◌, length}
use Rattle.shape_encoder.proofs.Compared.{list_bits}
use Rattle.shape_encoder.proofs.Unequal.{slot_stays}
use Rattle.shape_encoder.proofs.equality.and_told_integer.Goals as goal

pub tie-requires-clause-bits : goal.tie-requires-clause-bits
tie-requires-clause-bits c = list_bits c.args.circuit.now c.args.layout.now.parents c.args.edges.now c.args.later.now.slot c.requires.edges_are c.requires.parent_bits

pub integer_differs-requires-clause-value_bits : goal.integer_differs-requires-clause-value_bits
integer_differs-requires-clause-value_bits c = λ k d l. slot_stays c.args.circuit.now c.tie.new.circuit (4 * length c.args.edges.now + 1) (length c.args.layout.now.live) _ c.in_ok-table.ensures.extends (c.requires.value_bits k d l)

pub integer_differs-requires-clause-later_is : goal.integer_differs-requires-clause-later_is
integer_differs-requires-clause-later_is c = slot_stays c.args.circuit.now c.tie.new.circuit (4 * length c.args.edges.now + 1) (length c.args.layout.now.live) c.args.later.now c.in_ok-table.ensures.extends c.requires.later_is
