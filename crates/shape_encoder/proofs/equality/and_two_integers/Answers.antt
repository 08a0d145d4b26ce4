use Rattle.std.proofs.Common.{◌+◌, ◌*◌, length}
use Rattle.shape_encoder.proofs.Unequal.{slot_stays}
use Rattle.shape_encoder.proofs.equality.and_two_integers.Goals as goal

pub have_one_integer-requires-clause-earlier_is : goal.have_one_integer-requires-clause-earlier_is
have_one_integer-requires-clause-earlier_is c = slot_stays c.args.circuit.now c.are_beside.new.circuit (2 * length c.args.edges.now + 1) (length c.args.live.now) c.args.earlier.now c.in_ok-beside.ensures.extends c.requires.earlier_is

pub have_one_integer-requires-clause-later_is : goal.have_one_integer-requires-clause-later_is
have_one_integer-requires-clause-later_is c = slot_stays c.args.circuit.now c.are_beside.new.circuit (2 * length c.args.edges.now + 1) (length c.args.live.now) c.args.later.now c.in_ok-beside.ensures.extends c.requires.later_is
