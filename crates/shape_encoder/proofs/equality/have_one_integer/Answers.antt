use Rattle.std.proofs.Common.{◌+◌, ◌*◌, max, length}
use Rattle.shape_encoder.proofs.Unequal.{slot_wires, equal_wire}
use Rattle.shape_encoder.proofs.equality.have_one_integer.Goals as goal

pub equal-requires-clause-a_in : goal.equal-requires-clause-a_in
equal-requires-clause-a_in c = slot_wires c.args.circuit.now c.and.new.self 1 (length c.args.live.now) c.args.earlier.now c.in_ok-there.ensures.extends c.requires.earlier_is

pub equal-requires-clause-b_in : goal.equal-requires-clause-b_in
equal-requires-clause-b_in c = slot_wires c.args.circuit.now c.and.new.self 1 (length c.args.live.now) c.args.later.now c.in_ok-there.ensures.extends c.requires.later_is

pub returns-clause-value : goal.returns-clause-value
returns-clause-value c =
    equal_wire c.args.circuit.now c.and.new.self c.equal.new.circuit c.and-2.new.self c.args.live.now (length c.args.live.now) (4 * (max (length c.args.earlier.now.bits) (length c.args.later.now.bits) + 1)) c.args.earlier.now c.args.later.now
    c.get-first.result.now c.get-second.result.now c.in_ok-there.there c.in_ok-same.same c.in_ok-both.both c.requires.live_bits c.get-first.ensures c.get-second.ensures c.requires.earlier_is c.requires.later_is
    c.in_ok-there.ensures.extends c.in_ok-same.ensures.extends c.in_ok-there.ensures.wire c.in_ok-there.ensures.value c.in_ok-same.ensures.value c.in_ok-both.ensures.value
