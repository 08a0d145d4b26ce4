use Rattle.std.proofs.Common.{arith}
use Rattle.quantifier_encoder.proofs.Steps.{round_room, round_within, round_more, rounds_end, rounds_few}
use Rattle.quantifier_encoder.proofs.tuples.tuples_of.Goals as goal

pub longer_by_one-requires-clause-room : goal.longer_by_one-requires-clause-room
longer_by_one-requires-clause-room c =
    round_room c.args.circuit.now c.loop-round.circuit c.args.set.now c.args.disj c.loop-round._round c.args.names _ c.loop-round.tuples c.loop-round.invariant (omega arith) c.requires.room

pub returns-in_err-longer-clause-extends : goal.returns-in_err-longer-clause-extends
returns-in_err-longer-clause-extends c =
    round_within c.args.circuit.now c.loop-round.circuit c.longer_by_one.new.circuit c.args.set.now c.args.disj c.loop-round._round c.args.names c.loop-round.tuples
    c.loop-round.invariant (omega arith) c.in_err-longer.ensures.extends

pub loop-round-preserved : goal.loop-round-preserved
loop-round-preserved c =
    round_more c.args.circuit.now c.loop-round.circuit c.longer_by_one.new.circuit c.args.set.now c.args.disj c.loop-round._round c.loop-round.tuples c.in_ok-longer.longer
    c.loop-round.invariant c.in_ok-longer.ensures.extends c.in_ok-longer.ensures.guarded c.in_ok-longer.ensures.slots

pub returns-clause-tuples : goal.returns-clause-tuples
returns-clause-tuples c =
    rounds_end c.args.circuit.now c.loop-round.circuit c.args.set.now c.args.disj c.loop-round._round c.args.names c.loop-round.tuples c.requires.set c.loop-round.invariant (omega arith)

pub returns-clause-few : goal.returns-clause-few
returns-clause-few c =
    rounds_few c.args.circuit.now c.loop-round.circuit c.args.set.now c.args.disj c.loop-round._round c.args.names c.loop-round.tuples c.loop-round.invariant (omega arith)
