use Rattle.question_space.proofs.verdicts.first_bits.Goals as goal
use Rattle.question_space.proofs.Deciding.{bits_more}

pub loop-at-preserved : goal.loop-at-preserved
loop-at-preserved c = bits_more c.args.values.now c.loop-at.at c.loop-at.bits c.push.new.self c.value_of-bit.result c.loop-at.invariant
    c.value_of-bit.ensures c.in_ok-push.ensures.ok
