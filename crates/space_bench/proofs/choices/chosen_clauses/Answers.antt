use Rattle.std.proofs.Common.{◌∙◌}
use Rattle.space_bench.proofs.choices.chosen_clauses.Goals as goal
use Rattle.space_bench.proofs.Chosen.{parts_none, parts_more}
use Rattle.question_space.specs.Posing.{but_last}

pub loop-at-init : goal.loop-at-init
loop-at-init c = c.in_ok-kept.ensures ∙ parts_none (but_last c.args.clauses.now.clauses) c.args.flags.now

pub loop-at-preserved : goal.loop-at-preserved
loop-at-preserved c =
    parts_more (but_last c.args.clauses.now.clauses) c.args.flags.now c.args.parts.now c.loop-at.at (record { code = 0 }) c.is_chosen.result
    c.loop-at.kept.clauses c.say_part.new.clauses.clauses c.loop-at-test.true c.is_chosen.ensures c.loop-at.invariant c.in_ok-say_part.ensures
