use Rattle.std.proofs.Common.{◌+◌, ◌*◌, length}
use Rattle.clafer_reader.proofs.reduction.+settling.Given as goal

abbrev pub decreases-settle : goal.decreases-settle
decreases-settle l = 4 * length l.frames + 1

abbrev pub decreases-end : goal.decreases-end
decreases-end l = 4 * length l.frames

abbrev pub decreases-reduce : goal.decreases-reduce
decreases-reduce l = 4 * length l.frames + 3

abbrev pub decreases-after_infix : goal.decreases-after_infix
decreases-after_infix l = 4 * length l.frames + 2

abbrev pub decreases-after_prefix : goal.decreases-after_prefix
decreases-after_prefix l = 4 * length l.frames + 2

abbrev pub decreases-after_choice : goal.decreases-after_choice
decreases-after_choice l = 4 * length l.frames + 2

abbrev pub decreases-after_quantifier : goal.decreases-after_quantifier
decreases-after_quantifier l = 4 * length l.frames + 2
