use Rattle.family_checks.proofs.Parting.{mark_repeats}
use Rattle.family_checks.proofs.repeating.repeat_marks.Goals as goal

pub returns : goal.returns
returns c =
    mark_repeats c.args.clafers.now c.in_ok-tour.tour.enter.items c.in_ok-tour.tour.leave.items c.in_ok-tour.tour.order c.in_ok-marks.marks.items
    (c.is_tour.ensures c.if-not-is_tour.false) c.in_ok-marks.ensures
