use Rattle.std.proofs.Common.{take}
use Rattle.std.specs.Prelude.{bytes_eq}
use Rattle.std.specs.HashMap.{get_by}
use Rattle.family_checks.specs.Tours.{kept_turn}
use Rattle.family_checks.proofs.Parting.{SoFar}
use Rattle.family_checks.proofs.repeating.marks_of.Given as goal

-- those visited so far are apart where they aren't marked, and the last turn of each name is kept
abbrev pub invariant-loop-index : goal.invariant-loop-index
invariant-loop-index l =
    SoFar l.clafers l.tour.enter.items l.tour.leave.items (take l.index l.tour.order) l.turn (λ n. kept_turn (get_by (λ k. bytes_eq n k.now) l.last)) l.marks.items
