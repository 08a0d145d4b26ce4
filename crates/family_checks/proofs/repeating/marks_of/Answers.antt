use Rattle.std.proofs.Common.{List, ℕ, subst, arith}
use Rattle.std.specs.Prelude.{bytes_eq}
use Rattle.std.specs.HashMap.{get_by}
use Rattle.std.proofs.lemmas.List.{take_all}
use Rattle.family_checks.specs.Tours.{kept_turn, AllApart}
use Rattle.family_checks.proofs.Parting.{nothing_yet, visited_more}
use Rattle.family_checks.proofs.repeating.marks_of.Goals as goal

pub loop-index-init : goal.loop-index-init
loop-index-init c =
    nothing_yet c.args.clafers.now c.args.tour.now.enter.items c.args.tour.now.leave.items (λ n. kept_turn (get_by (λ k. bytes_eq n k.now) c.new-last.result)) c.in_ok-marks.marks.items

pub loop-index-preserved : goal.loop-index-preserved
loop-index-preserved c =
    visited_more c.args.clafers.now c.args.tour.now.enter.items c.args.tour.now.leave.items c.args.tour.now.order c.loop-index.index c.get-clafer.result.now c.loop-index.turn c.in-Some.next
    (λ n. kept_turn (get_by (λ k. bytes_eq n k.now) c.loop-index.last)) (λ n. kept_turn (get_by (λ k. bytes_eq n k.now) c.visit.new.last)) c.loop-index.marks.items c.visit.new.marks.items
    c.get-clafer.ensures (c.in_ok-next.ensures c.in-Some.next c.in-Some.is) c.loop-index.invariant

pub returns : goal.returns
returns c =
    subst (λ (xs : List ℕ). AllApart c.args.clafers.now c.args.tour.now.enter.items c.args.tour.now.leave.items xs c.loop-index.marks.items)
    (take_all c.loop-index.index c.args.tour.now.order (omega (arith, c.len-index-end.ensures, c.loop-index-test.false))) c.loop-index.invariant.parted
