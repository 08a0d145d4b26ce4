use Rattle.std.proofs.Common.{ap, sym, ◌∙◌, arith}
use Rattle.std.specs.Prelude.{bytes_eq}
use Rattle.std.specs.HashMap.{get_by}
use Rattle.family_checks.specs.Tours.{turn_of}
use Rattle.family_checks.proofs.Parting.{same_turn, above_kept, made_visit}
use Rattle.family_checks.proofs.repeating.visit.Goals as goal

pub returns : goal.returns
returns c = λ next given.
    let now = same_turn c.turn_of-next.result next given in
    let entered = c.turn_of-next.ensures ∙ ap (λ ts. turn_of ts c.in-Some.parent) c.deref.ensures.value in
    let left = c.turn_of.ensures ∙ ap (λ ts. turn_of ts c.in-Some.parent) c.deref-2.ensures.value in
    made_visit c.args.clafers.now c.args.tour.now.enter.items c.args.tour.now.leave.items c.args.clafer c.args.turn next c.get-here.result.now c.in-Some.parent c.max.result c.kept_turn-left.result
    c.as_slice-name.result.now (λ n. get_by (λ k. bytes_eq n k.now) c.args.last.now) (λ n. get_by (λ k. bytes_eq n k.now) c.insert.new.self) c.args.marks.now.items c.mark_if.new.marks.items
    c.get-here.ensures c.in-Some.is c.as_slice-name.ensures (sym now ∙ entered) (omega (arith, now, c.if-next-turn.false)) c.kept_turn-left.ensures
    (omega (arith, c.max.ensures)) (omega (arith, c.max.ensures, left))
    (λ n. c.in_ok-insert.ensures.updates.0 (record { ref_ptr = (0, 0); now = n }))
    (λ none. above_kept c.turn_of-next.result c.kept_turn-left.result next now (c.mark_if.ensures.marked none)) c.mark_if.ensures.stay
