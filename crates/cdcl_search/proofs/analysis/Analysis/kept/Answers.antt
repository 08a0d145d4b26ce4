use Rattle.std.proofs.Common.{◌≡◌, ◌≢◌, ◌/◌, ◌<◌, length, get_or, inl, inr, arith, ap, subst}
use Rattle.std.proofs.lemmas.Bool.{cases_eq, false≢true}
use Rattle.cdcl_search.specs.Marks.{AreKeptTo}
use Rattle.cdcl_search.proofs.Members.{Has-at}
use Rattle.cdcl_search.proofs.Mark_steps.{kept_more, kept_same, kept_all}
use Rattle.cdcl_search.proofs.analysis.Analysis.kept.Goals as goal
use Rattle.cdcl_search.proofs.analysis.Analysis.kept.Goals.{then-has_mark+in_ok-push, else-has_mark}

pub has_mark-requires-clause-is_false : goal.has_mark-requires-clause-is_false
has_mark-requires-clause-is_false c =
    let v = c.as_slice-literal-items.ensures.value in
    rw v (c.requires.are_false (get_or c.args.self.now.lower.items c.loop-literal.literal-index 0) (Has-at c.args.self.now.lower.items c.loop-literal.literal-index (omega (arith, c.loop-literal-test.true, ap length v))))

pub loop-literal-preserved : goal.loop-literal-preserved
loop-literal-preserved c =
    let v = c.as_slice-literal-items.ensures.value in
    let b : c.loop-literal.literal-index < length c.args.self.now.lower.items = omega (arith, c.loop-literal-test.true, ap length v) in
    elim c.if-has_mark.branch [
      | then-has_mark+in_ok-push w ↦
          let z : get_or c.args.self.now.marks.items (get_or c.args.trail.now.places.items (get_or c.args.self.now.lower.items c.loop-literal.literal-index 0 / 2) 0) 0 ≢ 0 = rw v at (c.has_mark.ensures.0 w.if-has_mark.true) in
          rw (w.kept-is, w.in_ok-push.ensures.items, v) (kept_more _ _ c.args.self.now.lower.items c.loop-literal.kept.items c.loop-literal.literal-index c.loop-literal.invariant b z)
      | else-has_mark w ↦
          let z : get_or c.args.self.now.marks.items (get_or c.args.trail.now.places.items (get_or c.as_slice-literal-items.result.now c.loop-literal.literal-index 0 / 2) 0) 0 ≡ 0
          = elim (cases_eq (get_or c.args.self.now.marks.items (get_or c.args.trail.now.places.items (get_or c.as_slice-literal-items.result.now c.loop-literal.literal-index 0 / 2) 0) 0) 0) [
            | inl e ↦ e
            | inr n ↦ absurd (false≢true (rw w.if-has_mark.false at (c.has_mark.ensures.1 n)))
          ] in
          rw w.kept-is (kept_same _ _ c.args.self.now.lower.items c.loop-literal.kept.items c.loop-literal.literal-index c.loop-literal.invariant (rw v at z))
    ]

pub returns : goal.returns
returns c =
    let v = c.as_slice-literal-items.ensures.value in
    let e : c.loop-literal.literal-index ≡ length c.args.self.now.lower.items = omega (arith, c.loop-literal-test.false, c.loop-literal.auto.literal-index-end, ap length v) in
    kept_all _ _ c.args.self.now.lower.items c.loop-literal.kept.items (subst (λ i. AreKeptTo c.args.trail.now.places.items c.args.self.now.marks.items c.args.self.now.lower.items c.loop-literal.kept.items i) e c.loop-literal.invariant)
