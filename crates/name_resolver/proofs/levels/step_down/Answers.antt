use Rattle.std.proofs.Common.{◌≡◌, ℕ, Bool, List, [], ◌∷◌, ◌++◌, ap, sym, subst, ◌∙◌}
use Rattle.name_resolver.specs.Levels.{is_child_of}
use Rattle.name_resolver.specs.Marks.{MarksAbove}
use Rattle.name_resolver.proofs.Numbers.{filter-kept, filter-dropped}
use Rattle.name_resolver.proofs.levels.step_down.Goals as goal
use Rattle.name_resolver.proofs.levels.step_down.Goals.{then-is_under_marked+in_ok-push, else-is_under_marked}

pub loop-child-preserved : goal.loop-child-preserved
loop-child-preserved c =
    let clafers = c.args.clafers.now in
    let level = c.args.level.now in
    let child = c.loop-child.child in
    let marks = subst (λ (bs : List Bool). MarksAbove clafers level bs) (sym c.as_slice.ensures.value) c.in_ok-marks.ensures.marked in
    let tells : c.is_under_marked.result ≡ is_child_of clafers level child = c.is_under_marked.ensures level marks in
    elim c.if-is_under_marked.branch [
      | then-is_under_marked+in_ok-push w ↦
          w.next-is ∙ w.in_ok-push.ensures.ok ∙ ap (λ (xs : List ℕ). xs ++ child ∷ []) c.loop-child.invariant
          ∙ sym (filter-kept (is_child_of clafers level) child (sym tells ∙ w.if-is_under_marked.true))
      | else-is_under_marked w ↦
          w.next-is ∙ c.loop-child.invariant ∙ sym (filter-dropped (is_child_of clafers level) child (sym tells ∙ w.if-is_under_marked.false))
    ]
