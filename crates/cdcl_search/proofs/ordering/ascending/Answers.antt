use Rattle.std.proofs.Common.{◌≡◌, ◌≤◌, ◌<◌, ◌+◌, get_or, take, arith, refl, subst, ◌∙◌}
use Rattle.std.proofs.lemmas.List.{take_all}
use Rattle.std.proofs.lemmas.List.Sorted.{IsNonDecreasingBy-from_sort}
use Rattle.std.specs.List.Sorted.{IsNonDecreasingBy, IsPermutation}
use Rattle.clause_store.specs.declared.clause.Literal.{Literal}
use Rattle.cdcl_search.specs.Derivations.{IsClauseOf}
use Rattle.cdcl_search.proofs.Order_steps.{ordered_more, ordered_same, permuted_clause}
use Rattle.cdcl_search.proofs.ordering.ascending.Goals as goal
use Rattle.cdcl_search.proofs.ordering.ascending.Goals.{then-from-next+in_ok-push, else-from-next}

pub loop-code-preserved : goal.loop-code-preserved
loop-code-preserved c =
    let sorted = c.as_slice-code-items.result.now in
    let i = c.loop-code.code-index in
    let up : IsNonDecreasingBy (λ x. x) sorted = rw c.as_slice-code-items.ensures.value (IsNonDecreasingBy-from_sort (λ x. x) c.sort_unstable.new.self.items c.sort_unstable.ensures.sorted) in
    elim c.if-from-next.branch [
      | then-from-next+in_ok-push w ↦
          let x : Literal = record { code = get_or sorted i 0 } in
          let least : c.loop-code.next ≤ x.code = omega (arith, w.if-from-next.true, c.from.ensures) in
          let next : c.if-from-next.next ≡ x.code + 1 = omega (arith, w.next-is, w.from-next.ensures) in
          ordered_more sorted i c.loop-code.literals c.loop-code.next x c.if-from-next.literals c.if-from-next.next c.loop-code.invariant c.loop-code-test.true refl least (w.literals-is ∙ w.in_ok-push.ensures.ok) next
      | else-from-next w ↦
          let less : get_or sorted i 0 < c.loop-code.next = omega (arith, w.if-from-next.false, c.from.ensures) in
          ordered_same sorted i c.loop-code.literals c.loop-code.next c.if-from-next.literals c.if-from-next.next up c.loop-code.invariant c.loop-code-test.true less w.literals-is w.next-is
    ]

pub returns : goal.returns
returns c =
    let sorted = c.as_slice-code-items.result.now in
    let all : take c.loop-code.code-index sorted ≡ sorted = take_all c.loop-code.code-index sorted (omega arith) in
    let same : IsClauseOf sorted c.new.result = rw c.new.ensures (subst (λ xs. IsClauseOf xs c.loop-code.literals) all c.loop-code.invariant.same) in
    let moved : IsPermutation c.args.codes.now c.sort_unstable.new.self.items = rw c.in_ok-sorted.ensures.items at c.sort_unstable.ensures.permutation in
    permuted_clause c.args.codes.now sorted c.new.result (rw c.as_slice-code-items.ensures.value moved) same
