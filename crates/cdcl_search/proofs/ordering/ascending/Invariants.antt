use Rattle.cdcl_search.proofs.Order_steps.{IsOrdered}
use Rattle.cdcl_search.proofs.ordering.ascending.Given as goal

abbrev pub invariant-loop-code : goal.invariant-loop-code
invariant-loop-code l = IsOrdered l.code-items l.code-index l.literals l.next
