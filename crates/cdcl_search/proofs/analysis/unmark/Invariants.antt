use Rattle.std.proofs.Common.{◌≡◌, length}
use Rattle.cdcl_search.specs.Marks.{IsSwept}
use Rattle.cdcl_search.proofs.analysis.unmark.Given as goal

abbrev pub invariant-loop-literal : goal.invariant-loop-literal
invariant-loop-literal l = record {
  swept : IsSwept l.trail.places.items l.fn.marks.items l.marks.items l.literals l.literal-index;
  size : length l.marks.items ≡ length l.fn.marks.items;
}
