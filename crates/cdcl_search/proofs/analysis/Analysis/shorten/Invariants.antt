use Rattle.std.proofs.Common.{ℕ, ◌≡◌, length, get_or}
use Rattle.cdcl_search.specs.Explanations.{IsExplained}
use Rattle.cdcl_search.proofs.analysis.Analysis.shorten.Given as goal

abbrev pub invariant-loop-index : goal.invariant-loop-index
invariant-loop-index l = record {
  explained : IsExplained l.arena l.trail l.base l.self;
  marks : (p : ℕ) → get_or l.fn.self.marks.items p 0 ≡ 0 → get_or l.self.marks.items p 0 ≡ 0;
  counter : l.self.counter ≡ l.fn.self.counter;
  start : l.self.start ≡ l.fn.self.start;
  lower : l.self.lower ≡ l.fn.self.lower;
  size : length l.self.marks.items ≡ length l.fn.self.marks.items;
}
