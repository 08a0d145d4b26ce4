-- The lines of the clafers so far.
use Rattle.std.proofs.Common.{◌≡◌, ◌++◌}
use Rattle.clf_tree.specs.Hierarchy.{is_concrete}
use Rattle.front_report.specs.Head.{scope_line}
use Rattle.front_report.proofs.Lines.{lines}
use Rattle.front_report.proofs.heads.push_scopes.Given as goal

abbrev pub invariant-loop-clafer : goal.invariant-loop-clafer
invariant-loop-clafer l = l.text ≡ l.fn.text ++ lines (scope_line l.clafers l.scopes) (is_concrete l.clafers) l.clafer
