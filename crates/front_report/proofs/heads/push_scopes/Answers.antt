-- A concrete clafer has a line, an abstract one none.
use Rattle.std.proofs.Common.{◌∙◌, sym}
use Rattle.clf_tree.specs.Hierarchy.{is_concrete}
use Rattle.front_report.specs.Head.{scope_line}
use Rattle.front_report.proofs.Lines.{line_more, line_skipped}
use Rattle.front_report.proofs.heads.push_scopes.Goals as goal
use Rattle.front_report.proofs.heads.push_scopes.Goals.{then-is_concrete+in_ok-push_scope, else-is_concrete}

pub loop-clafer-preserved : goal.loop-clafer-preserved
loop-clafer-preserved c =
    let line = scope_line c.args.clafers.now c.args.scopes.now in
    let test = is_concrete c.args.clafers.now in
    elim c.if-is_concrete.branch [
      | then-is_concrete+in_ok-push_scope w ↦
          w.text-is ∙ line_more line test c.args.text.now c.loop-clafer.text w.push_scope.new.text c.loop-clafer.clafer
          (sym c.is_concrete.ensures ∙ w.if-is_concrete.true) c.loop-clafer.invariant w.in_ok-push_scope.ensures
      | else-is_concrete w ↦
          w.text-is ∙ line_skipped line test c.args.text.now c.loop-clafer.text c.loop-clafer.clafer
          (sym c.is_concrete.ensures ∙ w.if-is_concrete.false) c.loop-clafer.invariant
    ]
