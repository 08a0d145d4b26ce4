-- A concrete clafer more, or an abstract one.
use Rattle.std.proofs.Common.{◌∙◌, sym}
use Rattle.clf_tree.specs.Hierarchy.{is_concrete}
use Rattle.report_json.proofs.Parts.{number_kept, number_dropped}
use Rattle.report_json.proofs.lists.concrete.Goals as goal
use Rattle.report_json.proofs.lists.concrete.Goals.{then-is_concrete+in_ok-push, else-is_concrete}

pub loop-clafer-preserved : goal.loop-clafer-preserved
loop-clafer-preserved c =
    let test = is_concrete c.args.clafers.now in
    elim c.if-is_concrete.branch [
      | then-is_concrete+in_ok-push w ↦
          w.list-is ∙ number_kept test c.loop-clafer.clafer c.loop-clafer.list w.push.new.self
          (sym c.is_concrete.ensures ∙ w.if-is_concrete.true) c.loop-clafer.invariant w.in_ok-push.ensures.ok
      | else-is_concrete w ↦
          w.list-is ∙ number_dropped test c.loop-clafer.clafer c.loop-clafer.list
          (sym c.is_concrete.ensures ∙ w.if-is_concrete.false) c.loop-clafer.invariant
    ]
