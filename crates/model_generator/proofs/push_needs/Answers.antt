-- A feature that needs another has a line, another none.
use Rattle.std.proofs.Common.{◌∙◌, sym}
use Rattle.model_generator.specs.Generated.{implied_line, is_implied}
use Rattle.model_generator.proofs.Lines.{line_more, line_skipped}
use Rattle.model_generator.proofs.push_needs.Goals as goal
use Rattle.model_generator.proofs.push_needs.Goals.{then-is_implied+in_ok-push_implied, else-is_implied}

pub loop-feature-preserved : goal.loop-feature-preserved
loop-feature-preserved c =
    elim c.if-is_implied.branch [
      | then-is_implied+in_ok-push_implied w ↦
          w.text-is ∙ line_more implied_line is_implied c.args.text.now c.loop-feature.text w.push_implied.new.text c.loop-feature.feature
          (sym c.is_implied.ensures ∙ w.if-is_implied.true) c.loop-feature.invariant w.in_ok-push_implied.ensures
      | else-is_implied w ↦
          w.text-is ∙ line_skipped implied_line is_implied c.args.text.now c.loop-feature.text c.loop-feature.feature
          (sym c.is_implied.ensures ∙ w.if-is_implied.false) c.loop-feature.invariant
    ]
