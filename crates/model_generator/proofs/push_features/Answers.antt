-- Each feature has a line.
use Rattle.model_generator.specs.Generated.{optional_line}
use Rattle.model_generator.proofs.Lines.{each_more}
use Rattle.model_generator.proofs.push_features.Goals as goal

pub loop-feature-preserved : goal.loop-feature-preserved
loop-feature-preserved c =
    each_more optional_line c.args.text.now c.loop-feature.text c.push_optional.new.text c.loop-feature.feature
    c.loop-feature.invariant c.in_ok-push_optional.ensures
