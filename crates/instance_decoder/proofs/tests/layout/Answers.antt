use Rattle.instance_decoder.proofs.Worked.{layout_as}
use Rattle.instance_decoder.proofs.tests.layout.Goals as goal

pub returns : goal.returns
returns c = layout_as c.in_ok-slots.slots c.in_ok-live.live c.in_ok-parents.parents c.in_ok-targets.targets c.in_ok-values.values c.in_ok-slots.ensures c.in_ok-live.ensures c.in_ok-parents.ensures c.in_ok-targets.ensures c.in_ok-values.ensures
