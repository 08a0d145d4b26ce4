use Rattle.shown_instance.proofs.Fitted.{shows_only}
use Rattle.shown_instance.proofs.laws.the_told_instance_alone_is_shown.Goals as goal

pub returns : goal.returns
returns c = shows_only
