use Rattle.std.proofs.Common.{refl, ◌∙◌, sym}
use Rattle.cdcl_search.proofs.Run_steps.{same_whole}
use Rattle.cdcl_search.proofs.engine.Engine.restart_if_due.Goals as goal

pub returns-then-not-count-clause-whole : goal.returns-then-not-count-clause-whole
returns-then-not-count-clause-whole c = same_whole c.args.self.now _ c.requires.whole c.requires.whole.state c.requires.whole.watching c.requires.whole.marks c.requires.whole.clear refl refl refl

pub returns-in_err-restart-clause-whole : goal.returns-in_err-restart-clause-whole
returns-in_err-restart-clause-whole c = same_whole c.args.self.now _ c.requires.whole c.restart.ensures.state c.restart.ensures.watching (c.requires.whole.marks ∙ sym c.restart.ensures.size) c.requires.whole.clear refl refl refl

pub returns-clause-whole : goal.returns-clause-whole
returns-clause-whole c = same_whole c.args.self.now _ c.requires.whole c.restart.ensures.state c.restart.ensures.watching (c.requires.whole.marks ∙ sym c.restart.ensures.size) c.requires.whole.clear refl refl refl
