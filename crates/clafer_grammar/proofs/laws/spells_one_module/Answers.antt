use Rattle.clafer_grammar.proofs.Builds.{spells_one}
use Rattle.clafer_grammar.proofs.laws.spells_one_module.Goals as goal

pub returns : goal.returns
returns c tokens some others v w = spells_one v w
