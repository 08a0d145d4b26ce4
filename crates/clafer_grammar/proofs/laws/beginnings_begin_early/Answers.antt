use Rattle.clafer_grammar.proofs.Exact.{shorter_begins}
use Rattle.clafer_grammar.proofs.laws.beginnings_begin_early.Goals as goal

pub returns : goal.returns
returns c front rest b = shorter_begins front rest b
