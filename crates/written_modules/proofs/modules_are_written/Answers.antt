use Rattle.written_modules.proofs.Whole.{written}
use Rattle.written_modules.proofs.modules_are_written.Goals as goal

pub returns : goal.returns
returns c = written c.plain_is_known.ensures c.names_differ.ensures
