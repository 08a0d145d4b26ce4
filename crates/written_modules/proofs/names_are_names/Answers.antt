use Rattle.written_modules.proofs.Texts.{text_right}
use Rattle.written_modules.proofs.names_are_names.Goals as goal

pub returns : goal.returns
returns c = text_right c.tokens_stand_in_order.ensures
