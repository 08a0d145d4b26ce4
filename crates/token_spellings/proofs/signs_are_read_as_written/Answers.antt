use Rattle.token_spellings.proofs.Reading.{sign_written, written_sign_read}
use Rattle.token_spellings.proofs.signs_are_read_as_written.Goals as goal

pub returns : goal.returns
returns c = λ text sign. (sign_written text sign, written_sign_read text sign)
