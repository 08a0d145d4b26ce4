use Rattle.token_spellings.proofs.Reading.{word_written, written_word_read}
use Rattle.token_spellings.proofs.words_are_read_as_written.Goals as goal

pub returns : goal.returns
returns c = λ text word. (word_written text word, written_word_read text word)
