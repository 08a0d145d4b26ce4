use Rattle.std.proofs.Common.{◌≡◌, drop, map}
use Rattle.std.specs.Prelude.{string_bytes}
use Rattle.command_words.specs.Words.{with_words, nothing_asked, IsBounded}
use Rattle.command_words.proofs.reading.words_of.Given as goal

-- the words that are left lead on to what all ask for
abbrev pub invariant-loop-word : goal.invariant-loop-word
invariant-loop-word l = record {
  left : with_words (map string_bytes (drop l.word-index l.words)) l.asked ≡ with_words (map string_bytes l.words) nothing_asked;
  bounded : IsBounded l.asked;
}
