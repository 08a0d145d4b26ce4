-- Words that have a reading, and the text that they ask about.
use Rattle.std.specs.Prelude.{◌≡◌, ℕ, List, None, Some}
use Rattle.std.specs.Option.{option_map_or}
use Rattle.command_words.specs.Words.{reading}
use Rattle.command_words.specs.declared.reading.Request.{Request}
use Rattle.model_generator.specs.Generated.{generated}

abbrev pub IsReading : List (List ℕ) → Request → Type 0
IsReading words wanted = reading words ≡ Some wanted

abbrev pub HasReading : List (List ℕ) → Type 0
HasReading words = (wanted : Request) × IsReading words wanted

-- the words ask for the answer to the text of the source, and not to a generated one
abbrev pub ReadsSource : List (List ℕ) → Type 0
ReadsSource words = (wanted : Request) × IsReading words wanted × (wanted.generate ≡ None)

-- the generated text, or that of the source
abbrev pub model_text : Request → List ℕ → List ℕ
model_text request text = option_map_or generated request.generate text
