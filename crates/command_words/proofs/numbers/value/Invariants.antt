use Rattle.std.proofs.Common.{◌≡◌, ◌<◌, ◌^◌, drop}
use Rattle.command_words.specs.Words.{value_after}
use Rattle.command_words.proofs.numbers.value.Given as goal

-- the digits that are left lead to the number, and so many digits make no larger one
abbrev pub invariant-loop-digit : goal.invariant-loop-digit
invariant-loop-digit l = (value_after l.value (drop l.digit-index l.digits) ≡ value_after 0 l.digits) × (l.value < 10 ^ l.digit-index)
