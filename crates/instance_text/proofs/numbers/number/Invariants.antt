use Rattle.std.proofs.Common.{◌≡◌, drop}
use Rattle.instance_text.specs.Reading.{number_after}
use Rattle.instance_text.proofs.numbers.number.Given as goal

-- the digits that are left lead to the number
abbrev pub invariant-loop-byte : goal.invariant-loop-byte
invariant-loop-byte l = number_after l.value (drop l.byte-index l.text) ≡ number_after 0 l.text
