use Rattle.std.proofs.Common.{◌≡◌, ◌++◌, ◌-◌, length}
use Rattle.std.specs.Option.{option_map}
use Rattle.instance_text.specs.Reading.{lines_read}
use Rattle.instance_text.proofs.lines.lines_read.Given as goal

-- what is left of the text leads to the lines
abbrev pub invariant-loop-turn : goal.invariant-loop-turn
invariant-loop-turn l = option_map (λ ls. l.lines.items ++ ls) (lines_read (length l.text - l._turn) l.names l.rest) ≡ lines_read (length l.text) l.names l.text
