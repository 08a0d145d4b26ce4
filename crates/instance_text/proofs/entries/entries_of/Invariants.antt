use Rattle.std.proofs.Common.{◌≡◌, ◌++◌, [], drop}
use Rattle.std.specs.Option.{option_map}
use Rattle.instance_text.specs.Lines.{entries_below}
use Rattle.instance_text.proofs.entries.entries_of.Given as goal

-- the lines that are left lead to the entries
abbrev pub invariant-loop-line : goal.invariant-loop-line
invariant-loop-line l = option_map (λ es. l.entries.items ++ es) (entries_below l.above.items (drop l.line-index l.lines)) ≡ entries_below [] l.lines
