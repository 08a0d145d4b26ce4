use Rattle.std.proofs.Common.{◌≡◌, ◌++◌}
use Rattle.instance_text.specs.Show.{indent}
use Rattle.instance_text.proofs.tree.push_indent.Given as goal

abbrev pub invariant-loop-level : goal.invariant-loop-level
invariant-loop-level l = l.text ≡ l.initial.text ++ indent l._level
