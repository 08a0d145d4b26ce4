-- The trees so far are written.
use Rattle.std.proofs.Common.{◌≡◌, take, length, is_none}
use Rattle.std.specs.List.{filter, flat_map}
use Rattle.instance_text.specs.Show.{subtree}
use Rattle.instance_text.proofs.tree.show.Given as goal

abbrev pub invariant-loop-entry : goal.invariant-loop-entry
invariant-loop-entry l =
    l.text ≡ flat_map (subtree l.model.clafers l.entries (length l.entries) 0) (filter (λ e. is_none e.parent) (take l.entry-index l.entries))
