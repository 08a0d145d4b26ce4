-- No clafer so far has the name.
use Rattle.std.proofs.Common.{◌≡◌, ◌&&◌, ◌==◌, false, not, bytes_eq}
use Rattle.std.specs.List.{list_any}
use Rattle.clf_tree.specs.Lists.{numbers_below}
use Rattle.instance_text.specs.Names.{name_of}
use Rattle.instance_text.proofs.names.has_namesake.Given as goal

abbrev pub invariant-loop-other : goal.invariant-loop-other
invariant-loop-other l =
    list_any (λ d. not (d == l.clafer) && bytes_eq (name_of l.clafers d) (name_of l.clafers l.clafer)) (numbers_below l.other) ≡ false
