use Rattle.std.proofs.Common.{◌≡◌, ◌++◌, take}
use Rattle.clf_tree.proofs.kinds.joined.Given as goal

abbrev pub invariant-loop-l : goal.invariant-loop-l
invariant-loop-l l = l.ks ≡ l.fn.ks ++ take l.l-index l.ls
