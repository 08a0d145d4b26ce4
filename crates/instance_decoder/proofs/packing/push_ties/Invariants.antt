use Rattle.std.proofs.Common.{◌≡◌, ◌++◌, map, take, List}
use Rattle.clf_tree.specs.declared.instance.Entry.{Entry}
use Rattle.clf_tree.specs.Nodes.{entry_of}
use Rattle.set_bits.specs.Showing.{is_tied}
use Rattle.instance_decoder.specs.Packing.{end_in}
use Rattle.instance_decoder.proofs.packing.push_ties.Given as goal

abbrev pub invariant-loop-at : goal.invariant-loop-at
invariant-loop-at l = (entries : List Entry) → l.table ≡ map (entry_of entries) l.slots → l.bits ≡ l.fn.bits ++ map (is_tied (end_in l.tie entries) l.slots) (take l.at l.edges)
