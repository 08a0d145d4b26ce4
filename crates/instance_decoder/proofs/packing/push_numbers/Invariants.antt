use Rattle.std.proofs.Common.{◌≡◌, map, take, List}
use Rattle.clf_tree.specs.declared.instance.Entry.{Entry}
use Rattle.clf_tree.specs.Nodes.{entry_of}
use Rattle.instance_decoder.specs.Packing.{AddsNumbers}
use Rattle.instance_decoder.proofs.packing.push_numbers.Given as goal

abbrev pub invariant-loop-at : goal.invariant-loop-at
invariant-loop-at l = (entries : List Entry) → l.table ≡ map (entry_of entries) l.slots → AddsNumbers entries l.slots (take l.at l.values) l.fn.bits l.bits
