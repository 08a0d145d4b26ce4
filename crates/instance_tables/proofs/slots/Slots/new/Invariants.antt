use Rattle.std.proofs.Common.{◌≡◌, map}
use Rattle.clf_tree.specs.Lists.{numbers_below}
use Rattle.instance_tables.specs.Slots.{first_slot}
use Rattle.instance_tables.proofs.slots.Slots.new.Given as goal

abbrev pub invariant-loop-scope : goal.invariant-loop-scope
invariant-loop-scope l = record {
  numbered : l.first ≡ map (first_slot l.scopes) (numbers_below l.scope-index);
  counted : l.count ≡ first_slot l.scopes l.scope-index;
}
