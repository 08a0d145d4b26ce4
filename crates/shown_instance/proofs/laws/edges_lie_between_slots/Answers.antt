use Rattle.clf_tree.specs.Hierarchy.{owners}
use Rattle.set_bits.specs.Fitting.{referred}
use Rattle.shown_instance.proofs.Fitted.{edges_between, values_inside}
use Rattle.shown_instance.proofs.laws.edges_lie_between_slots.Goals as goal

pub returns : goal.returns
returns c = record {
  parents = λ clafers scopes layout f. edges_between (owners clafers) layout.slots layout.parents f.parents;
  targets = λ clafers scopes layout f. edges_between (referred clafers) layout.slots layout.targets f.targets;
  values = λ clafers scopes layout f. values_inside clafers layout.slots layout.values f.values;
}
