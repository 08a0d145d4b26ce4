use Rattle.std.proofs.Common.{◌≡◌, true, sym, subst, arith}
use Rattle.clf_tree.specs.Nodes.{is_ordered}
use Rattle.instance_tables.specs.Tables.{HoldsEntries, HoldsChildren, NoneOutside}
use Rattle.instance_tables.proofs.Numbering.{scopes_total}
use Rattle.instance_tables.proofs.Placing.{none_outside}
use Rattle.instance_tables.proofs.tables.Tables.build.Goals as goal

pub new-requires : goal.new-requires
new-requires c = omega (arith, scopes_total c.args.scopes.now.of, c.requires.few)

pub invariant_of-result : goal.invariant_of-result
invariant_of-result c =
    let slots = c.in_ok-slots.slots in
    let entries = c.args.instance.now.entries in
    record {
      ordered = subst (λ es. is_ordered es ≡ true) (sym c.in_ok-copy.ensures) c.args.instance.now.ordered;
      sized = c.in_ok-places.ensures.0;
      below_sized = c.in_ok-below.ensures.0;
      entries_held = subst (λ es. HoldsEntries slots.scopes es c.in_ok-places.places.items) (sym c.in_ok-copy.ensures) c.in_ok-places.ensures.1;
      children_held = subst (λ es. HoldsChildren slots.scopes es c.in_ok-below.below.items) (sym c.in_ok-copy.ensures) c.in_ok-below.ensures.1;
      none_outside = subst (λ es. NoneOutside slots.scopes es) (sym c.in_ok-copy.ensures)
          (subst (λ scopes. NoneOutside scopes entries) (sym c.in_ok-slots.ensures) (none_outside c.args.model.now.clafers c.args.scopes.now entries c.requires.within));
    }
