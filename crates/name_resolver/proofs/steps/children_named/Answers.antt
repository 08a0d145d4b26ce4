use Rattle.std.proofs.Common.{◌≡◌, length, ℕ, List, sym, subst, ◌∙◌, true}
use Rattle.std.specs.Prelude.{nat_lt}
use Rattle.std.specs.List.{list_all}
use Rattle.name_resolver.specs.Levels.{is_child_of}
use Rattle.name_resolver.proofs.Members.{filter_below}
use Rattle.name_resolver.proofs.steps.children_named.Goals as goal

pub loop-child-init : goal.loop-child-init
loop-child-init c =
    let clafers = c.args.clafers.now in
    let same = c.as_slice-child-items.ensures ∙ c.in_ok-next.ensures in
    record {
      within = subst (λ (ms : List ℕ). list_all (λ (m : ℕ). nat_lt m (length clafers)) ms ≡ true) (sym same) (filter_below (is_child_of clafers c.args.ks.now) (length clafers));
      next = same;
      found = c.new-found.ensures;
    }
