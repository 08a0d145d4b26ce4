use Rattle.std.proofs.Common.{ℕ, List, take, sym, subst}
use Rattle.std.proofs.lemmas.List.{take_more}
use Rattle.name_tables.specs.Children.{AreChildren}
use Rattle.name_tables.proofs.children.children_told.Goals as goal

pub loop-clafer-preserved : goal.loop-clafer-preserved
loop-clafer-preserved c = λ name is.
    let i = c.loop-clafer.clafer-index in
    subst (λ (xs : List ℕ). AreChildren c.args.clafers.now name xs c.add_child.new.found.items) (sym (take_more c.args.ks.now i 0 c.loop-clafer-test.true))
    (c.in_ok-add_child.ensures c.if-not-branch.false name (take i c.args.ks.now) is (c.loop-clafer.invariant name is))
