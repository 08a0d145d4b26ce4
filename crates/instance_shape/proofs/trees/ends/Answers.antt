use Rattle.std.specs.Prelude.{is_none}
use Rattle.std.proofs.Common.{rules, ◌≡◌, ℕ, zero, suc, ◌-◌, true, List, length, None, refl, ap, sym, ◌∙◌, arith}
use Rattle.clf_tree.specs.declared.instance.Entry.{Entry}
use Rattle.clf_tree.specs.declared.instance.Node.{Node}
use Rattle.clf_tree.specs.Nodes.{ends_within}
use Rattle.instance_shape.proofs.trees.ends.Goals as goal

none_ends : (n : ℕ) (entries : List Entry) → ends_within n entries None ≡ true
none_ends zero entries = refl
none_ends (suc n) entries = refl

pub returns-in-None : goal.returns-in-None
returns-in-None c =
    let n = length c.args.tables.now.entries - c.loop-step._step in
    sym (none_ends n c.args.tables.now.entries) ∙ ap (ends_within n c.args.tables.now.entries) (sym c.in-None.is)
    ∙ c.loop-step.invariant n (omega (arith, c.loop-step-test.true, c.len-step-end.ensures))

pub loop-step-preserved : goal.loop-step-preserved
loop-step-preserved c = λ n e.
    ap (ends_within n c.args.tables.now.entries) c.parent_of-current.ensures
    ∙ ap (ends_within (suc n) c.args.tables.now.entries) (sym c.in-Some.is)
    ∙ c.loop-step.invariant (suc n) (omega (arith, e))

pub returns : goal.returns
returns c =
    let h : c.is_none.result ≡ is_none c.loop-step.current = search rules in
    h
    ∙ c.loop-step.invariant 0 (omega (arith, c.loop-step-test.false, c.len-step-end.ensures, c.loop-step.auto._step-end))
