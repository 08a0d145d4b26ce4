use Rattle.std.proofs.Common.{◌++◌, take, ap, sym, ◌∙◌, arith}
use Rattle.std.specs.Option.{option_to_list}
use Rattle.clf_tree.specs.Nodes.{target_node}
use Rattle.model_evaluator.specs.Sources.{reached}
use Rattle.model_evaluator.proofs.Reached.{reached_more}
use Rattle.model_evaluator.proofs.node_sets.target_list.Goals as goal

pub loop-entry-preserved : goal.loop-entry-preserved
loop-entry-preserved c =
    let ns = c.args.set.now.nodes in
    let xs = c.args.entries.now in
    let i = c.loop-entry.entry-index in
    c.in_ok-push_some.ensures
    ∙ ap (λ ys. ys ++ option_to_list c.target_of_member.result) c.loop-entry.invariant
    ∙ ap (λ o. reached (target_node) ns (take i xs) ++ option_to_list o) c.target_of_member.ensures
    ∙ sym (reached_more (target_node) ns xs i _ c.loop-entry-test.true)
