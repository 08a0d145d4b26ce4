use Rattle.std.proofs.Common.{◌∷◌, [], ◌++◌, sym, ap, ◌∙◌, List, append_assoc}
use Rattle.clf_tree.specs.declared.instance.Node.{Node}
use Rattle.set_bits.specs.Fitting.{nodes_below}
use Rattle.instance_encoder.proofs.Slots.{nodes_more}
use Rattle.instance_encoder.proofs.nodes.push_nodes.Goals as goal

pub loop-number-preserved : goal.loop-number-preserved
loop-number-preserved c =
    let before : List Node = c.args.slots.now in
    let added = nodes_below c.args.clafer c.loop-number.number in
    let node : Node = record { clafer = c.args.clafer; number = c.loop-number.number } in
    c.in_ok-push.ensures.ok ∙ ap (λ (xs : List Node). xs ++ node ∷ []) c.loop-number.invariant ∙ append_assoc before added (node ∷ [])
    ∙ ap (λ (xs : List Node). before ++ xs) (sym (nodes_more c.args.clafer c.loop-number.number))
