use Rattle.std.proofs.Common.{rules, ◌≡◌, ◌&&◌, true, false, ap, sym, ◌∙◌}
use Rattle.clf_tree.specs.Hierarchy.{is_concrete, is_a}
use Rattle.clf_tree.specs.Nodes.{has_node, nodes_of}
use Rattle.instance_shape.proofs.Owners.{live_owner}
use Rattle.instance_shape.proofs.trees.is_owner.Goals as goal

pub returns-then-not-is_concrete : goal.returns-then-not-is_concrete
returns-then-not-is_concrete c =
    let h : is_concrete c.args.clafers.now c.args.above.clafer ≡ false = search rules in
    sym
    (live_owner c.args.clafers.now c.args.declaring (nodes_of c.args.tables.now.entries) c.args.above
    ∙ ap (λ b. b && is_a c.args.clafers.now c.args.above.clafer c.args.declaring && has_node (nodes_of c.args.tables.now.entries) c.args.above) h)

pub returns-then-not-is_a : goal.returns-then-not-is_a
returns-then-not-is_a c =
    let h : is_concrete c.args.clafers.now c.args.above.clafer ≡ true = search rules in
    let k : is_a c.args.clafers.now c.args.above.clafer c.args.declaring ≡ false = search rules in
    sym
    (live_owner c.args.clafers.now c.args.declaring (nodes_of c.args.tables.now.entries) c.args.above
    ∙ ap (λ b. b && is_a c.args.clafers.now c.args.above.clafer c.args.declaring && has_node (nodes_of c.args.tables.now.entries) c.args.above) h
    ∙ ap (λ b. b && has_node (nodes_of c.args.tables.now.entries) c.args.above) k)

pub returns : goal.returns
returns c =
    let h : is_concrete c.args.clafers.now c.args.above.clafer ≡ true = search rules in
    let k : is_a c.args.clafers.now c.args.above.clafer c.args.declaring ≡ true = search rules in
    c.is_live.ensures
    ∙ sym
    (live_owner c.args.clafers.now c.args.declaring (nodes_of c.args.tables.now.entries) c.args.above
    ∙ ap (λ b. b && is_a c.args.clafers.now c.args.above.clafer c.args.declaring && has_node (nodes_of c.args.tables.now.entries) c.args.above) h
    ∙ ap (λ b. b && has_node (nodes_of c.args.tables.now.entries) c.args.above) k)
