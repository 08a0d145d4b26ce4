use Rattle.std.proofs.Common.{take, refl}
use Rattle.clf_tree.specs.declared.instance.Node.{Node}
use Rattle.instance_tables.proofs.Placing.{members_more, members_all}
use Rattle.instance_tables.proofs.node_set.marks.Goals as goal

default_node : Node
default_node = record { clafer = 0; number = 0 }

pub loop-node-preserved : goal.loop-node-preserved
unfolding default_node
loop-node-preserved c = record {
  len = c.mark.ensures.len;
  holds = members_more c.args.slots.now.scopes c.args.nodes.now c.args.nodes.now c.loop-node.node-index default_node c.mark.new.marks.items refl c.loop-node-test.true
      (c.mark.ensures.marked (take c.loop-node.node-index c.args.nodes.now) c.loop-node.invariant.holds);
}

pub returns : goal.returns
returns c = (
  c.loop-node.invariant.len,
  members_all c.args.slots.now.scopes c.args.nodes.now c.args.nodes.now c.loop-node.node-index c.loop-node.marks.items refl c.loop-node-test.false c.loop-node.invariant.holds,
)
