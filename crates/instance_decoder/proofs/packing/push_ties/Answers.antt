use Rattle.std.proofs.Common.{arith, ap, ◌∙◌, false}
use Rattle.set_bits.specs.Showing.{is_tied}
use Rattle.instance_decoder.specs.Packing.{end_in}
use Rattle.std.specs.Option.{option_map_or}
use Rattle.clf_tree.specs.Nodes.{same_node}
use Rattle.instance_decoder.proofs.Filling.{mapped_more, mapped_all, ends_in, tied_at}
use Rattle.instance_decoder.proofs.packing.push_ties.Goals as goal

pub get-entry-requires : goal.get-entry-requires
get-entry-requires c = omega (arith, (ends_in c.args.slots.now c.args.edges.now c.loop-at.at c.get-edge.result.now c.requires.between c.get-edge.ensures).0, c.requires.sized)

pub get-node-requires : goal.get-node-requires
get-node-requires c = (ends_in c.args.slots.now c.args.edges.now c.loop-at.at c.get-edge.result.now c.requires.between c.get-edge.ensures).1

pub loop-at-preserved : goal.loop-at-preserved
loop-at-preserved c = λ entries t.
    mapped_more (is_tied (end_in c.args.tie entries) c.args.slots.now) c.args.edges.now c.loop-at.at c.get-edge.result.now c.args.bits.now c.loop-at.bits c.push.new.self c.is_end.result c.get-edge.ensures
    (c.is_end.ensures ∙ ap (λ o. option_map_or (same_node c.get-node.result.now) o false) c.end_at.ensures ∙ tied_at c.args.tie entries c.args.slots.now c.args.table.now c.get-edge.result.now c.get-entry.result.now c.get-node.result.now t c.get-entry.ensures c.get-node.ensures)
    (c.loop-at.invariant entries t) c.in_ok-push.ensures.ok

pub returns : goal.returns
returns c = λ entries t. mapped_all (is_tied (end_in c.args.tie entries) c.args.slots.now) c.args.edges.now c.loop-at.at c.args.bits.now c.loop-at.bits (omega (arith, c.len-at-end.ensures)) (c.loop-at.invariant entries t)
