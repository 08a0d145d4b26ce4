-- The slots of the set are those of the nodes that the form means.
use Rattle.std.proofs.Common.{◌∙◌, sym, ap, subst}
use Rattle.std.specs.Prelude.{IsTrue}
use Rattle.clf_tree.specs.Core.{core}
use Rattle.clf_tree.specs.Nodes.{has_node}
use Rattle.set_bits.specs.Fitting.{slot}
use Rattle.told_constraints.specs.Formed.{is_formed}
use Rattle.told_constraints.specs.Standing.{clafers_at}
use Rattle.told_constraints.specs.Told.{told, told_set}
use Rattle.constraint_encoder.proofs.Shown.{as_many_clafers, live_slots_stand, node_told}
use Rattle.constraint_encoder.proofs.meanings.nodes.Goals as goal

pub encode_nodes-requires-clause-formed : goal.encode_nodes-requires-clause-formed
encode_nodes-requires-clause-formed c =
    let layout = c.args.ground.now.layout.now in
    subst (λ n. IsTrue (is_formed (core c.args.expr.now) n)) (as_many_clafers layout c.args.bound.now)
    (c.sound_expressions_are_formed.ensures c.args.ground.now.core.now.clafers c.args.ground.now.scopes.now
    (core c.args.expr.now) (clafers_at layout c.args.bound.now) c.requires.sound)

pub returns-clause-value : goal.returns-clause-value
returns-clause-value c = λ bits i s l.
    let layout = c.args.ground.now.layout.now in
    c.in_ok-set.ensures.nodes.value bits i
    ∙ sym (node_told c.args.ground.now.core.now.clafers c.args.ground.now.scopes.now layout
    (told_set (told layout bits (core c.args.expr.now) c.args.bound.now)) i c.args.ground.now.fits l)
    ∙ ap (λ ns. has_node ns (slot layout.slots i))
    (c.bits_tell_the_meaning.ensures.nodes c.args.ground.now.core.now.clafers c.args.ground.now.scopes.now layout
    bits (core c.args.expr.now) (clafers_at layout c.args.bound.now) c.args.bound.now c.args.ground.now.fits
    c.requires.empty s.shaped c.requires.sound (live_slots_stand layout bits c.args.bound.now s.live)
    c.requires.set)
