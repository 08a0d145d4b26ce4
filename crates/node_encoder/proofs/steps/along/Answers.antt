use Rattle.std.proofs.Common.{◌&&◌, ◌*◌, ◌∙◌, length, ap, arith}
use Rattle.bool_circuit.proofs.Extending.{extends_within}
use Rattle.set_bits.specs.Sets.{leading}
use Rattle.told_constraints.specs.Told.{is_listed}
use Rattle.node_encoder.specs.Gathering.{edges_of}
use Rattle.node_encoder.specs.Listing.{room}
use Rattle.node_encoder.proofs.Joining.{step_bits, step_room, step_value}
use Rattle.node_encoder.proofs.steps.along.Goals as goal

pub image-requires-clause-edges_in : goal.image-requires-clause-edges_in
image-requires-clause-edges_in c = c.in_ok-edges.ensures.wires c.args.circuit.now (step_bits c.args.circuit.now c.args.ground.now.layout.now c.args.step c.requires.laid)

pub image-requires-clause-room : goal.image-requires-clause-room
image-requires-clause-room c =
    let l = step_room c.args.ground.now.core.now.clafers c.args.ground.now.scopes.now c.args.ground.now.layout.now (edges_of c.args.ground.now.layout.now c.args.step) c.args.ks.now c.args.of.now c.in_ok-edges.edges c.args.ground.now.fits c.in_ok-edges.ensures in
    let r = c.requires.room in
    omega (arith, l, r)

pub returns-clause-set : goal.returns-clause-set
returns-clause-set c = c.in_ok-set.ensures.sets c.image.new.circuit c.in_ok-reached.ensures.set

pub returns-clause-listed : goal.returns-clause-listed
returns-clause-listed c = c.in_ok-set.ensures.listed

pub returns-clause-value : goal.returns-clause-value
returns-clause-value c = λ bits s.
    c.in_ok-set.ensures.value c.image.new.circuit bits s ∙ ap (λ b. is_listed c.args.ground.now.layout.now c.args.ks.now s && b) (c.in_ok-reached.ensures.value bits s)
    ∙ step_value c.args.circuit.now c.args.ground.now.layout.now c.args.step c.args.ks.now c.args.of.now c.in_ok-edges.edges bits s c.requires.laid c.in_ok-edges.ensures

pub returns-clause-extends : goal.returns-clause-extends
returns-clause-extends c =
    extends_within c.args.circuit.now c.image.new.circuit (2 * leading c.args.of.now c.in_ok-edges.edges) (4 * (length c.args.of.now * room c.args.ground.now.scopes.now c.args.ks.now))
    (step_room c.args.ground.now.core.now.clafers c.args.ground.now.scopes.now c.args.ground.now.layout.now (edges_of c.args.ground.now.layout.now c.args.step) c.args.ks.now c.args.of.now c.in_ok-edges.edges c.args.ground.now.fits c.in_ok-edges.ensures) c.in_ok-reached.ensures.extends

pub returns-in_err-reached-clause-extends : goal.returns-in_err-reached-clause-extends
returns-in_err-reached-clause-extends c =
    extends_within c.args.circuit.now c.image.new.circuit (2 * leading c.args.of.now c.in_ok-edges.edges) (4 * (length c.args.of.now * room c.args.ground.now.scopes.now c.args.ks.now))
    (step_room c.args.ground.now.core.now.clafers c.args.ground.now.scopes.now c.args.ground.now.layout.now (edges_of c.args.ground.now.layout.now c.args.step) c.args.ks.now c.args.of.now c.in_ok-edges.edges c.args.ground.now.fits c.in_ok-edges.ensures) c.in_err-reached.ensures.extends

pub returns-in_err-set-clause-extends : goal.returns-in_err-set-clause-extends
returns-in_err-set-clause-extends c =
    extends_within c.args.circuit.now c.image.new.circuit (2 * leading c.args.of.now c.in_ok-edges.edges) (4 * (length c.args.of.now * room c.args.ground.now.scopes.now c.args.ks.now))
    (step_room c.args.ground.now.core.now.clafers c.args.ground.now.scopes.now c.args.ground.now.layout.now (edges_of c.args.ground.now.layout.now c.args.step) c.args.ks.now c.args.of.now c.in_ok-edges.edges c.args.ground.now.fits c.in_ok-edges.ensures) c.in_ok-reached.ensures.extends
