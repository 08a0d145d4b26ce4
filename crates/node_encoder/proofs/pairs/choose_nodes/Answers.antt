use Rattle.std.proofs.Common.{Bool, ◌&&◌, ◌+◌, ◌*◌, ◌∙◌, if◌then◌else◌, length, ap, arith}
use Rattle.bool_circuit.specs.Circuit.{wire_value}
use Rattle.bool_circuit.proofs.Extending.{extends_within}
use Rattle.set_bits.specs.Sets.{is_in}
use Rattle.told_constraints.specs.Told.{is_listed}
use Rattle.node_encoder.specs.Listing.{room}
use Rattle.node_encoder.proofs.Counting.{few_members}
use Rattle.node_encoder.proofs.Cutting.{chosen_cut, either_passes}
use Rattle.node_encoder.proofs.pairs.choose_nodes.Goals as goal

pub choose_sets-requires-clause-a_set : goal.choose_sets-requires-clause-a_set
choose_sets-requires-clause-a_set c = c.in_ok-left.ensures.sets c.args.circuit.now c.requires.a_set

pub choose_sets-requires-clause-b_set : goal.choose_sets-requires-clause-b_set
choose_sets-requires-clause-b_set c = c.in_ok-right.ensures.sets c.args.circuit.now c.requires.b_set

pub choose_sets-requires-clause-room : goal.choose_sets-requires-clause-room
choose_sets-requires-clause-room c =
    let l = few_members c.args.ground.now.core.now.clafers c.args.ground.now.scopes.now c.args.ground.now.layout.now c.args.ks.now c.in_ok-left.left c.args.ground.now.fits (c.in_ok-left.ensures.sets c.args.circuit.now c.requires.a_set).ascending c.in_ok-left.ensures.listed in
    let r = few_members c.args.ground.now.core.now.clafers c.args.ground.now.scopes.now c.args.ground.now.layout.now c.args.ks.now c.in_ok-right.right c.args.ground.now.fits (c.in_ok-right.ensures.sets c.args.circuit.now c.requires.b_set).ascending c.in_ok-right.ensures.listed in
    let h = c.requires.room in
    omega (arith, l, r, h)

pub returns-clause-listed : goal.returns-clause-listed
returns-clause-listed c = either_passes (is_listed c.args.ground.now.layout.now c.args.ks.now) c.in_ok-left.left c.in_ok-right.right c.in_ok-set.set c.in_ok-left.ensures.listed c.in_ok-right.ensures.listed c.in_ok-set.ensures.slots

pub returns-clause-value : goal.returns-clause-value
returns-clause-value c = λ bits s.
    let listed : Bool = is_listed c.args.ground.now.layout.now c.args.ks.now s in
    let pick : Bool = wire_value c.args.circuit.now c.args.pick bits in
    let a : Bool = is_in c.args.circuit.now c.args.a.now s bits in
    let b : Bool = is_in c.args.circuit.now c.args.b.now s bits in
    c.in_ok-set.ensures.value bits s
    ∙ ap (λ (x : Bool). if pick then x else is_in c.args.circuit.now c.in_ok-right.right s bits) (c.in_ok-left.ensures.value c.args.circuit.now bits s)
    ∙ ap (λ (x : Bool). if pick then listed && a else x) (c.in_ok-right.ensures.value c.args.circuit.now bits s)
    ∙ chosen_cut listed pick a b

pub returns-clause-extends : goal.returns-clause-extends
returns-clause-extends c =
    let l = few_members c.args.ground.now.core.now.clafers c.args.ground.now.scopes.now c.args.ground.now.layout.now c.args.ks.now c.in_ok-left.left c.args.ground.now.fits (c.in_ok-left.ensures.sets c.args.circuit.now c.requires.a_set).ascending c.in_ok-left.ensures.listed in
    let r = few_members c.args.ground.now.core.now.clafers c.args.ground.now.scopes.now c.args.ground.now.layout.now c.args.ks.now c.in_ok-right.right c.args.ground.now.fits (c.in_ok-right.ensures.sets c.args.circuit.now c.requires.b_set).ascending c.in_ok-right.ensures.listed in
    extends_within c.args.circuit.now c.choose_sets.new.circuit (2 * (length c.in_ok-left.left + length c.in_ok-right.right) + 1) (4 * room c.args.ground.now.scopes.now c.args.ks.now + 1) (omega (arith, l, r)) c.in_ok-set.ensures.extends

pub returns-in_err-set-clause-extends : goal.returns-in_err-set-clause-extends
returns-in_err-set-clause-extends c =
    let l = few_members c.args.ground.now.core.now.clafers c.args.ground.now.scopes.now c.args.ground.now.layout.now c.args.ks.now c.in_ok-left.left c.args.ground.now.fits (c.in_ok-left.ensures.sets c.args.circuit.now c.requires.a_set).ascending c.in_ok-left.ensures.listed in
    let r = few_members c.args.ground.now.core.now.clafers c.args.ground.now.scopes.now c.args.ground.now.layout.now c.args.ks.now c.in_ok-right.right c.args.ground.now.fits (c.in_ok-right.ensures.sets c.args.circuit.now c.requires.b_set).ascending c.in_ok-right.ensures.listed in
    extends_within c.args.circuit.now c.choose_sets.new.circuit (2 * (length c.in_ok-left.left + length c.in_ok-right.right) + 1) (4 * room c.args.ground.now.scopes.now c.args.ks.now + 1) (omega (arith, l, r)) c.in_err-set.ensures.extends
