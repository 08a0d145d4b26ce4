use Rattle.std.proofs.Common.{◌∙◌, ap, length}
use Rattle.std.proofs.lemmas.List.{length-map}
use Rattle.set_bits.specs.Fitting.{value_width}
use Rattle.clf_tree.specs.CoreWeights.{range_width}
use Rattle.number_encoder.specs.Values.{part_for}
use Rattle.number_encoder.proofs.Ranges.{range_some, width_same}
use Rattle.number_encoder.proofs.Membered.{parts_of_told, parts_of_right, parts_of_narrow}
use Rattle.number_encoder.proofs.parts.parts_of.Goals as goal

pub returns-clause-parts : goal.returns-clause-parts
returns-clause-parts c =
    parts_of_right c.args.circuit.now c.constant.new.self c.args.ground.now.layout.now c.in_ok-none.none c.args.set.now c.in_ok-parts.parts 1 c.in_ok-parts.ensures c.requires.set c.requires.laid.values c.in_ok-none.ensures.extends c.in_ok-none.ensures.wire

pub returns-clause-narrow : goal.returns-clause-narrow
returns-clause-narrow c =
    parts_of_narrow c.args.ground.now.layout.now c.in_ok-none.none c.args.set.now c.in_ok-parts.parts (value_width c.args.ground.now.scopes.now) (range_width c.args.ground.now.scopes.now) c.in_ok-parts.ensures (range_some c.args.ground.now.scopes.now) (width_same c.args.ground.now.scopes.now) c.args.ground.now.fits.widths

pub returns-clause-few : goal.returns-clause-few
returns-clause-few c = ap length c.in_ok-parts.ensures ∙ length-map c.args.set.now (part_for c.args.ground.now.layout.now c.in_ok-none.none)

pub returns-clause-values : goal.returns-clause-values
returns-clause-values c =
    parts_of_told c.args.circuit.now c.constant.new.self c.args.ground.now.layout.now c.in_ok-none.none c.args.set.now c.in_ok-parts.parts 1 c.in_ok-parts.ensures c.requires.set c.requires.laid.values c.in_ok-none.ensures.extends c.in_ok-none.ensures.value
