use Rattle.std.proofs.Common.{◌&&◌, length, min, ap, ◌∙◌, arith}
use Rattle.bool_circuit.specs.Circuit.{wire_value}
use Rattle.shape_encoder.specs.Comparing.{siblings_cost, twins_cost, kin_cost}
use Rattle.shape_encoder.proofs.Compared.{costs_same}
use Rattle.shape_encoder.proofs.Chosen.{layout_ties, unpaired_kin, paired_is, kin_cost_is, kin_value}
use Rattle.shape_encoder.proofs.nested.and_kin.Goals as goal

pub returns-then-not-is_paired-clause-value : goal.returns-then-not-is_paired-clause-value
returns-then-not-is_paired-clause-value c = λ bits. unpaired_kin c.args.clafers.now c.args.layout.now c.args.clafer (wire_value c.args.circuit.now c.args.all bits) (paired_is c.args.clafers.now c.args.clafer c.is_paired.result c.is_paired.ensures c.if-not-is_paired.true) bits

pub and_no_two-requires-clause-ties : goal.and_no_two-requires-clause-ties
and_no_two-requires-clause-ties c = layout_ties c.args.circuit.now c.args.layout.now c.args.clafer c.args.kin.now c.args.ties.now.parents.items c.args.ties.now.targets.items c.requires.kin c.requires.parents c.requires.targets c.requires.parent_bits c.requires.target_bits

pub and_no_two-requires-clause-room : goal.and_no_two-requires-clause-room
and_no_two-requires-clause-room c =
    let cost = kin_cost_is c.args.clafers.now c.args.layout.now c.args.ties.now.parents.items c.args.ties.now.targets.items c.args.clafer c.args.kin.now (paired_is c.args.clafers.now c.args.clafer c.is_paired.result c.is_paired.ensures c.if-not-is_paired.false) c.requires.kin c.requires.parents c.requires.targets in
    omega (arith, c.requires.room, cost)

pub returns-in_err-right-clause-extends : goal.returns-in_err-right-clause-extends
returns-in_err-right-clause-extends c =
    costs_same c.args.circuit.now c.and_no_two.new.circuit (min (siblings_cost c.args.ties.now.parents.items c.args.ties.now.targets.items c.args.kin.now) (twins_cost c.args.ties.now.parents.items c.args.ties.now.targets.items c.args.kin.now (length c.args.kin.now))) (kin_cost c.args.clafers.now c.args.layout.now c.args.clafer)
    (kin_cost_is c.args.clafers.now c.args.layout.now c.args.ties.now.parents.items c.args.ties.now.targets.items c.args.clafer c.args.kin.now (paired_is c.args.clafers.now c.args.clafer c.is_paired.result c.is_paired.ensures c.if-not-is_paired.false) c.requires.kin c.requires.parents c.requires.targets) c.in_err-right.ensures.extends

pub returns-clause-extends : goal.returns-clause-extends
returns-clause-extends c =
    costs_same c.args.circuit.now c.and_no_two.new.circuit (min (siblings_cost c.args.ties.now.parents.items c.args.ties.now.targets.items c.args.kin.now) (twins_cost c.args.ties.now.parents.items c.args.ties.now.targets.items c.args.kin.now (length c.args.kin.now))) (kin_cost c.args.clafers.now c.args.layout.now c.args.clafer)
    (kin_cost_is c.args.clafers.now c.args.layout.now c.args.ties.now.parents.items c.args.ties.now.targets.items c.args.clafer c.args.kin.now (paired_is c.args.clafers.now c.args.clafer c.is_paired.result c.is_paired.ensures c.if-not-is_paired.false) c.requires.kin c.requires.parents c.requires.targets) c.in_ok-right.ensures.extends

pub returns-clause-value : goal.returns-clause-value
returns-clause-value c = λ bits.
    c.in_ok-right.ensures.alone.value bits
    ∙ ap (λ b. wire_value c.args.circuit.now c.args.all bits && b)
    (kin_value c.args.layout.now c.args.ties.now.parents.items c.args.ties.now.targets.items c.requires.parents c.requires.targets c.args.clafers.now c.args.clafer c.args.kin.now c.requires.kin (paired_is c.args.clafers.now c.args.clafer c.is_paired.result c.is_paired.ensures c.if-not-is_paired.false) bits)
