use Rattle.std.proofs.Common.{◌&&◌, ap, ◌∙◌}
use Rattle.bool_circuit.specs.Circuit.{wire_value}
use Rattle.shape_encoder.specs.Comparing.{clafer_from}
use Rattle.shape_encoder.proofs.Compared.{bits_by}
use Rattle.shape_encoder.proofs.Meeting.{uncounted_value, counted_value, counted_is}
use Rattle.shape_encoder.proofs.targets.and_clafer.Goals as goal

pub returns-then-not-is_counted-clause-value : goal.returns-then-not-is_counted-clause-value
returns-then-not-is_counted-clause-value c = λ bits. uncounted_value c.args.clafers.now c.args.layout.now c.args.clafer (wire_value c.args.circuit.now c.args.all bits) (counted_is c.args.clafers.now c.args.clafer c.is_counted.result c.is_counted.ensures c.if-not-is_counted.true) bits

pub and_single-requires-clause-bits : goal.and_single-requires-clause-bits
and_single-requires-clause-bits c = bits_by (clafer_from c.args.layout.now) c.args.circuit.now c.args.layout.now.targets c.args.edges.now c.args.clafer c.requires.edges_are c.requires.target_bits

pub returns-clause-value : goal.returns-clause-value
returns-clause-value c = λ bits.
    c.in_ok-right.ensures.value bits
    ∙ ap (λ b. wire_value c.args.circuit.now c.args.all bits && b)
    (counted_value c.args.clafers.now c.args.layout.now c.args.clafer c.args.edges.now (counted_is c.args.clafers.now c.args.clafer c.is_counted.result c.is_counted.ensures c.if-not-is_counted.false) c.requires.edges_are bits)
