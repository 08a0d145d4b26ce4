use Rattle.std.proofs.Common.{arith, ap, length}
use Rattle.instance_encoder.proofs.Wiring.{square_few, product_few}
use Rattle.instance_encoder.proofs.layouts.layout.Goals as goal

pub inputs-requires-clause-room : goal.inputs-requires-clause-room
inputs-requires-clause-room c = omega (arith, ap length c.requires.empty, c.len.ensures, c.in_ok-slots.ensures.few)

pub edges-requires-clause-room : goal.edges-requires-clause-room
edges-requires-clause-room c = omega (arith, square_few (length c.in_ok-slots.slots) c.in_ok-slots.ensures.few, ap length c.requires.empty, c.len.ensures, c.in_ok-slots.ensures.few, c.in_ok-live.ensures.size)

pub edges-requires-2-clause-room : goal.edges-requires-2-clause-room
edges-requires-2-clause-room c =
    omega (arith, square_few (length c.in_ok-slots.slots) c.in_ok-slots.ensures.few, ap length c.requires.empty, c.len.ensures, c.in_ok-slots.ensures.few, c.in_ok-live.ensures.size, c.in_ok-parents.ensures.wired.size, c.in_ok-parents.ensures.wired.few)

pub values-requires-clause-room : goal.values-requires-clause-room
values-requires-clause-room c =
    omega (
      arith,
      square_few (length c.in_ok-slots.slots) c.in_ok-slots.ensures.few,
      product_few (length c.in_ok-slots.slots) c.value_width.result c.in_ok-slots.ensures.few c.value_width.ensures.few,
      ap length c.requires.empty,
      c.len.ensures,
      c.in_ok-slots.ensures.few,
      c.in_ok-live.ensures.size,
      c.in_ok-parents.ensures.wired.size,
      c.in_ok-parents.ensures.wired.few,
      c.in_ok-targets.ensures.wired.size,
      c.in_ok-targets.ensures.wired.few,
    )
