use Rattle.std.proofs.Common.{arith}
use Rattle.set_bits.proofs.Distinct.{leading_all}
use Rattle.set_bits.proofs.tests.images_agree.Goals as goal

pub image-requires-clause-room : goal.image-requires-clause-room
image-requires-clause-room c = omega (arith, leading_all c.in_ok-set.set c.in_ok-edges.edges, c.in_ok-edges.ensures.len, c.in_ok-circuit.ensures.few)
