use Rattle.std.proofs.Common.{arith}
use Rattle.std.proofs.lemmas.Grind.{common_steps}
use Rattle.bool_circuit.specs.Circuit.{wire_value}
use Rattle.bool_circuit.proofs.Values.{length-values}
use Rattle.bool_circuit.proofs.circuit.Circuit.value_of.Goals as goal

pub index-requires : goal.index-requires
index-requires c = let l = length-values c.args.bits.now c.args.self.now in grind (arith, common_steps, l)

pub returns : goal.returns
unfolding wire_value
returns c = let l = length-values c.args.bits.now c.args.self.now in grind (arith, common_steps, l)
