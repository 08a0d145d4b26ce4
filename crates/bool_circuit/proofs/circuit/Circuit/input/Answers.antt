use Rattle.std.proofs.Common.{rules}
use Rattle.bool_circuit.proofs.Values.{inputs_le, next_input}
use Rattle.bool_circuit.proofs.circuit.Circuit.input.Goals as goal

pub overflow_add-self : goal.overflow_add-self
overflow_add-self c = let e = c.self.invariant.input_count in let few = c.self.invariant.few in let le = inputs_le c.self.inside.gates.keys in search (rules, e, few, le)

pub invariant_of-self-2 : goal.invariant_of-self-2
invariant_of-self-2 c = (next_input _ _ _ _ _ c.self.view_is c.in_ok-wire.ensures.added c.self.invariant c.requires.room).circuit

pub returns-clause-last : goal.returns-clause-last
returns-clause-last c = (next_input _ _ _ _ _ c.self.view_is c.in_ok-wire.ensures.added c.self.invariant c.requires.room).last_of_view

pub returns-clause-gates : goal.returns-clause-gates
returns-clause-gates c = (next_input _ _ _ _ _ c.self.view_is c.in_ok-wire.ensures.added c.self.invariant c.requires.room).gates_of_view
