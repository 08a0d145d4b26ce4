use Rattle.set_bits.proofs.Staying.{read_stays, wire_stays, wires_keep, edges_stay, set_stays, set_value_stays, reached_stays}
use Rattle.set_bits.proofs.laws.grown_circuits_keep_sets.Goals as goal

pub returns-clause-read : goal.returns-clause-read
returns-clause-read c = read_stays

pub returns-clause-wire : goal.returns-clause-wire
returns-clause-wire c = wire_stays

pub returns-clause-wires : goal.returns-clause-wires
returns-clause-wires c = wires_keep

pub returns-clause-edges : goal.returns-clause-edges
returns-clause-edges c = edges_stay

pub returns-clause-set : goal.returns-clause-set
returns-clause-set c = set_stays

pub returns-clause-value : goal.returns-clause-value
returns-clause-value c = set_value_stays

pub returns-clause-reached : goal.returns-clause-reached
returns-clause-reached c = reached_stays
