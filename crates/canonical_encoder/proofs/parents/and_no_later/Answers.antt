use Rattle.canonical_encoder.proofs.Edges.{compared_more}
use Rattle.canonical_encoder.proofs.parents.and_no_later.Goals as goal

pub loop-at-preserved : goal.loop-at-preserved
loop-at-preserved c =
    compared_more c.args.circuit.now c.loop-at.circuit c.compare_next.new.circuit c.args.earlier.now c.args.later.now c.args.all
    c.loop-at.at c.get-first.result.now c.get-second.result.now c.loop-at.compared c.in_ok-compared.compared
    c.requires.earlier_bits c.requires.later_bits c.get-first.ensures c.get-second.ensures
    c.loop-at.invariant c.in_ok-compared.ensures.extends c.in_ok-compared.ensures.next
