use Rattle.shape_encoder.proofs.Seen.{row_here, row_marked}
use Rattle.shape_encoder.proofs.siblings.mark_parent.Goals as goal

pub returns-clause-value : goal.returns-clause-value
returns-clause-value c =
    (row_marked c.args.circuit.now c.mark_row.new.circuit c.args.rows.now.items c.grow.new.rows.items c.args.edge c.args.targets.now c.index_mut.result.now c.mark_row.new.row c.in_ok-grow.ensures.same c.in_ok-grow.ensures.there
    (row_here c.grow.new.rows.items c.args.edge.from c.index_mut.result.now c.in_ok-grow.ensures.there c.index_mut.ensures.value) c.requires.rows_in c.in_ok-mark_row.ensures.marked).value
