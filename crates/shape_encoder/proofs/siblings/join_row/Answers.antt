use Rattle.std.proofs.Common.{◌<◌, length, sym, ap, ◌∙◌, subst, arith}
use Rattle.std.specs.List.{list_any}
use Rattle.set_bits.specs.Reaching.{IsTableOf}
use Rattle.shape_encoder.specs.Comparing.{joins}
use Rattle.shape_encoder.proofs.Compared.{all_joined}
use Rattle.shape_encoder.proofs.Seen.{row_here, no_row}
use Rattle.shape_encoder.proofs.siblings.join_row.Goals as goal

pub returns-then-parent-len-clause-value : goal.returns-then-parent-len-clause-value
returns-then-parent-len-clause-value c = λ bits. c.in_ok-nothing.ensures.value bits ∙ sym (no_row c.args.circuit.now c.args.rows.now.items c.args.parent bits c.args.targets.now (omega (arith, c.if-parent-len.true, c.len.ensures)))

pub join-requires-clause-table_in : goal.join-requires-clause-table_in
join-requires-clause-table_in c =
    let inside : c.args.parent < length c.args.rows.now.items = omega (arith, c.if-parent-len.false, c.len.ensures) in
    subst (IsTableOf c.args.circuit.now) (row_here c.args.rows.now.items c.args.parent c.index-row.result.now inside c.index-row.ensures) (c.requires.rows_in.at c.args.parent)

pub returns-clause-value : goal.returns-clause-value
returns-clause-value c = λ bits.
    let inside : c.args.parent < length c.args.rows.now.items = omega (arith, c.if-parent-len.false, c.len.ensures) in
    all_joined c.args.circuit.now c.join.new.circuit c.index-row.result.now.items c.args.targets.now c.in_ok-joined.joined c.in_ok-joined.ensures.joined bits
    ∙ ap (λ row. list_any (joins c.args.circuit.now row bits) c.args.targets.now) (sym (row_here c.args.rows.now.items c.args.parent c.index-row.result.now inside c.index-row.ensures))
