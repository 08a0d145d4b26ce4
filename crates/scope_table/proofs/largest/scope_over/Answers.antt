use Rattle.std.proofs.Common.{◌∙◌, sym}
use Rattle.scope_table.proofs.Adding.{parent_within}
use Rattle.scope_table.proofs.Rounds.{over_nested}
use Rattle.scope_table.proofs.largest.scope_over.Goals as goal

pub bounds-totals-parent : goal.bounds-totals-parent
bounds-totals-parent c = rw c.requires.long (parent_within c.args.clafers.now c.args.clafer c.in-Some-parent.parent c.get-own.result.now c.requires.closed c.get-own.ensures c.in-Some-parent.is)

pub returns-in-Some-parent : goal.returns-in-Some-parent
returns-in-Some-parent c = λ of are.
    let clafers = c.args.clafers.now in
    let k = c.get-own.result.now in
    let table = c.requires.given c.args.clafer in
    c.told-in-Some-parent.ensures
    ∙ over_nested clafers c.args.given.now of c.args.clafer k c.in-Some-parent.parent c.most_times-most.result c.saturating_mul.result c.args.totals.now c.get-own.ensures c.if-own.false (sym table ∙ c.in_default.is) c.in-Some-parent.is (parent_within clafers c.args.clafer c.in-Some-parent.parent k c.requires.closed c.get-own.ensures c.in-Some-parent.is) are c.saturating_mul.ensures c.most_times-most.ensures
