-- The line of a search that ended before the front was whole.
use Rattle.std.proofs.Common.{◌≡◌, ◌++◌, length, OnOk, sym, subst}
use Rattle.clf_tree.specs.declared.vector.FrontEnd.{FrontEnd}
use Rattle.front_report.specs.Points.{ended_line}
use Rattle.front_report.proofs.points.push_ended.Goals as goal

pub returns-in-Spent : goal.returns-in-Spent
returns-in-Spent c =
    subst (λ (e : FrontEnd). OnOk c.push_counted.result
    (c.push_counted.new.text ≡ c.args.text.now ++ ended_line e (length c.args.front.now.points)))
    (sym c.in-Spent.is) (rw c.len-count.ensures at c.push_counted.ensures)

pub returns-in-Full : goal.returns-in-Full
returns-in-Full c =
    subst (λ (e : FrontEnd). OnOk c.push_counted-in-Full.result
    (c.push_counted-in-Full.new.text ≡ c.args.text.now ++ ended_line e (length c.args.front.now.points)))
    (sym c.in-Full.is) (rw c.len-count.ensures at c.push_counted-in-Full.ensures)
