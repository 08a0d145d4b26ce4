use Rattle.name_tables.proofs.Stepping.{all_listed}
use Rattle.name_tables.proofs.children.children_named.Goals as goal

pub returns-in-Some : goal.returns-in-Some
returns-in-Some c =
    all_listed c.args.clafers.now c.args.name.now c.args.ks.now c.in-Some.found.items c.in_order.result (rw c.in-Some.is at c.in_ok-found.ensures) c.in_order.ensures.rises c.in_order.ensures.same
