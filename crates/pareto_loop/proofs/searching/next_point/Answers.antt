use Rattle.std.proofs.Common.{sym, subst}
use Rattle.pareto_loop.specs.declared.searching.Next.{Next}
use Rattle.pareto_loop.specs.Searching.{IsNext}
use Rattle.pareto_loop.proofs.Ending.{last_is, full_is_next}
use Rattle.pareto_loop.proofs.searching.next_point.Goals as goal

pub returns-then-points-most-clause-next : goal.returns-then-points-most-clause-next
returns-then-points-most-clause-next g c =
    let read = c.args.task.now.read.now in
    let budget = c.args.task.now.budget in
    let points = c.args.points.now in
    let clauses = c.improve_from.new.space.clauses in
    let parts = c.improve_from.new.space.parts in
    subst (λ (n : Next). IsNext read c.args.most budget points clauses parts n) (sym c.as_full.ensures)
    (full_is_next read c.args.most budget points clauses parts c.in_ok-improved-in-Found.improved
    c.requires.few c.if-points-most.true c.in_ok-improved-in-Found.ensures.improved)

pub returns-in-Empty-clause-next : goal.returns-in-Empty-clause-next
returns-in-Empty-clause-next g c =
    last_is c.args.task.now.read.now c.args.points.now c.ask_beyond.new.space.clauses c.ask_beyond.new.space.parts c.in-Empty.halt
    c.requires.points (rw c.in-Empty.is at c.in_ok-halt.ensures.told)
