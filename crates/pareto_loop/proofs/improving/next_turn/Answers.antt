use Rattle.std.proofs.Common.{◌≡◌, false, Bool, List, sym, subst}
use Rattle.clf_tree.specs.Front.{is_better_somewhere}
use Rattle.pareto_loop.specs.declared.improving.Turn.{Turn}
use Rattle.pareto_loop.specs.Searching.{IsTurn}
use Rattle.pareto_loop.proofs.Climbing.{better_is_on, settled_is}
use Rattle.pareto_loop.proofs.improving.next_turn.Goals as goal

pub returns-in_ok-point-in-Found-clause-turn : goal.returns-in_ok-point-in-Found-clause-turn
returns-in_ok-point-in-Found-clause-turn g c =
    better_is_on c.args.task.now.read.now c.args.points.now c.args.climb c.higher-next.result c.in_ok-aim.aim c.in-Found.instance
    c.in_ok-point-in-Found.point c.dominance_ends.ensures c.requires.way c.in_ok-aim.ensures.length
    (subst (λ (ways : List Bool). is_better_somewhere ways c.args.climb.best.vector.values c.in_ok-aim.aim.values ≡ false)
    c.args.task.now.ways_are c.in_ok-aim.ensures.no_worse)
    (rw c.in-Found.is at c.in_ok-instance.ensures.told) c.in_ok-point-in-Found.ensures.witnessed c.in_ok-point-in-Found.ensures.witness
    c.higher-next.ensures

pub returns-in-Empty-clause-turn : goal.returns-in-Empty-clause-turn
returns-in-Empty-clause-turn g c =
    let read = c.args.task.now.read.now in
    let budget = c.args.task.now.budget in
    let points = c.args.points.now in
    let climb = c.args.climb in
    let clauses = c.ask_beyond.new.space.clauses in
    let parts = c.ask_beyond.new.space.parts in
    subst (λ (t : Turn). IsTurn read budget points clauses parts climb t) (sym c.settled.ensures)
    (settled_is read budget points clauses parts climb.best climb.stride climb.steps c.in_ok-aim.aim c.in-Empty.field-0
    c.requires.way c.in_ok-aim.ensures.plain (rw c.in-Empty.is at c.in_ok-instance.ensures.told))
