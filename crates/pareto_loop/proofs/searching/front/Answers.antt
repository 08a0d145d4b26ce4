use Rattle.std.proofs.Common.{List, sym, subst}
use Rattle.clf_tree.specs.declared.vector.Point.{Point}
use Rattle.model_reader.specs.declared.reader.Read.{Read}
use Rattle.pareto_loop.specs.declared.searched.Searched.{Searched}
use Rattle.pareto_loop.specs.Searched.{IsSearched}
use Rattle.pareto_loop.specs.Searching.{IsOneMore}
use Rattle.pareto_loop.proofs.Ending.{full_is}
use Rattle.pareto_loop.proofs.searching.front.Goals as goal

pub returns-in-Full-clause-searched : goal.returns-in-Full-clause-searched
returns-in-Full-clause-searched g c =
    let read = c.in_ok-task.task.read.now in
    let clauses = c.next_point.new.space.clauses in
    let parts = c.next_point.new.space.parts in
    let points = c.loop-points.points.items in
    subst (λ (r : Read). IsSearched r c.args.most c.args.budget clauses parts c.full.result) c.loop-points.invariant.read
    (subst (λ (s : Searched). IsSearched read c.args.most c.args.budget clauses parts s) (sym c.full.ensures)
    (full_is read c.args.most c.args.budget points clauses parts c.in-Full.instance c.next_point.new.questions
    c.loop-points.invariant.points (subst (λ (ps : List Point). IsOneMore read c.args.most ps c.in-Full.instance) c.as_slice.ensures.value
    (rw c.in-Full.is at c.in_ok-point.ensures.next))))
