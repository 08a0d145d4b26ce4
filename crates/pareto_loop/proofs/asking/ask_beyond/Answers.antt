use Rattle.std.proofs.Common.{◌≡◌, ◌+◌, ◌^◌, ◌≤◌, [], length, sym, subst, ◌∙◌}
use Rattle.model_reader.specs.declared.reader.Read.{Read}
use Rattle.question_space.specs.Asking.{ArePosedFor, IsAnswerFor, IsSettled}
use Rattle.pareto_loop.specs.declared.asking.Told.{Told}
use Rattle.pareto_loop.specs.Searching.{IsTold}
use Rattle.pareto_loop.proofs.Telling.{told_is}
use Rattle.pareto_loop.proofs.asking.ask_beyond.Goals as goal

pub returns-clause-told : goal.returns-clause-told
returns-clause-told g c =
    let read = c.args.task.now.read.now in
    let budget = c.args.task.now.budget in
    let points = c.args.points.now in
    let same = c.ask.ensures.read ∙ c.requires.same in
    let question = c.in_ok-asked.asked in
    let clauses = c.ask.new.self.clauses in
    let parts = c.ask.new.self.parts in
    let answer = c.in_ok-answer.answer in
    subst (λ (t : Told). IsTold read budget points c.args.improve clauses parts t) (sym c.with_question-told.ensures)
    (told_is read budget points question c.args.improve clauses parts answer
    c.requires.ordered c.in_ok-asked.ensures.found c.in_ok-asked.ensures.count c.in_ok-asked.ensures.improve
    (subst (λ (r : Read). ArePosedFor r question clauses.clauses parts) same c.in_ok-answer.ensures.posed)
    (subst (λ (r : Read). IsAnswerFor r question budget clauses.clauses answer) same c.in_ok-answer.ensures.answer)
    (subst (λ (r : Read). r.model.goals ≡ [] → length question.found ≤ 1 → 3 ^ (r.weight + 24) ≤ budget → IsSettled answer)
    same c.in_ok-answer.ensures.enough_without_goals))
