use Rattle.std.proofs.Common.{refl, ◌∙◌, arith}
use Rattle.name_resolver.proofs.Marking.{parent_is, parent_in, child-marked, child-none}
use Rattle.name_resolver.proofs.levels.is_under_marked.Goals as goal

pub bounds-marks-parent : goal.bounds-marks-parent
bounds-marks-parent c =
    let there = parent_in c.args.clafers.now c.args.child c.in-Some.parent c.requires.closed (parent_is c.args.clafers.now c.args.child c.get.result.now c.get.ensures ∙ c.in-Some.is) in
    omega (arith, there, c.requires.sized)

pub returns-in-Some : goal.returns-in-Some
returns-in-Some c = λ ms holds.
    child-marked c.args.clafers.now c.args.child c.in-Some.parent _ c.args.marks.now ms c.requires.closed
    (parent_is c.args.clafers.now c.args.child c.get.result.now c.get.ensures ∙ c.in-Some.is) refl holds

pub returns-in-None : goal.returns-in-None
returns-in-None c = λ ms holds. child-none c.args.clafers.now c.args.child ms (parent_is c.args.clafers.now c.args.child c.get.result.now c.get.ensures ∙ c.in-None.is)
