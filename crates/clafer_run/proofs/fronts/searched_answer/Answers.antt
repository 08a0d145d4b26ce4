-- A search that leaves a question has found a whole front or a part of one, and any other one that is too long.
use Rattle.clafer_run.proofs.Halting.{halted_of, too_long_of}
use Rattle.clafer_run.proofs.fronts.searched_answer.Goals as goal

pub halted-requires : goal.halted-requires
halted-requires c =
    let left = c.into_spending-left.ensures in
    halted_of c.refuted_is_unsatisfiable.ensures c.args.read.now c.args.request.now.budget c.args.space.clauses c.args.space.parts
    c.args.searched c.in-Some.field-0 c.into_spending-left.result c.requires c.in-Some.is
    left.question left.clauses left.parts left.claim

pub too_long-requires : goal.too_long-requires
too_long-requires c =
    too_long_of c.args.read.now c.args.request.now.budget c.args.space.clauses c.args.space.parts c.args.searched c.requires c.in-None.is
