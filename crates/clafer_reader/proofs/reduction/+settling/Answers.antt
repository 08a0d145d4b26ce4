use Rattle.std.proofs.Common.{◌≡◌, sym, ◌∙◌, subst, IfOk}
use Rattle.clafer_reader.proofs.Reductions.{settles, settles_on}
use Rattle.clafer_reader.proofs.reduction.+settling.Goals as goal

pub settle-returns-then-is_going_on : goal.settle-returns-then-is_going_on
settle-returns-then-is_going_on t c =
    subst (λ o. IfOk c.go_on.result (λ next. next ≡ o))
    (sym (settles_on c.args.frames c.args.x c.args.level c.args.token.now.kind c.args.token.now.at (sym c.is_going_on.ensures ∙ c.if-is_going_on.true)))
    c.go_on.ensures

pub settle-returns : goal.settle-returns
settle-returns t c =
    subst (λ o. IfOk c.end.result (λ next. next ≡ o))
    (sym (settles c.args.frames c.args.x c.args.level c.args.token.now.kind c.args.token.now.at (sym c.is_going_on.ensures ∙ c.if-is_going_on.false)))
    c.end.ensures
