use Rattle.std.proofs.Common.{length, get_or, ap, ◌∙◌, sym}
use Rattle.scope_table.specs.Refusals.{large_refusals, refused}
use Rattle.clf_tree.specs.declared.model.Clafer.{Clafer}
use Rattle.scope_table.proofs.Firsts.{first_of_here, first_of_on, got}
use Rattle.scope_table.proofs.Lists.{large_here, none_large}
use Rattle.scope_table.proofs.stage.large_refusal.Goals as goal

pub returns-then-is_large : goal.returns-then-is_large
returns-then-is_large c = λ given known are.
    let clafers = c.args.clafers.now in
    let k = c.index-clafers-clafer.result in
    let found = got clafers c.loop-clafer.clafer k k c.loop-clafer-test.true c.index-clafers-clafer.is in
    c.loop-clafer.invariant given known are
    ∙ first_of_here (large_refusals clafers given) c.loop-clafer.clafer (length clafers) c.refused.result c.loop-clafer-test.true
    (large_here clafers given c.args.table.now c.args.of.now known are c.loop-clafer.clafer k c.refused.result (sym c.is_large.ensures ∙ c.if-is_large.true) found (c.refused.ensures ∙ ap (λ (x : Clafer). refused 83 x.title.at (get_or c.args.of.now c.loop-clafer.clafer 0)) (sym c.index-clafers-clafer.is)))

pub loop-clafer-preserved : goal.loop-clafer-preserved
loop-clafer-preserved c = λ given known are.
    let clafers = c.args.clafers.now in
    c.loop-clafer.invariant given known are
    ∙ first_of_on (large_refusals clafers given) c.loop-clafer.clafer (length clafers) c.loop-clafer-test.true
    (none_large clafers given c.args.table.now c.args.of.now known are c.loop-clafer.clafer (sym c.is_large.ensures ∙ c.if-is_large.false))
