use Rattle.std.proofs.Common.{get_or, refl}
use Rattle.scope_table.proofs.ClaferByClafer.{below_more, below_abstract}
use Rattle.scope_table.proofs.totals.add_scope.Goals as goal

pub returns-then-get-clause-below : goal.returns-then-get-clause-below
returns-then-get-clause-below c = below_abstract c.args.clafers.now (λ x. get_or c.args.of.now x 0) c.args.clafer c.args.totals.now c.get.result.now c.get.ensures c.if-get.true

pub returns-clause-below : goal.returns-clause-below
returns-clause-below c = λ before.
    below_more c.args.clafers.now (λ x. get_or c.args.of.now x 0) c.args.clafer (get_or c.args.of.now c.args.clafer 0) c.args.totals.now c.add_above.new.totals c.get.result.now c.requires.closed c.requires.acyclic
    c.requires.within c.get.ensures c.if-get.false refl before c.add_above.ensures.added
