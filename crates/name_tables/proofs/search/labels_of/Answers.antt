use Rattle.std.proofs.Common.{arith}
use Rattle.name_tables.specs.Labels.{label_at}
use Rattle.name_tables.proofs.Reaching.{far_enough, nothing_new}
use Rattle.name_tables.proofs.search.labels_of.Goals as goal

pub returns-then-is_empty : goal.returns-then-is_empty
returns-then-is_empty c = λ name is p.
    nothing_new c.args.clafers.now name c.loop-steps.search.last c.loop-steps.steps (λ q. label_at c.loop-steps.search.labels q) c.loop-steps.invariant.some
    (c.is_empty.ensures.0 c.if-is_empty.true) (c.loop-steps.invariant.level name is) p

pub loop-steps-preserved : goal.loop-steps-preserved
loop-steps-preserved c = record {
  some = omega (arith, c.loop-steps.invariant.some);
  level = λ name is. c.in_ok-search-2.ensures name (c.loop-steps.invariant.level name is);
}

pub returns : goal.returns
returns c = λ name is p.
    far_enough c.args.clafers.now name c.loop-steps.search.last c.loop-steps.steps (λ q. label_at c.loop-steps.search.labels q)
    (omega (arith, c.len-steps-end.ensures, c.loop-steps-test.false)) (c.loop-steps.invariant.level name is) p
