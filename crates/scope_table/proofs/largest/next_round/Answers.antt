use Rattle.std.proofs.Common.{get_or, ap, ◌∙◌, arith}
use Rattle.scope_table.specs.Largest.{scope_over, told}
use Rattle.scope_table.proofs.Rounds.{round_more, whole_round, long_more}
use Rattle.scope_table.proofs.largest.next_round.Goals as goal

pub loop-clafer-preserved : goal.loop-clafer-preserved
loop-clafer-preserved c =
    let clafers = c.args.clafers.now in
    let pushed = c.in_ok-push.ensures.items in
    record {
      long = long_more c.loop-clafer.next.items c.push.new.self.items c.scope_over.result c.loop-clafer.clafer pushed c.loop-clafer.invariant.long;
      round =
          round_more (λ x. told (scope_over clafers c.args.given.now (λ d. get_or c.args.of.now d 0) x)) c.loop-clafer.next.items c.push.new.self.items c.scope_over.result c.loop-clafer.clafer
          pushed c.loop-clafer.invariant.long c.loop-clafer.invariant.round
          (c.scope_over.ensures (λ d. get_or c.args.of.now d 0) (λ d lt. ap (λ xs. get_or xs d 0) c.as_slice.ensures.value ∙ c.in_ok-totals.ensures.totals d lt));
    }

pub returns-clause-round : goal.returns-clause-round
returns-clause-round c =
    whole_round c.args.clafers.now c.args.given.now (λ d. get_or c.args.of.now d 0) c.loop-clafer.next.items c.loop-clafer.clafer c.loop-clafer.invariant.long
    (omega (arith, c.len-clafer-end.ensures, c.loop-clafer-test.false)) c.loop-clafer.invariant.round
