use Rattle.std.proofs.Common.{ap, ◌∙◌, arith, get_or}
use Rattle.std.proofs.lemmas.Bool.Decides.{Decides-eqb}
use Rattle.std.proofs.lemmas.Slice.Eq.{slice_eq-Decides}
use Rattle.scope_table.specs.Largest.{scope_over, told}
use Rattle.scope_table.proofs.Rounds.{settled, after_more}
use Rattle.scope_table.proofs.largest.largest.Goals as goal

pub returns-then-eq-clause-scopes : goal.returns-then-eq-clause-scopes
returns-then-eq-clause-scopes c =
    let clafers = c.args.clafers.now in
    let given = c.args.given.now in
    let of = c.loop-round.of.items in
    let next = c.in_ok-next.next.items in
    settled clafers given c.loop-round._round of next (omega (arith, c.loop-round-test.true, c.len-round-end.ensures)) c.loop-round.invariant.after
    (after_more clafers given c.loop-round._round of next c.loop-round.invariant.after (λ x. c.in_ok-next.ensures.round x ∙ ap (λ xs. told (scope_over clafers given (λ d. get_or xs d 0) x)) c.as_slice.ensures.value))
    ((slice_eq-Decides Decides-eqb next of c.eq.result c.eq.ensures).0 c.if-eq.true)

pub loop-round-preserved : goal.loop-round-preserved
loop-round-preserved c =
    let clafers = c.args.clafers.now in
    let given = c.args.given.now in
    record {
      long = c.in_ok-next.ensures.long;
      after =
          after_more clafers given c.loop-round._round c.loop-round.of.items c.in_ok-next.next.items c.loop-round.invariant.after
          (λ x. c.in_ok-next.ensures.round x ∙ ap (λ xs. told (scope_over clafers given (λ d. get_or xs d 0) x)) c.as_slice.ensures.value);
    }
