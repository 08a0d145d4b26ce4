use Rattle.std.proofs.Common.{◌≡◌, ◌-◌, ◌+◌, length, suc, ap, sym, ◌∙◌, true≢false, arith}
use Rattle.std.proofs.lemmas.Grind.{common_steps}
use Rattle.instance_text.proofs.Pieces.{turn_kept}
use Rattle.instance_text.proofs.lines.lines_read.Goals as goal

pub loop-turn-preserved : goal.loop-turn-preserved
loop-turn-preserved c =
    let next : length c.args.text.now - c.loop-turn._turn ≡ suc (length c.args.text.now - (c.loop-turn._turn + 1)) = omega (arith, c.loop-turn-test.true) in
    turn_kept c.args.names.now c.loop-turn.lines.items c.push.new.self.items c.loop-turn.rest.now c.rest_of-rest.result.now _ _ c.in-Some.used c.in-Some.line _ c.loop-turn.invariant next
    (λ e. grind (arith, common_steps, e, c.is_empty.ensures, c.if-is_empty.false)) (sym c.line_read.ensures.exact ∙ c.in-Some.is) c.rest_of-rest.ensures c.in_ok-push-in-Some.ensures.items
