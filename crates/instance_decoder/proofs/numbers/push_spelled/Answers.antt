use Rattle.std.proofs.Common.{arith, rules, ap, sym, ◌∙◌, ◌+◌, ◌-◌, ◌≡◌, subst}
use Rattle.std.specs.Prelude.{pos, ◌+ℤ◌, ◌*ℤ◌}
use Rattle.std.proofs.lemmas.Int.{to_z-of_z}
use mir.Syntax.{w64}
use mir.Val.{SFits, to_z, of_z}
use Rattle.integer_bits.specs.Numbers.{bit, FitsBits}
use Rattle.instance_decoder.proofs.Adding.{spelled_more, half_fits}
use Rattle.instance_decoder.proofs.numbers.push_spelled.Goals as goal

pub loop-at-preserved : goal.loop-at-preserved
loop-at-preserved c =
    let f : SFits w64 c.halve-odd.result.1 = search rules in
    let step = c.halve-odd.ensures ∙ ap (λ t. pos (bit c.halve-odd.result.0) +ℤ pos 2 *ℤ t) (sym (to_z-of_z w64 c.halve-odd.result.1 f)) in
    let less : c.args.count - c.loop-at._at - 1 ≡ c.args.count - (c.loop-at._at + 1) = omega arith in
    record {
      fits = subst (λ n. FitsBits n (to_z w64 (of_z w64 c.halve-odd.result.1))) less (half_fits (c.args.count - c.loop-at._at) _ _ c.halve-odd.result.0 (omega arith) c.loop-at.invariant.fits step);
      adds = spelled_more c.args.bits.now c.loop-at.bits c.push.new.self c.loop-at._at _ _ _ c.halve-odd.result.0 c.loop-at.invariant.adds step c.in_ok-push.ensures.ok;
    }
