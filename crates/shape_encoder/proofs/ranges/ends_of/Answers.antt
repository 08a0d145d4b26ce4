use Rattle.std.proofs.Common.{rules, subst}
use mir.Syntax.{w64}
use mir.Val.{SFits}
use Rattle.std.proofs.lemmas.Int.{to_z-of_z}
use Rattle.shape_encoder.specs.Taking.{IsEnd}
use Rattle.shape_encoder.proofs.Ranged.{end_stays}
use Rattle.shape_encoder.proofs.ranges.ends_of.Goals as goal

pub returns-clause-low : goal.returns-clause-low
returns-clause-low c =
    let f : SFits w64 c.args.scopes.now.low = search rules in
    end_stays c.number.new.circuit c.number-2.new.circuit 2 c.args.scopes.now.low c.in_ok-low.low c.in_ok-high.ensures.extends
    (subst (λ z. IsEnd c.number.new.circuit z c.in_ok-low.low) (to_z-of_z w64 c.args.scopes.now.low f) c.in_ok-low.ensures.number)
