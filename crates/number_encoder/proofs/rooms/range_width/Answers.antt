use Rattle.std.proofs.Common.{◌≤◌, ◌∙◌, subst, sym, rules}
use Rattle.number_encoder.proofs.Ranges.{range_is, range_few}
use Rattle.number_encoder.proofs.rooms.range_width.Goals as goal

pub returns-clause-bits : goal.returns-clause-bits
returns-clause-bits c = c.width.ensures ∙ range_is c.args.scopes.now.low c.args.scopes.now.high (search rules) (search rules)

pub returns-clause-few : goal.returns-clause-few
returns-clause-few c = subst (λ n. n ≤ 127) (sym (c.width.ensures ∙ range_is c.args.scopes.now.low c.args.scopes.now.high (search rules) (search rules))) (range_few c.args.scopes.now)
