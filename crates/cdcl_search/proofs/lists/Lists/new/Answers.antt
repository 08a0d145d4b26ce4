use Rattle.std.proofs.Common.{◌∙◌, arith}
use Rattle.std.proofs.lemmas.List.{length-map}
use Rattle.cdcl_search.proofs.lists.Lists.new.Goals as goal

pub returns : goal.returns
returns c = length-map c.loop-at.rows.items (λ r. r.items) ∙ omega (arith, c.loop-at.invariant)
