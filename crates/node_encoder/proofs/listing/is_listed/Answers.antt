use Rattle.std.proofs.Common.{◌∙◌, sym}
use Rattle.node_encoder.proofs.Cutting.{told_listed, untold_listed}
use Rattle.node_encoder.proofs.listing.is_listed.Goals as goal

pub returns-in-Some : goal.returns-in-Some
returns-in-Some c = told_listed c.args.layout.now c.args.ks.now c.args.slot c.in-Some.clafer c.is_one_of.result (sym c.clafer_of.ensures ∙ c.in-Some.is) c.is_one_of.ensures

pub returns-in-None : goal.returns-in-None
returns-in-None c = untold_listed c.args.layout.now c.args.ks.now c.args.slot (sym c.clafer_of.ensures ∙ c.in-None.is)
