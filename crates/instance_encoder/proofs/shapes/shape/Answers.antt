use Rattle.instance_encoder.proofs.shapes.shape.Goals as goal

pub meets_rules-requires-clause-ordered : goal.meets_rules-requires-clause-ordered
meets_rules-requires-clause-ordered c = c.layouts_that_fit_are_ordered.ensures c.args.core.now.clafers c.args.scopes.now c.args.layout.now c.requires.fits
