use Rattle.shape_encoder.proofs.Laid.{fitting_laid, parents_known, targets_known, children_known, owners_known}
use Rattle.shape_encoder.proofs.laws.layouts_that_fit_are_laid.Goals as goal

pub returns : goal.returns
returns c = record { parents = parents_known; targets = targets_known; children = children_known; owners = owners_known; laid = fitting_laid }
