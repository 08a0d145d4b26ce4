use Rattle.std.proofs.Common.{length, arith}
use Rattle.std.proofs.lemmas.Grind.{common_steps}
use Rattle.cdcl_search.proofs.Flips.{flip-below}
use Rattle.cdcl_search.proofs.Trail_steps.{room}
use Rattle.cdcl_search.proofs.trail.Trail.assign.Goals as goal

pub index_mut-requires-2 : goal.index_mut-requires-2
index_mut-requires-2 c = let f = flip-below c.args.literal (length c.args.self.now.literals.items) c.requires.within in grind (arith, common_steps)

pub index_mut-requires-5 : goal.index_mut-requires-5
index_mut-requires-5 c = let r = room _ _ _ _ _ c.requires.trail c.requires.within c.requires.open in grind (arith, common_steps)
