use Rattle.shape_encoder.specs.Comparing.{AreCostsSoFar}
use Rattle.shape_encoder.proofs.nested.costs_of.Given as goal

abbrev pub invariant-loop-place : goal.invariant-loop-place
invariant-loop-place l = AreCostsSoFar l.ties.parents.items l.ties.targets.items l.kin l.place l.costs.counted l.costs.paired l.costs.beside
