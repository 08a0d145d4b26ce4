use Rattle.shape_bench.proofs.telling.told.Given as goal

abbrev pub invariant-loop-slot : goal.invariant-loop-slot
invariant-loop-slot l = Unit {0}
