use Rattle.std.proofs.Common.{◌≡◌, [], take}
use Rattle.std.specs.Prelude.{slice_index_or}
use Rattle.std.specs.List.{filter, flat_map}
use Rattle.told_constraints.specs.Told.{is_listed}
use Rattle.node_encoder.proofs.gathering.rows_of.Given as goal

abbrev pub invariant-loop-at : goal.invariant-loop-at
invariant-loop-at l = l.found ≡ flat_map (λ m. filter (λ e. is_listed l.layout l.ks e.to) (slice_index_or l.table.items m.slot [])) (take l.at l.of)
