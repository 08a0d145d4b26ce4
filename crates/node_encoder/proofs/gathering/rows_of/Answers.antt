use Rattle.std.proofs.Common.{[]}
use Rattle.std.specs.Prelude.{slice_index_or}
use Rattle.std.specs.List.{filter}
use Rattle.set_bits.specs.declared.layout.Edge.{Edge}
use Rattle.set_bits.specs.declared.sets.Member.{Member}
use Rattle.told_constraints.specs.Told.{is_listed}
use Rattle.node_encoder.proofs.Loops.{flat_step}
use Rattle.node_encoder.proofs.gathering.rows_of.Goals as goal

pub loop-at-preserved : goal.loop-at-preserved
loop-at-preserved c =
    flat_step (λ (m : Member). filter (λ (e : Edge). is_listed c.args.layout.now c.args.ks.now e.to) (slice_index_or c.args.table.now.items m.slot [])) [] c.args.of.now c.loop-at.at c.get.result.now c.loop-at.found c.push_row.new.found c.get.ensures c.loop-at.invariant c.in_ok-push_row.ensures
