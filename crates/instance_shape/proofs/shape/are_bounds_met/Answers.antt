use Rattle.std.proofs.Common.{rules, ◌≡◌, ◌&&◌, true, false, length, sym, ◌∙◌, arith}
use Rattle.std.specs.Prelude.{slice_get}
use Rattle.std.specs.Option.{option_map_or}
use Rattle.clf_tree.specs.Shape.{meets_times, meets_group}
use Rattle.instance_shape.proofs.Numbers.{all_fails}
use Rattle.instance_shape.proofs.shape.are_bounds_met.Goals as goal

pub returns-then-not-are_met : goal.returns-then-not-are_met
returns-then-not-are_met c =
    sym
    (all_fails
    (λ d. option_map_or (λ k. meets_times c.args.clafers.now c.args.tables.now.entries d k && meets_group c.args.clafers.now c.args.tables.now.entries d k) (slice_get c.args.clafers.now d) true)
    (length c.args.clafers.now) c.loop-clafer.clafer (omega (arith, c.loop-clafer-test.true, c.len-clafer-end.ensures)) (search rules))
