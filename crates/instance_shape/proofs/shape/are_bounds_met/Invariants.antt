use Rattle.std.proofs.Common.{◌≡◌, ◌&&◌, true}
use Rattle.std.specs.Prelude.{slice_get}
use Rattle.std.specs.Option.{option_map_or}
use Rattle.std.specs.List.{list_all}
use Rattle.clf_tree.specs.Lists.{numbers_below}
use Rattle.clf_tree.specs.Shape.{meets_times, meets_group}
use Rattle.instance_shape.proofs.shape.are_bounds_met.Given as goal

abbrev pub invariant-loop-clafer : goal.invariant-loop-clafer
invariant-loop-clafer l =
    list_all (λ c. option_map_or (λ k. meets_times l.clafers l.tables.entries c k && meets_group l.clafers l.tables.entries c k) (slice_get l.clafers c) true) (numbers_below l.clafer) ≡ true
