-- The points so far are written.
use Rattle.std.proofs.Common.{◌≡◌, ◌++◌, take}
use Rattle.std.specs.List.{flat_map}
use Rattle.front_report.specs.Points.{point_lines}
use Rattle.front_report.proofs.points.push_points.Given as goal

abbrev pub invariant-loop-point : goal.invariant-loop-point
invariant-loop-point l = l.text ≡ l.initial.text ++ flat_map (point_lines l.model) (take l.point-index l.points)
