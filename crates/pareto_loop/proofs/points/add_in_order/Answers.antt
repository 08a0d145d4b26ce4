use Rattle.std.proofs.Common.{◌≤◌, ℕ, Bool, List, length, sym, ap, subst, ◌∙◌}
use Rattle.std.specs.List.{insert, prefix_len}
use Rattle.std.proofs.lemmas.List.Sums.{prefix_len-le-length}
use Rattle.clf_tree.specs.declared.vector.Point.{Point}
use Rattle.clf_tree.specs.Front.{before}
use Rattle.goal_vectors.specs.Points.{ArePoints}
use Rattle.pareto_loop.proofs.Placing.{placed_points}
use Rattle.pareto_loop.proofs.points.add_in_order.Goals as goal

pub insert-requires : goal.insert-requires
insert-requires g c =
    let passes = λ (p : Point). before c.args.task.now.ways.least p.vector.values c.args.point.vector.values in
    subst (λ (n : ℕ). c.place_of-place.result ≤ n) c.as_slice.ensures.len
    (subst (λ (n : ℕ). n ≤ length c.as_slice.result.now) (sym c.place_of-place.ensures) (prefix_len-le-length passes c.as_slice.result.now))

pub returns-clause-points : goal.returns-clause-points
returns-clause-points g c =
    let further = c.args.point.vector.values in
    let place = λ (ways : List Bool) (ps : List Point). prefix_len (λ (p : Point). before ways p.vector.values further) ps in
    let points = c.args.points.now.items in
    subst (λ (xs : List Point). ArePoints c.args.task.now.read.now.model c.args.task.now.read.now.scopes xs)
    (sym (c.in_ok-insert.ensures.items
    ∙ ap (λ (n : ℕ). insert points n c.args.point)
    (c.place_of-place.ensures ∙ ap (λ (xs : List Point). place c.args.task.now.ways.least xs) c.as_slice.ensures.value
    ∙ ap (λ (ways : List Bool). place ways points) c.args.task.now.ways_are)))
    (placed_points c.args.task.now.read.now points c.args.point c.requires.points c.requires.further)
