-- The values of goals in an instance lie within 62 bits, so dominance has an end.
use Rattle.std.proofs.Common.{◌≡◌, ◌^◌, true, ◌&&◌, List, [], ◌∷◌, map, refl, sym, subst, ◌∙◌, arith, ℤ, pos, neg_ℤ, ◌≤ℤ◌, IsTrue}
use Rattle.std.specs.Prelude.{int_le}
use Rattle.std.specs.List.{list_all}
use Rattle.std.proofs.lemmas.Int.{ints}
use Rattle.clf_tree.specs.declared.model.Clafer.{Clafer}
use Rattle.clf_tree.specs.declared.model.Goal.{Goal}
use Rattle.clf_tree.specs.declared.model.Model.{Model}
use Rattle.clf_tree.specs.declared.instance.Entry.{Entry}
use Rattle.clf_tree.specs.declared.scopes.Scopes.{Scopes}
use Rattle.clf_tree.specs.Front.{ways_of, Reaches}
use Rattle.clf_tree.specs.Hierarchy.{is_closed}
use Rattle.clf_tree.specs.Intervals.{interval}
use Rattle.clf_tree.specs.IntervalsHold.{refers_once, IntervalsHold}
use Rattle.clf_tree.specs.Kinds.{kind}
use Rattle.clf_tree.specs.Meaning.{value, number}
use Rattle.clf_tree.specs.Named.{IsNamed}
use Rattle.clf_tree.specs.Nodes.{is_ordered, is_within, is_tree}
use Rattle.clf_tree.specs.Numerics.{numeric, inside, is_narrow}
use Rattle.clf_tree.specs.Satisfies.{holds, laws_of, outside, value_outside}
use Rattle.clf_tree.specs.Shape.{has_shape}
use Rattle.clf_tree.specs.Tree.{tree}
use Rattle.clf_tree.specs.Typed.{is_typed, fits_number, goal_is_typed, IsTyped}
use Rattle.int_widths.specs.Narrow.{is_narrow_law, is_narrow_goal, is_narrow_model}
use Rattle.model_evaluator.proofs.Bound.{at_top}
use Rattle.model_evaluator.proofs.Clamps.{IsSmall, small_in}
use Rattle.goal_vectors.proofs.Fronts.{reached_length}
use Rattle.goal_vectors.proofs.Truths.{and_left, and_right, both}
use Rattle.goal_vectors.proofs.Vectors.{not_worse, is_better}
use Rattle.goal_vectors.specs.Points.{FallsByDominance}
use Rattle.pareto_loop.specs.Gaps.{is_small, gap}
use Rattle.pareto_loop.proofs.Gapping.{gap_less}

-- an instance within the scopes that is a tree of the right shape
record IsShaped (clafers : List Clafer) (scopes : Scopes) (entries : List Entry) : Type 0 where
  closed : IsTrue (is_closed clafers)
  once : IsTrue (refers_once clafers)
  ordered : IsTrue (is_ordered entries)
  within : IsTrue (is_within clafers scopes entries)
  trees : IsTrue (is_tree clafers entries)
  shape : IsTrue (has_shape clafers scopes entries)

at_least : (x z : ℤ) → x ≤ℤ z → int_le x z ≡ true
at_least x z h = grind (arith, ints)

tested : (z : ℤ) → IsSmall z → is_small z ≡ true
tested z s =
    both (int_le (neg_ℤ (pos (2 ^ 61))) z) (int_le z (pos (2 ^ 61)))
    (at_least (neg_ℤ (pos (2 ^ 61))) z s.least) (at_least z (pos (2 ^ 61)) s.most)

goal_small : (clafers : List Clafer) (scopes : Scopes) (entries : List Entry) (g : Goal) → IntervalsHold → IsShaped clafers scopes entries
    → goal_is_typed clafers g ≡ true → is_narrow_goal clafers scopes (tree g.body) ≡ true
    → is_small (value_outside clafers entries (tree g.body)) ≡ true
goal_small clafers scopes entries g intervals known t n =
    tested (value_outside clafers entries (tree g.body))
    (small_in (interval clafers scopes (tree g.body) outside.within) (number clafers entries (value clafers entries (tree g.body) outside))
    (and_left (is_narrow (numeric clafers scopes (tree g.body) outside.within))
    (list_all is_narrow (inside clafers scopes (tree g.body) outside.within)) n)
    (intervals clafers scopes entries (tree g.body) outside known.closed known.once known.ordered known.within known.trees known.shape
    (at_top clafers entries)
    (and_left (is_typed clafers (tree g.body) outside.within) (fits_number clafers (kind clafers (tree g.body) outside.within)) t)
    (and_right (is_typed clafers (tree g.body) outside.within) (fits_number clafers (kind clafers (tree g.body) outside.within)) t)
    n))

goals_small : (clafers : List Clafer) (scopes : Scopes) (entries : List Entry) (gs : List Goal) → IntervalsHold
    → IsShaped clafers scopes entries → list_all (goal_is_typed clafers) gs ≡ true
    → list_all (λ g. is_narrow_goal clafers scopes (tree g.body)) gs ≡ true
    → list_all is_small (map (λ g. value_outside clafers entries (tree g.body)) gs) ≡ true
goals_small clafers scopes entries [] intervals known t n = refl
goals_small clafers scopes entries (g ∷ gs) intervals known t n =
    both (is_small (value_outside clafers entries (tree g.body)))
    (list_all is_small (map (λ g. value_outside clafers entries (tree g.body)) gs))
    (goal_small clafers scopes entries g intervals known
    (and_left (goal_is_typed clafers g) (list_all (goal_is_typed clafers) gs) t)
    (and_left (is_narrow_goal clafers scopes (tree g.body)) (list_all (λ g. is_narrow_goal clafers scopes (tree g.body)) gs) n))
    (goals_small clafers scopes entries gs intervals known
    (and_right (goal_is_typed clafers g) (list_all (goal_is_typed clafers) gs) t)
    (and_right (is_narrow_goal clafers scopes (tree g.body)) (list_all (λ g. is_narrow_goal clafers scopes (tree g.body)) gs) n))

pub reached_small : IntervalsHold → (model : Model) (scopes : Scopes) (v : List ℤ) → IsNamed model → IsTyped model
    → IsTrue (is_narrow_model scopes model) → Reaches model scopes v → list_all is_small v ≡ true
reached_small intervals model scopes v named typed narrow r =
    let within = is_within model.clafers scopes r.entries in
    let trees = is_tree model.clafers r.entries in
    let shape = has_shape model.clafers scopes r.entries in
    let laws = list_all (holds model.clafers r.entries) (laws_of model) in
    let shaped = and_left (within && trees && shape) laws r.satisfied in
    let placed = and_left (within && trees) shape shaped in
    subst (λ (u : List ℤ). list_all is_small u ≡ true) r.has_vector
    (goals_small model.clafers scopes r.entries model.goals intervals
    (record {
      closed = named.closed;
      once = named.refers;
      ordered = r.ordered;
      within = and_left within trees placed;
      trees = and_right within trees placed;
      shape = and_right (within && trees) shape shaped;
    })
    typed.goals
    (and_right (list_all (is_narrow_law model.clafers scopes) (laws_of model))
    (list_all (λ g. is_narrow_goal model.clafers scopes (tree g.body)) model.goals) narrow))

pub dominance_falls : IntervalsHold → (model : Model) (scopes : Scopes) → IsNamed model → IsTyped model
    → IsTrue (is_narrow_model scopes model) → FallsByDominance model scopes (gap (ways_of model))
dominance_falls intervals model scopes named typed narrow u w r s d =
    gap_less (ways_of model) u w (reached_length model scopes u r ∙ sym (reached_length model scopes w s))
    (reached_small intervals model scopes u named typed narrow r) (not_worse (ways_of model) u w d) (is_better (ways_of model) u w d)
