-- From an instance beyond points to one that no instance dominates.
use Rattle.std.proofs.Common.{◌≡◌, ℕ, ◌+◌, ◌*◌, ◌<◌, Bool, true, false, List, length, Option, Some}
use Rattle.std.proofs.Common.{None, refl, sym, ap, subst, ◌∙◌, arith, ℤ, cond}
use Rattle.std.specs.Prelude.{is_none}
use Rattle.clause_store.specs.declared.clause.Literal.{Literal}
use Rattle.clause_store.specs.Store.{Store}
use Rattle.clf_tree.specs.declared.model.Model.{Model}
use Rattle.clf_tree.specs.declared.instance.Instance.{Instance}
use Rattle.clf_tree.specs.declared.scopes.Scopes.{Scopes}
use Rattle.clf_tree.specs.declared.vector.Point.{Point}
use Rattle.clf_tree.specs.declared.vector.Vector.{Vector}
use Rattle.clf_tree.specs.Front.{is_better_somewhere, dominates, ways_of, Reaches, IsOptimal}
use Rattle.clf_tree.specs.Satisfies.{vector_of}
use Rattle.goal_vectors.specs.Points.{vectors_of, IsOutside, IsWitnessed, FallsByDominance}
use Rattle.goal_vectors.proofs.Fronts.{reached_length, optimal}
use Rattle.goal_vectors.proofs.Vectors.{no_worse_chain, outdoes, not_worse, is_better, dominating}
use Rattle.model_reader.specs.declared.reader.Read.{Read}
use Rattle.pareto_loop.specs.declared.aims.Stride.{Stride}
use Rattle.pareto_loop.specs.declared.improving.Climb.{Climb}
use Rattle.pareto_loop.specs.declared.searched.Halt.{Halt}
use Rattle.pareto_loop.specs.Gaps.{gap}
use Rattle.pareto_loop.specs.Searching.{settled_from, rest_of, IsBeyond, NothingBeyond, IsOnTheWay, IsTurn}

pub reaches : (model : Model) (scopes : Scopes) (p : Point) → IsWitnessed model scopes p → Reaches model scopes p.vector.values
reaches model scopes p w =
    record { entries = p.witness.entries; ordered = p.witness.ordered; satisfied = w.satisfied; has_vector = w.has_vector }

-- the point of an instance beyond the points
pub beyond_is_on_the_way : (read : Read) (points : List Point) (improve : Option Vector) (found : Instance) (p : Point)
    → IsBeyond read points improve found → IsWitnessed read.model read.scopes p → p.witness ≡ found → IsOnTheWay read points p
beyond_is_on_the_way read points improve found p beyond w same = record {
  witnessed = w;
  outside = subst (λ (v : List ℤ). IsOutside read.model (vectors_of points) v)
      (sym (ap (λ (i : Instance). vector_of read.model i.entries) same) ∙ w.has_vector) beyond.outside;
}

-- what dominates a vector than which the best is nowhere better dominates the best
above_aim : (ways : List Bool) (best aim v : List ℤ) → length aim ≡ length best → length best ≡ length v
    → is_better_somewhere ways best aim ≡ false → dominates ways v aim ≡ true → dominates ways v best ≡ true
above_aim ways best aim v e f no_worse d =
    dominating ways v best (no_worse_chain ways aim best v e no_worse (not_worse ways v aim d))
    (outdoes ways v aim best f (is_better ways v aim d) no_worse)

doubled : (a b : ℕ) (p q : Bool) → a < b → 2 * a + cond p 0 1 < 2 * b + cond q 0 1
doubled a b true true h = omega (arith, h)
doubled a b true false h = omega (arith, h)
doubled a b false true h = omega (arith, h)
doubled a b false false h = omega (arith, h)

-- a better point leaves less
pub better_is_on : (read : Read) (points : List Point) (climb next : Climb) (aim : Vector) (found : Instance) (p : Point)
    → FallsByDominance read.model read.scopes (gap (ways_of read.model)) → IsOnTheWay read points climb.best
    → length aim.values ≡ length climb.best.vector.values
    → is_better_somewhere (ways_of read.model) climb.best.vector.values aim.values ≡ false
    → IsBeyond read points (Some aim) found → IsWitnessed read.model read.scopes p → p.witness ≡ found → next.best ≡ p
    → IsOnTheWay read points next.best × (rest_of read next < rest_of read climb)
better_is_on read points climb next aim found p falls way e no_worse beyond w same best =
    let on = beyond_is_on_the_way read points (Some aim) found p beyond w same in
    let v = p.vector.values in
    let b = climb.best.vector.values in
    let r = reaches read.model read.scopes p w in
    let s = reaches read.model read.scopes climb.best way.witnessed in
    let value = sym (ap (λ (i : Instance). vector_of read.model i.entries) same) ∙ w.has_vector in
    let d = subst (λ (u : List ℤ). dominates (ways_of read.model) u aim.values ≡ true) value beyond.improves in
    let less = falls v b r s (above_aim (ways_of read.model) b aim.values v e
    (reached_length read.model read.scopes b s ∙ sym (reached_length read.model read.scopes v r)) no_worse d) in (
      subst (λ (x : Point). IsOnTheWay read points x) (sym best) on,
      doubled (gap (ways_of read.model) next.best.vector.values) (gap (ways_of read.model) b) (is_none next.stride) (is_none climb.stride)
          (subst (λ (x : Point). gap (ways_of read.model) x.vector.values < gap (ways_of read.model) b) (sym best) less),
    )

-- where nothing dominates the vector that was aimed at
pub settled_is : (read : Read) (budget : ℕ) (points : List Point) (clauses : Store) (parts : List Literal) (best : Point)
    (stride : Option Stride) (steps : ℕ) (aim : Vector) (halt : Halt) → IsOnTheWay read points best
    → (stride ≡ None → aim.values ≡ best.vector.values) → NothingBeyond read points (Some aim) clauses parts halt
    → IsTurn read budget points clauses parts (record { best = best; stride = stride; steps = steps }) (settled_from best stride steps)
settled_is read budget points clauses parts best None steps aim halt way plain nothing =
    let same = plain refl in
    record {
      way = way;
      optimal = subst (λ (v : List ℤ). IsOptimal read.model read.scopes v) same
          (optimal read.model read.scopes halt.question aim nothing.asked
          (subst (λ (v : List ℤ). Reaches read.model read.scopes v) (sym same) (reaches read.model read.scopes best way.witnessed))
          (subst (λ (vs : List (List ℤ)). IsOutside read.model vs aim.values) (sym nothing.beyond)
          (subst (λ (v : List ℤ). IsOutside read.model (vectors_of points) v) (sym same) way.outside))
          nothing.unanswered);
    }
settled_is read budget points clauses parts best (Some s) steps aim halt way plain nothing = (way, omega arith)
