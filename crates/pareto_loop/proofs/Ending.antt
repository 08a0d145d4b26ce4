-- How the search for a front ends.
use Rattle.std.proofs.Common.{ℕ, ◌≤◌, List, length, None, refl, sym, subst, arith, ℤ}
use Rattle.clause_store.specs.declared.clause.Literal.{Literal}
use Rattle.clause_store.specs.Store.{Store}
use Rattle.clf_tree.specs.declared.instance.Instance.{Instance}
use Rattle.clf_tree.specs.declared.vector.FrontEnd.TheVariants as ended
use Rattle.clf_tree.specs.declared.vector.Point.{Point}
use Rattle.clf_tree.specs.Front.{is_better_somewhere, ways_of, IsOptimal}
use Rattle.goal_vectors.specs.Points.{vectors_of, IsOutside, ArePoints}
use Rattle.goal_vectors.proofs.Fronts.{whole}
use Rattle.goal_vectors.proofs.Items.{all_at}
use Rattle.goal_vectors.proofs.Truths.{differ}
use Rattle.goal_vectors.proofs.Vectors.{same_not_better}
use Rattle.model_reader.specs.declared.reader.Read.{Read}
use Rattle.pareto_loop.specs.declared.improving.Improved.{Improved}
use Rattle.pareto_loop.specs.declared.improving.Improved.TheVariants as improved
use Rattle.pareto_loop.specs.declared.searched.Halt.{Halt}
use Rattle.pareto_loop.specs.Searched.{IsSearched}
use Rattle.pareto_loop.specs.Searching.{full_of, IsFurther, IsImproved, IsNext, NothingBeyond, IsLast, IsOneMore}

-- nothing beyond the points
pub last_is : (read : Read) (points : List Point) (clauses : Store) (parts : List Literal) (halt : Halt)
    → ArePoints read.model read.scopes points → NothingBeyond read points None clauses parts halt → IsLast read points clauses parts halt
last_is read points clauses parts halt are nothing = record {
  whole = whole read.model read.scopes halt.question points nothing.asked nothing.beyond are nothing.unanswered;
  closed = record { beyond = nothing.beyond; any = nothing.asked; closing = nothing.closing };
}

-- a further point beside enough ones
one_more_is : (read : Read) (most : ℕ) (points : List Point) (p : Point) → length points ≤ most → most ≤ length points
    → IsFurther read points p → IsOneMore read most points p.witness
one_more_is read most points p few enough further = record {
  all = omega (arith, few, enough);
  satisfied = further.way.witnessed.satisfied;
  outside = subst (λ (v : List ℤ). IsOutside read.model (vectors_of points) v) (sym further.way.witnessed.has_vector) further.way.outside;
  optimal = subst (λ (v : List ℤ). IsOptimal read.model read.scopes v) (sym further.way.witnessed.has_vector) further.optimal;
  more = λ all. differ (is_better_somewhere (ways_of read.model) p.vector.values p.vector.values)
      (all_at (is_better_somewhere (ways_of read.model) p.vector.values) (vectors_of points) p.vector.values further.way.outside
      (all p.vector.values further.optimal))
      (same_not_better (ways_of read.model) p.vector.values);
}

-- the end of a way beyond enough points
pub full_is_next : (read : Read) (most budget : ℕ) (points : List Point) (clauses : Store) (parts : List Literal) (end : Improved)
    → length points ≤ most → most ≤ length points → IsImproved read budget points clauses parts end
    → IsNext read most budget points clauses parts (full_of end)
full_is_next read most budget points clauses parts (improved.Best p) few enough is = one_more_is read most points p few enough is
full_is_next read most budget points clauses parts (improved.Spent halt) few enough is = is

pub full_is : (read : Read) (most budget : ℕ) (points : List Point) (clauses : Store) (parts : List Literal) (further : Instance)
    (questions : ℕ) → ArePoints read.model read.scopes points → IsOneMore read most points further
    → IsSearched read most budget clauses parts
    (record { front = record { points = points; ended = ended.Full further; claims = length points }; halt = None; questions = questions })
full_is read most budget points clauses parts further questions are one = record {
  points = are;
  ended = record {
    all = one.all;
    claims = refl;
    no_halt = refl;
    satisfied = one.satisfied;
    outside = one.outside;
    optimal = one.optimal;
    more = one.more;
  };
}
