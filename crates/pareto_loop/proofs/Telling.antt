-- What the answers of a space tell of a question beyond points.
use Rattle.std.proofs.Common.{◌≡◌, ℕ, ◌+◌, ◌^◌, ◌<◌, ◌≤◌, Bool, true, ◌⊎◌, inl, inr, List}
use Rattle.std.proofs.Common.{[], ◌∷◌, length, map, Option, sym, ap, subst, ◌∙◌, arith, ℤ, IsTrue}
use Rattle.std.specs.Option.{option_map_or}
use Rattle.std.specs.List.{list_all}
use Rattle.std.proofs.lemmas.Bool.{true≢false, cases_lt}
use Rattle.std.proofs.lemmas.List.{length-map}
use Rattle.std.proofs.lemmas.List.Folds.{list_all-map}
use Rattle.clause_store.specs.declared.clause.Literal.{Literal}
use Rattle.clause_store.specs.Store.{Store}
use Rattle.clf_tree.specs.declared.model.Model.{Model}
use Rattle.clf_tree.specs.declared.scopes.Scopes.{Scopes}
use Rattle.clf_tree.specs.declared.vector.Point.{Point}
use Rattle.clf_tree.specs.declared.vector.Question.{Question}
use Rattle.clf_tree.specs.declared.vector.Vector.{Vector}
use Rattle.clf_tree.specs.Front.{is_better_somewhere, dominates, before, admits, ways_of}
use Rattle.clf_tree.specs.Lists.{each_two}
use Rattle.clf_tree.specs.Satisfies.{vector_of}
use Rattle.goal_vectors.specs.Points.{vectors_of, found_of, IsUnanswered}
use Rattle.goal_vectors.proofs.Truths.{by_truth, and_left, and_right}
use Rattle.model_reader.specs.declared.reader.Read.{Read}
use Rattle.question_space.specs.declared.claims.Answer.{Answer}
use Rattle.question_space.specs.declared.claims.Answer.TheVariants as answer
use Rattle.question_space.specs.Asking.{IsAnswer, IsSettled}
use Rattle.question_space.specs.Posing.{Answers, IsPosed}
use Rattle.pareto_loop.specs.Searching.{told_of, IsTold}

-- an instance whose vector is admitted would be an answer
unanswered : (model : Model) (scopes : Scopes) (question : Question) → (Answers model scopes question → ⊥)
    → IsUnanswered model scopes question
unanswered model scopes question none v r =
    by_truth (admits (ways_of model) question v)
    (λ t. absurd (none (record {
      entries = r.entries;
      ordered = r.ordered;
      satisfied = r.satisfied;
      admitted = subst (λ u. admits (ways_of model) question u ≡ true) (sym r.has_vector) t;
    })))
    (λ f. f)

-- without goals no two vectors are in order
few_in_order : (vs : List (List ℤ)) → each_two (before []) vs ≡ true → length vs ≤ 1
few_in_order [] h = omega arith
few_in_order (v ∷ []) h = omega arith
few_in_order (v ∷ w ∷ vs) h = absurd (true≢false (sym h))

few_points : (model : Model) (points : List Point) → model.goals ≡ []
    → each_two (before (ways_of model)) (vectors_of points) ≡ true → length points ≤ 1
few_points model points none h =
    subst (λ n. n ≤ 1) (length-map points (λ p. p.vector.values))
    (few_in_order (vectors_of points)
    (subst (λ (ways : List Bool). each_two (before ways) (vectors_of points) ≡ true) (ap (map (λ g. g.least)) none) h))

less_or_not : (m n : ℕ) → (m ≤ n → ⊥) → n < m
less_or_not m n h = by_order m n h (cases_lt n m)
  where
    by_order : (m n : ℕ) → (m ≤ n → ⊥) → (n < m) ⊎ (m ≤ n) → n < m
    by_order m n h (inl l) = l
    by_order m n h (inr l) = absurd (h l)

-- the parts of a question that is admitted
admitted_outside : (ways : List Bool) (question : Question) (vectors : List (List ℤ)) (v : List ℤ) → found_of question ≡ vectors
    → admits ways question v ≡ true → list_all (is_better_somewhere ways v) vectors ≡ true
admitted_outside ways question vectors v same h =
    subst (λ (vs : List (List ℤ)). list_all (is_better_somewhere ways v) vs ≡ true) same
    (list_all-map (is_better_somewhere ways v) (λ f. f.values) question.found
    ∙ and_left (list_all (λ f. is_better_somewhere ways v f.values) question.found)
    (option_map_or (λ w. dominates ways v w.values) question.improve true) h)

admitted_improves : (ways : List Bool) (question : Question) (improve : Option Vector) (v : List ℤ) → question.improve ≡ improve
    → admits ways question v ≡ true → option_map_or (λ w. dominates ways v w.values) improve true ≡ true
admitted_improves ways question improve v same h =
    subst (λ (o : Option Vector). option_map_or (λ w. dominates ways v w.values) o true ≡ true) same
    (and_right (list_all (λ f. is_better_somewhere ways v f.values) question.found)
    (option_map_or (λ w. dominates ways v w.values) question.improve true) h)

pub told_is : (read : Read) (budget : ℕ) (points : List Point) (question : Question) (improve : Option Vector) (clauses : Store)
    (parts : List Literal) (given : Answer)
    → IsTrue (each_two (before (ways_of read.model)) (vectors_of points)) → found_of question ≡ vectors_of points
    → length question.found ≡ length points → question.improve ≡ improve
    → IsPosed read.model read.scopes question clauses.clauses parts → IsAnswer read.model read.scopes question budget clauses.clauses given
    → (read.model.goals ≡ [] → length question.found ≤ 1 → 3 ^ (read.weight + 24) ≤ budget → IsSettled given)
    → IsTold read budget points improve clauses parts (told_of question given)
told_is read budget points question improve clauses parts (answer.Found instance) ordered found count asked posed is enough = record {
  satisfied = is.0;
  outside = admitted_outside (ways_of read.model) question (vectors_of points) (vector_of read.model instance.entries) found is.1;
  improves = admitted_improves (ways_of read.model) question improve (vector_of read.model instance.entries) asked is.1;
}
told_is read budget points question improve clauses parts (answer.Empty claim) ordered found count asked posed is enough = record {
  beyond = found;
  asked = asked;
  unanswered = unanswered read.model read.scopes question is.0;
  closing = record { posed = posed; given = is.2; refutes = is.1.refutes };
}
told_is read budget points question improve clauses parts (answer.Spent claim) ordered found count asked posed is enough = record {
  beyond = found;
  spending = record { posed = posed; given = is.1; spent = is.0 };
  small = λ none. less_or_not (3 ^ (read.weight + 24)) budget
      (enough none (subst (λ n. n ≤ 1) (sym count) (few_points read.model points none ordered)));
}
