-- What a search for a front leaves shows what is told of it.
use Rattle.std.proofs.Common.{◌≡◌, ◌≢◌, ℕ, ℤ, Bool, true, false, true≢false, List, [], ◌∷◌, map, None, Some, is_none, IsTrue}
use Rattle.std.proofs.Common.{refl, sym, ◌∙◌, ap, subst}
use Rattle.clause_store.specs.declared.clause.Literal.{Literal}
use Rattle.clause_store.specs.declared.derivation.Chain.{Chain}
use Rattle.clause_store.specs.Satisfaction.{IsUnsatisfiable}
use Rattle.clause_store.specs.Resolution.{Refutes}
use Rattle.clause_store.specs.Store.{Store}
use Rattle.clf_tree.specs.declared.vector.FrontEnd.{FrontEnd}
use Rattle.clf_tree.specs.declared.vector.FrontEnd.TheVariants as ended
use Rattle.clf_tree.specs.declared.vector.Question.{Question}
use Rattle.clf_tree.specs.declared.vector.Vector.{Vector}
use Rattle.clf_tree.specs.Front.{admits, ways_of}
use Rattle.clf_tree.specs.Satisfies.{vector_of}
use Rattle.goal_vectors.specs.Points.{vectors_of, found_of}
use Rattle.model_reader.specs.declared.reader.Read.{Read}
use Rattle.question_space.specs.declared.spending.Spending.{Spending}
use Rattle.question_space.specs.Asking.{HasNoVectors}
use Rattle.question_space.specs.Spendings.{IsSpending, IsClosing}
use Rattle.any_instance.specs.Settled.{IsRefuted}
use Rattle.pareto_loop.specs.declared.searched.Halt.{Halt}
use Rattle.pareto_loop.specs.declared.searched.Searched.{Searched}
use Rattle.pareto_loop.specs.Searched.{kept, ClosesBeyond, SpendsBeyond, IsFinished, IsSpent, EndsBy, IsSearched}
use Rattle.clafer_run.specs.Fronts.{IsPart, IsTooLong, IsHalted, most_points}

-- resolution is sound
abbrev pub IsSound : Type 0
IsSound = (given : List (List Literal)) (chains : List Chain) → Refutes given chains → IsUnsatisfiable given

abbrev has_item : {A : Type 0} → List A → Bool
has_item [] = false
has_item (x ∷ xs) = true

none_found : (found : List Vector) → map (λ f. f.values) found ≡ [] → found ≡ []
none_found [] e = refl
none_found (f ∷ found) e = absurd (true≢false (ap has_item e))

-- a question without vectors admits every vector
admits_all : (ways : List Bool) (question : Question) (v : List ℤ) → HasNoVectors question → IsTrue (admits ways question v)
admits_all ways question v none = rw (none.0, none.1)

-- a closed question without vectors shows that there is no instance
pub refuted_by : IsSound → (read : Read) (closed : Spending) → IsClosing read.model read.scopes closed → HasNoVectors closed.question
    → IsRefuted read closed
refuted_by sound read closed closing any =
    record {
      none = λ entries instance.
          let solution = closing.posed.whole.1 (record {
            entries = entries;
            ordered = instance.ordered;
            satisfied = instance.satisfied;
            admitted = admits_all (ways_of read.model) closed.question (vector_of read.model entries) any;
          }) in
          sound closed.clauses.clauses closed.claim.derivation.chains closing.refutes solution.0 solution.1;
      closing = closing;
      any = any;
    }

-- what the space keeps of its question, taken apart
is_kept : (clauses : Store) (parts : List Literal) (halt : Halt) (left : Spending)
    → left.question ≡ halt.question → left.clauses ≡ clauses → left.parts ≡ parts → left.claim ≡ halt.claim → kept clauses parts halt ≡ left
is_kept clauses parts halt left q c p k = rw (sym q, sym c, sym p, sym k)

finished_by : IsSound → (read : Read) (budget : ℕ) (clauses : Store) (parts : List Literal) (s : Searched) (halt : Halt) (left : Spending)
    → IsSearched read most_points budget clauses parts s → s.front.ended ≡ ended.Finished
    → IsFinished read most_points clauses parts s → ClosesBeyond read s.front.points clauses parts halt
    → left.question ≡ halt.question → kept clauses parts halt ≡ left
    → IsHalted read budget left s.front ended.Finished
finished_by sound read budget clauses parts s halt left searched is finished closes question whole =
    let closing = subst (IsClosing read.model read.scopes) whole closes.closing in
    let beyond = ap found_of question ∙ closes.beyond in
    let any = ap (λ (q : Question). q.improve) question ∙ closes.any in (
      (λ (e : s.front.points ≡ []). refuted_by sound read left closing (none_found left.question.found (beyond ∙ ap vectors_of e), any)),
      (λ (some : s.front.points ≢ []). record {
        points = searched.points;
        whole = finished.whole;
        some = some;
        few = finished.few;
        ended = is;
        claims = finished.claims;
        closing = closing;
        beyond = (beyond, any);
      }),
    )

spent_by : (read : Read) (budget : ℕ) (clauses : Store) (parts : List Literal) (s : Searched) (halt : Halt) (left : Spending)
    → IsSearched read most_points budget clauses parts s → s.front.ended ≡ ended.Spent
    → IsSpent read most_points budget clauses parts s → SpendsBeyond read budget s.front.points clauses parts halt
    → left.question ≡ halt.question → kept clauses parts halt ≡ left
    → IsPart read budget left s.front
spent_by read budget clauses parts s halt left searched is spent spends question whole =
    record {
      points = searched.points;
      few = spent.few;
      ended = is;
      claims = spent.claims;
      spending = subst (IsSpending read.model read.scopes budget) whole spends.spending;
      beyond = ap found_of question ∙ spends.beyond;
      short = spends.small;
    }

halted_by : IsSound → (read : Read) (budget : ℕ) (clauses : Store) (parts : List Literal) (s : Searched) (halt : Halt) (left : Spending)
    → IsSearched read most_points budget clauses parts s → s.halt ≡ Some halt
    → left.question ≡ halt.question → kept clauses parts halt ≡ left
    → (end : FrontEnd) → s.front.ended ≡ end → EndsBy read most_points budget clauses parts s end → IsHalted read budget left s.front end
halted_by sound read budget clauses parts s halt left searched there question whole ended.Finished is ends =
    finished_by sound read budget clauses parts s halt left searched is ends (rw there at ends.closed) question whole
halted_by sound read budget clauses parts s halt left searched there question whole ended.Spent is ends =
    spent_by read budget clauses parts s halt left searched is ends (rw there at ends.spent) question whole
halted_by sound read budget clauses parts s halt left searched there question whole (ended.Full further) is ends =
    absurd (true≢false (sym (ap is_none (sym there ∙ ends.no_halt))))

-- a search that halts with a question leaves a closed or a spent one
pub halted_of : IsSound → (read : Read) (budget : ℕ) (clauses : Store) (parts : List Literal) (s : Searched) (halt : Halt) (left : Spending)
    → IsSearched read most_points budget clauses parts s → s.halt ≡ Some halt
    → left.question ≡ halt.question → left.clauses ≡ clauses → left.parts ≡ parts → left.claim ≡ halt.claim
    → IsHalted read budget left s.front s.front.ended
halted_of sound read budget clauses parts s halt left searched there q c p k =
    halted_by sound read budget clauses parts s halt left searched there q (is_kept clauses parts halt left q c p k)
    s.front.ended refl searched.ended

too_long_by : (read : Read) (budget : ℕ) (clauses : Store) (parts : List Literal) (s : Searched)
    → IsSearched read most_points budget clauses parts s → s.halt ≡ None
    → (end : FrontEnd) → s.front.ended ≡ end → EndsBy read most_points budget clauses parts s end → IsTooLong read s.front
too_long_by read budget clauses parts s searched none ended.Finished is ends = absurd (rw none at ends.closed)
too_long_by read budget clauses parts s searched none ended.Spent is ends = absurd (rw none at ends.spent)
too_long_by read budget clauses parts s searched none (ended.Full further) is ends =
    record {
      points = searched.points;
      all = ends.all;
      further = further;
      satisfied = ends.satisfied;
      optimal = ends.optimal;
      outside = ends.outside;
      ended = is;
      claims = ends.claims;
    }

-- a search that halts with none has found as many points as are told, and the front has more
pub too_long_of : (read : Read) (budget : ℕ) (clauses : Store) (parts : List Literal) (s : Searched)
    → IsSearched read most_points budget clauses parts s → s.halt ≡ None → IsTooLong read s.front
too_long_of read budget clauses parts s searched none =
    too_long_by read budget clauses parts s searched none s.front.ended refl searched.ended
