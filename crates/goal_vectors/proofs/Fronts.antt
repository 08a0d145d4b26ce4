-- Fronts, and questions about them.
use Rattle.std.proofs.Common.{◌≡◌, ℕ, zero, suc, ◌<◌, Bool, true, false, ◌⊎◌, inl, inr, List, [], ◌∷◌, length, Option, Some, None, refl, sym, ap, subst, ◌∙◌, arith, ℤ}
use Rattle.std.specs.Option.{option_map_or}
use Rattle.std.specs.List.{All, Contains, list_all}
use Rattle.std.proofs.lemmas.List.{length-map}
use Rattle.std.proofs.lemmas.List.Elements.{All-head, All-tail, All-contains}
use Rattle.std.proofs.lemmas.List.Folds.{list_all-map}
use Rattle.clf_tree.specs.declared.model.Model.{Model}
use Rattle.clf_tree.specs.declared.scopes.Scopes.{Scopes}
use Rattle.clf_tree.specs.declared.vector.Point.{Point}
use Rattle.clf_tree.specs.declared.vector.Question.{Question}
use Rattle.clf_tree.specs.declared.vector.Vector.{Vector}
use Rattle.clf_tree.specs.Lists.{each_two}
use Rattle.clf_tree.specs.Tree.{tree}
use Rattle.clf_tree.specs.Satisfies.{value_outside}
use Rattle.clf_tree.specs.Front.{is_better_somewhere, dominates, before, admits, ways_of, Reaches, IsOptimal, IsFront}
use Rattle.goal_vectors.specs.Points.{vectors_of, found_of, IsOutside, IsUnanswered, ArePoints, HasMore, FallsByDominance}
use Rattle.goal_vectors.proofs.Truths.{by_truth, differ, and_left, and_right, both}
use Rattle.goal_vectors.proofs.Vectors.{cons_same, same_not_better, carries, neither_better, not_worse, dominating}
use Rattle.goal_vectors.proofs.Sequence.{before_self, before_chain}
use Rattle.goal_vectors.proofs.Items.{none_in_nothing, first_in, later_in, in_cases, all_at, by_presence}

pub reached_length : (model : Model) (scopes : Scopes) (v : List ℤ) → Reaches model scopes v → length v ≡ length (ways_of model)
reached_length model scopes v r =
    sym (ap (λ (xs : List ℤ). length xs) r.has_vector)
    ∙ length-map model.goals (λ g. value_outside model.clafers r.entries (tree g.body))
    ∙ sym (length-map model.goals (λ g. g.least))

-- the same first one, where each first one is one of the other list
first_same : (ways : List Bool) (x y : List ℤ) (xs ys : List (List ℤ)) → list_all (before ways x) xs ≡ true → list_all (before ways y) ys ≡ true
    → (y ≡ x) ⊎ Contains ys x → (x ≡ y) ⊎ Contains xs y → x ≡ y
first_same ways x y xs ys p q (inl e) back = sym e
first_same ways x y xs ys p q (inr i) (inl e) = e
first_same ways x y xs ys p q (inr i) (inr j) =
    differ (before ways x x) (before_chain ways x y x (all_at (before ways x) xs y p j) (all_at (before ways y) ys x q i)) (before_self ways x)

-- behind the same first one
behind : (ways : List Bool) (x y : List ℤ) (xs ys : List (List ℤ)) → x ≡ y → list_all (before ways x) xs ≡ true → (v : List ℤ) → Contains xs v
    → (y ≡ v) ⊎ Contains ys v → Contains ys v
behind ways x y xs ys same p v i (inl e) =
    differ (before ways x v) (all_at (before ways x) xs v p i) (subst (λ t. before ways x t ≡ false) (same ∙ e) (before_self ways x))
behind ways x y xs ys same p v i (inr j) = j

pub ordered_same : (ways : List Bool) (some other : List (List ℤ)) → each_two (before ways) some ≡ true → each_two (before ways) other ≡ true
    → ((v : List ℤ) → Contains some v → Contains other v) → ((v : List ℤ) → Contains other v → Contains some v) → some ≡ other
ordered_same ways [] [] p q to back = refl
ordered_same ways [] (y ∷ ys) p q to back = none_in_nothing y (back y (first_in y ys))
ordered_same ways (x ∷ xs) [] p q to back = none_in_nothing x (to x (first_in x xs))
ordered_same ways (x ∷ xs) (y ∷ ys) p q to back =
    let one : list_all (before ways x) xs ≡ true = and_left (list_all (before ways x) xs) (each_two (before ways) xs) p in
    let two : list_all (before ways y) ys ≡ true = and_left (list_all (before ways y) ys) (each_two (before ways) ys) q in
    let same : x ≡ y = first_same ways x y xs ys one two (in_cases y ys x (to x (first_in x xs))) (in_cases x xs y (back y (first_in y ys))) in
    cons_same same (ordered_same ways xs ys
    (and_right (list_all (before ways x) xs) (each_two (before ways) xs) p)
    (and_right (list_all (before ways y) ys) (each_two (before ways) ys) q)
    (λ v i. behind ways x y xs ys same one v i (in_cases y ys v (to v (later_in x xs v i))))
    (λ v i. behind ways y x ys xs (sym same) two v i (in_cases x xs v (back v (later_in y ys v i)))))

pub fronts_same : (model : Model) (scopes : Scopes) (some other : List (List ℤ)) → IsFront model scopes some → IsFront model scopes other → some ≡ other
fronts_same model scopes some other f g =
    ordered_same (ways_of model) some other f.ordered g.ordered
    (λ v i. (g.members v).1 ((f.members v).0 i))
    (λ v i. (f.members v).1 ((g.members v).0 i))

-- what is at least as good as b is better somewhere than each vector that b is
pub all_carried : (ways : List Bool) (w b : List ℤ) (found : List (List ℤ)) → length w ≡ length b → is_better_somewhere ways b w ≡ false
    → list_all (is_better_somewhere ways b) found ≡ true → list_all (is_better_somewhere ways w) found ≡ true
all_carried ways w b [] e p h = refl
all_carried ways w b (f ∷ found) e p h =
    both (is_better_somewhere ways w f) (list_all (is_better_somewhere ways w) found)
    (carries ways w b f e p (and_left (is_better_somewhere ways b f) (list_all (is_better_somewhere ways b) found) h))
    (all_carried ways w b found e p (and_right (is_better_somewhere ways b f) (list_all (is_better_somewhere ways b) found) h))

-- better somewhere than the found vectors, and dominating the one to improve, if there is one
pub admitted : (ways : List Bool) (question : Question) (v : List ℤ) → list_all (is_better_somewhere ways v) (found_of question) ≡ true
    → option_map_or (λ w. dominates ways v w.values) question.improve true ≡ true → admits ways question v ≡ true
admitted ways question v p q =
    both (list_all (λ f. is_better_somewhere ways v f.values) question.found) (option_map_or (λ w. dominates ways v w.values) question.improve true)
    (sym (list_all-map (is_better_somewhere ways v) (λ f. f.values) question.found) ∙ p) q

pub optimal : (model : Model) (scopes : Scopes) (question : Question) (best : Vector) → question.improve ≡ Some best
    → Reaches model scopes best.values → IsOutside model (found_of question) best.values
    → IsUnanswered model scopes question → IsOptimal model scopes best.values
optimal model scopes question best asked reached outside empty = record {
  reached = reached;
  undominated = λ w r. by_truth (dominates (ways_of model) w best.values)
      (λ t. differ (admits (ways_of model) question w)
      (admitted (ways_of model) question w
      (all_carried (ways_of model) w best.values (found_of question)
      (reached_length model scopes w r ∙ sym (reached_length model scopes best.values reached))
      (not_worse (ways_of model) w best.values t) outside)
      (improves (ways_of model) w question.improve asked t))
      (empty w r))
      (λ n. n);
}
  where
    improves : (ways : List Bool) (w : List ℤ) (o : Option Vector) → o ≡ Some best → dominates ways w best.values ≡ true
        → option_map_or (λ x. dominates ways w x.values) o true ≡ true
    improves ways w o e t = rw e t

-- of two members of the front that differ each is better somewhere
apart : (model : Model) (scopes : Scopes) (f v : List ℤ) → IsOptimal model scopes f → IsOptimal model scopes v → (f ≡ v → ⊥)
    → is_better_somewhere (ways_of model) v f ≡ true
apart model scopes f v f_best v_best different =
    by_truth (is_better_somewhere (ways_of model) v f) (λ t. t)
    (λ n. by_truth (is_better_somewhere (ways_of model) f v)
    (λ t. differ (dominates (ways_of model) f v) (dominating (ways_of model) f v n t) (v_best.undominated f f_best.reached))
    (λ m. absurd (different (neither_better (ways_of model) f v
    (sym (reached_length model scopes f f_best.reached))
    (reached_length model scopes f f_best.reached ∙ sym (reached_length model scopes v v_best.reached)) m n))))

pub still : (model : Model) (scopes : Scopes) (found : List (List ℤ)) (v : List ℤ) → All (IsOptimal model scopes) found
    → IsOptimal model scopes v → (Contains found v → ⊥) → IsOutside model found v
still model scopes [] v all best out = refl
still model scopes (f ∷ found) v all best out =
    both (is_better_somewhere (ways_of model) v f) (list_all (is_better_somewhere (ways_of model) v) found)
    (apart model scopes f v (All-head (IsOptimal model scopes) f found all) best
    (λ e. out (subst (λ z. Contains (f ∷ found) z) e (first_in f found))))
    (still model scopes found v (All-tail (IsOptimal model scopes) f found all) best (λ i. out (later_in f found v i)))

pub whole : (model : Model) (scopes : Scopes) (question : Question) (points : List Point) → question.improve ≡ None
    → found_of question ≡ vectors_of points → ArePoints model scopes points → IsUnanswered model scopes question
    → IsFront model scopes (vectors_of points)
whole model scopes question points asked same are empty = record {
  ordered = are.ordered;
  members = λ v. (
    (λ i. All-contains (IsOptimal model scopes) (vectors_of points) v are.optimal i),
    (λ best. by_presence v (vectors_of points) (λ i. i) (λ out. differ (admits (ways_of model) question v)
        (admitted (ways_of model) question v
        (subst (λ (vs : List (List ℤ)). list_all (is_better_somewhere (ways_of model) v) vs ≡ true) (sym same)
        (still model scopes (vectors_of points) v are.optimal best out))
        (nothing_asked (ways_of model) v question.improve asked))
        (empty v best.reached))),
  );
}
  where
    nothing_asked : (ways : List Bool) (w : List ℤ) (o : Option Vector) → o ≡ None → option_map_or (λ x. dominates ways w x.values) o true ≡ true
    nothing_asked ways w o e = rw e refl

ended : (model : Model) (scopes : Scopes) (found : List (List ℤ)) (gap : List ℤ → ℕ) → FallsByDominance model scopes gap
    → ((v : List ℤ) → IsOptimal model scopes v → Contains found v)
    → (k : ℕ) (w : List ℤ) → gap w < k → Reaches model scopes w → IsOutside model found w → ⊥
ended model scopes found gap falls all zero w h reached outside = absurd (omega (arith, h))
ended model scopes found gap falls all (suc k) w h reached outside =
    differ (is_better_somewhere (ways_of model) w w)
    (all_at (is_better_somewhere (ways_of model) w) found w outside (all w (record {
      reached = reached;
      undominated = λ u r. by_truth (dominates (ways_of model) u w)
          (λ t. absurd (ended model scopes found gap falls all k u
          (less (gap u) (gap w) k (falls u w r reached t) h) r
          (all_carried (ways_of model) u w found
          (reached_length model scopes u r ∙ sym (reached_length model scopes w reached))
          (not_worse (ways_of model) u w t) outside)))
          (λ n. n);
    })))
    (same_not_better (ways_of model) w)
  where
    less : (a b k : ℕ) → a < b → b < suc k → a < k
    less a b k p q = omega (arith, p, q)

pub more : (model : Model) (scopes : Scopes) (found : List (List ℤ)) (w : List ℤ) (gap : List ℤ → ℕ)
    → FallsByDominance model scopes gap → Reaches model scopes w → IsOutside model found w → HasMore model scopes found
more model scopes found w gap falls reached outside = λ all. ended model scopes found gap falls all (suc (gap w)) w (omega arith) reached outside
