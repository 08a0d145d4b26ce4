-- A further point in its place.
use Rattle.std.proofs.Common.{◌≡◌, ℕ, suc, ◌+◌, Bool, true, false, List, [], ◌∷◌, map}
use Rattle.std.proofs.Common.{refl, sym, ap, subst, ◌∙◌, arith, ℤ, ◌⊎◌, inl, inr}
use Rattle.std.specs.List.{All, insert, prefix_len, list_all}
use Rattle.std.proofs.lemmas.List.Elements.{All-nil, All-cons, All-head, All-tail}
use Rattle.clf_tree.specs.declared.model.Model.{Model}
use Rattle.clf_tree.specs.declared.scopes.Scopes.{Scopes}
use Rattle.clf_tree.specs.declared.vector.Point.{Point}
use Rattle.clf_tree.specs.Front.{is_better_somewhere, before, ways_of, IsOptimal}
use Rattle.clf_tree.specs.Lists.{each_two}
use Rattle.goal_vectors.specs.Points.{vectors_of, ArePoints, IsWitnessed}
use Rattle.goal_vectors.proofs.Fronts.{reached_length}
use Rattle.goal_vectors.proofs.Sequence.{before_chain, one_is_before}
use Rattle.goal_vectors.proofs.Truths.{by_truth, differ, and_left, and_right, both}
use Rattle.goal_vectors.proofs.Vectors.{same_not_better}
use Rattle.model_reader.specs.declared.reader.Read.{Read}
use Rattle.pareto_loop.specs.Searching.{IsFurther}

-- x behind the first items that pass
abbrev pub placed : {X : Type 0} → (X → Bool) → List X → X → List X
placed q xs x = insert xs (prefix_len q xs) x

-- the first item passes, or not
counted : {X : Type 0} (q : X → Bool) (y : X) (ys : List X) → q y ≡ true → prefix_len q (y ∷ ys) ≡ suc (prefix_len q ys)
counted q y ys h = rw h (after_one (prefix_len q ys))
  where
    after_one : (n : ℕ) → 1 + n ≡ suc n
    after_one n = omega arith

passed : {X : Type 0} (q : X → Bool) (y : X) (ys : List X) (x : X) → q y ≡ true → placed q (y ∷ ys) x ≡ y ∷ placed q ys x
passed q y ys x h = ap (λ n. insert (y ∷ ys) n x) (counted q y ys h)

stopped : {X : Type 0} (q : X → Bool) (y : X) (ys : List X) (x : X) → q y ≡ false → placed q (y ∷ ys) x ≡ x ∷ y ∷ ys
stopped q y ys x h = rw h refl

placed_all : {X : Type 0} (P : X → Type 0) (q : X → Bool) (xs : List X) (x : X) → All P xs → P x → All P (placed q xs x)
placed_all P q [] x all here = All-cons P x [] here (All-nil P)
placed_all P q (y ∷ ys) x all here =
    by_truth (q y)
    (λ t. subst (All P) (sym (passed q y ys x t))
    (All-cons P y (placed q ys x) (All-head P y ys all) (placed_all P q ys x (All-tail P y ys all) here)))
    (λ f. subst (All P) (sym (stopped q y ys x f)) (All-cons P x (y ∷ ys) here all))

placed_pass : {X : Type 0} (t : X → Bool) (q : X → Bool) (xs : List X) (x : X) → list_all t xs ≡ true → t x ≡ true
    → list_all t (placed q xs x) ≡ true
placed_pass t q [] x all here = both (t x) true here refl
placed_pass t q (y ∷ ys) x all here =
    by_truth (q y)
    (λ p. subst (λ zs. list_all t zs ≡ true) (sym (passed q y ys x p))
    (both (t y) (list_all t (placed q ys x)) (and_left (t y) (list_all t ys) all)
    (placed_pass t q ys x (and_right (t y) (list_all t ys) all) here)))
    (λ p. subst (λ zs. list_all t zs ≡ true) (sym (stopped q y ys x p)) (both (t x) (list_all t (y ∷ ys)) here all))

placed_map : {X Y : Type 0} (f : X → Y) (q : Y → Bool) (xs : List X) (x : X)
    → map f (placed (λ z. q (f z)) xs x) ≡ placed q (map f xs) (f x)
placed_map f q [] x = refl
placed_map f q (y ∷ ys) x =
    by_truth (q (f y))
    (λ t. ap (map f) (passed (λ z. q (f z)) y ys x t) ∙ ap (λ zs. f y ∷ zs) (placed_map f q ys x) ∙ sym (passed q (f y) (map f ys) (f x) t))
    (λ n. ap (map f) (stopped (λ z. q (f z)) y ys x n) ∙ sym (stopped q (f y) (map f ys) (f x) n))

module _ (model : Model) (scopes : Scopes) (v : List ℤ) (best : IsOptimal model scopes v) where
  -- a member of the front that isn't before v is behind it, where v is better somewhere
  behind : (u : List ℤ) → IsOptimal model scopes u → is_better_somewhere (ways_of model) v u ≡ true → before (ways_of model) u v ≡ false
      → before (ways_of model) v u ≡ true
  behind u other better not_before =
      second (one_is_before (ways_of model) u v (sym (reached_length model scopes u other.reached))
      (reached_length model scopes u other.reached ∙ sym (reached_length model scopes v best.reached))
      (λ e. differ (is_better_somewhere (ways_of model) v u) better
      (subst (λ (w : List ℤ). is_better_somewhere (ways_of model) v w ≡ false) (sym e) (same_not_better (ways_of model) v))))
    where
      second : ((before (ways_of model) u v ≡ true) × (before (ways_of model) v u ≡ false))
          ⊎ ((before (ways_of model) u v ≡ false) × (before (ways_of model) v u ≡ true)) → before (ways_of model) v u ≡ true
      second (inl p) = differ (before (ways_of model) u v) p.0 not_before
      second (inr p) = p.1

  -- what is behind a vector that v is before
  behind_all : (u : List ℤ) (us : List (List ℤ)) → before (ways_of model) v u ≡ true → list_all (before (ways_of model) u) us ≡ true
      → list_all (before (ways_of model) v) us ≡ true
  behind_all u [] first all = refl
  behind_all u (w ∷ us) first all =
      both (before (ways_of model) v w) (list_all (before (ways_of model) v) us)
      (before_chain (ways_of model) v u w first (and_left (before (ways_of model) u w) (list_all (before (ways_of model) u) us) all))
      (behind_all u us first (and_right (before (ways_of model) u w) (list_all (before (ways_of model) u) us) all))

  placed_ordered : (us : List (List ℤ)) → All (IsOptimal model scopes) us → list_all (is_better_somewhere (ways_of model) v) us ≡ true
      → each_two (before (ways_of model)) us ≡ true
      → each_two (before (ways_of model)) (placed (λ u. before (ways_of model) u v) us v) ≡ true
  placed_ordered [] all outside ordered = refl
  placed_ordered (u ∷ us) all outside ordered =
      let q = λ (w : List ℤ). before (ways_of model) w v in
      let first = and_left (list_all (before (ways_of model) u) us) (each_two (before (ways_of model)) us) ordered in
      let rest = and_right (list_all (before (ways_of model) u) us) (each_two (before (ways_of model)) us) ordered in
      by_truth (before (ways_of model) u v)
      (λ t. subst (λ (ws : List (List ℤ)). each_two (before (ways_of model)) ws ≡ true) (sym (passed q u us v t))
      (both (list_all (before (ways_of model) u) (placed q us v)) (each_two (before (ways_of model)) (placed q us v))
      (placed_pass (before (ways_of model) u) q us v first t)
      (placed_ordered us (All-tail (IsOptimal model scopes) u us all)
      (and_right (is_better_somewhere (ways_of model) v u) (list_all (is_better_somewhere (ways_of model) v) us) outside) rest)))
      (λ n. subst (λ (ws : List (List ℤ)). each_two (before (ways_of model)) ws ≡ true) (sym (stopped q u us v n))
      (both (list_all (before (ways_of model) v) (u ∷ us)) (each_two (before (ways_of model)) (u ∷ us))
      (ahead u us all outside n first) ordered))
    where
      ahead : (u : List ℤ) (us : List (List ℤ)) → All (IsOptimal model scopes) (u ∷ us)
          → list_all (is_better_somewhere (ways_of model) v) (u ∷ us) ≡ true → before (ways_of model) u v ≡ false
          → list_all (before (ways_of model) u) us ≡ true → list_all (before (ways_of model) v) (u ∷ us) ≡ true
      ahead u us all outside n first =
          let t = behind u (All-head (IsOptimal model scopes) u us all)
          (and_left (is_better_somewhere (ways_of model) v u) (list_all (is_better_somewhere (ways_of model) v) us) outside) n in
          both (before (ways_of model) v u) (list_all (before (ways_of model) v) us) t (behind_all u us t first)

-- all stay members of the front, in order, each with its witness
pub placed_points : (read : Read) (points : List Point) (p : Point) → ArePoints read.model read.scopes points → IsFurther read points p
    → ArePoints read.model read.scopes (placed (λ x. before (ways_of read.model) x.vector.values p.vector.values) points p)
placed_points read points p are further =
    let q = λ (u : List ℤ). before (ways_of read.model) u p.vector.values in
    let same = placed_map (λ (x : Point). x.vector.values) q points p in
    record {
      ordered = subst (λ (vs : List (List ℤ)). each_two (before (ways_of read.model)) vs ≡ true) (sym same)
          (placed_ordered read.model read.scopes p.vector.values further.optimal (vectors_of points)
          are.optimal further.way.outside are.ordered);
      optimal = subst (All (IsOptimal read.model read.scopes)) (sym same)
          (placed_all (IsOptimal read.model read.scopes) q (vectors_of points) p.vector.values are.optimal further.optimal);
      witnessed = placed_all (IsWitnessed read.model read.scopes) (λ (x : Point). q x.vector.values) points p
          are.witnessed further.way.witnessed;
    }
