-- Quantifiers whose tests agree on all tuples.
use Rattle.std.proofs.Common.{◌≡◌, ℕ, zero, suc, ◌+◌, Bool, true, false, not, cond, ◌&&◌, ◌||◌, List, [], ◌∷◌, ◌++◌, map, length, refl, ap, ◌∙◌}
use Rattle.std.specs.Prelude.{◌==◌, nat_le}
use Rattle.std.specs.List.{fold, filter, list_any, list_all, flat_map, AllByRecursion}
use Rattle.clf_tree.specs.declared.token.Word.{Word}
use Rattle.clf_tree.specs.declared.token.Word.TheVariants as word
use Rattle.clf_tree.specs.declared.instance.Node.{Node}
use Rattle.clf_tree.specs.Lists.{tuples, each_two}
use Rattle.clf_tree.specs.Nodes.{same_node}
use Rattle.clf_tree.specs.Meaning.{tried, quantified}
use Rattle.model_evaluator.proofs.BooleanTests.{both, and_parts, and_all}

all-append : {X : Type 0} (P : X → Type 0) (xs ys : List X) → AllByRecursion P xs → AllByRecursion P ys → AllByRecursion P (xs ++ ys)
all-append P [] ys h k = k
all-append P (x ∷ xs) ys h k = (h.0, all-append P xs ys h.1 k)

all-filter : {X : Type 0} (P : X → Type 0) (p : X → Bool) (xs : List X) → AllByRecursion P xs → AllByRecursion P (filter p xs)
all-filter P p [] h = tt
all-filter P p (x ∷ xs) h = pick (p x) (all-filter P p xs h.1)
  where
    pick : (b : Bool) → AllByRecursion P (filter p xs) → AllByRecursion P (cond b (x ∷ filter p xs) (filter p xs))
    pick true k = (h.0, k)
    pick false k = k

-- each tuple has as many items as asked for, and all of them pass a test
abbrev pub Fits : (Node → Bool) → ℕ → List Node → Type 0
Fits p n t = (length t ≡ n) × (list_all p t ≡ true)

longer : (p : Node → Bool) (n : ℕ) (x : Node) (ts : List (List Node)) → p x ≡ true → AllByRecursion (Fits p n) ts → AllByRecursion (Fits p (suc n)) (map (λ t. x ∷ t) ts)
longer p n x [] here h = tt
longer p n x (t ∷ ts) here h = ((ap suc h.0.0, and_all (p x) (list_all p t) here h.0.1), longer p n x ts here h.1)

longer_each : (p : Node → Bool) (n : ℕ) (xs : List Node) (ts : List (List Node)) → list_all p xs ≡ true → AllByRecursion (Fits p n) ts
    → AllByRecursion (Fits p (suc n)) (flat_map (λ x. map (λ t. x ∷ t) ts) xs)
longer_each p n [] ts all h = tt
longer_each p n (x ∷ xs) ts all h =
    let j = and_parts (p x) (list_all p xs) all in
    all-append (Fits p (suc n)) (map (λ t. x ∷ t) ts) (flat_map (λ y. map (λ t. y ∷ t) ts) xs) (longer p n x ts j.0 h) (longer_each p n xs ts j.1 h)

tuples-fit : (p : Node → Bool) (n : ℕ) (xs : List Node) → list_all p xs ≡ true → AllByRecursion (Fits p n) (tuples n xs)
tuples-fit p zero xs all = ((refl, refl), tt)
tuples-fit p (suc n) xs all = longer_each p n xs (tuples n xs) all (tuples-fit p n xs all)

pub tried-fit : (p : Node → Bool) (disj : Bool) (n : ℕ) (xs : List Node) → list_all p xs ≡ true → AllByRecursion (Fits p n) (tried disj n xs)
tried-fit p true n xs all = all-filter (Fits p n) (each_two (λ a b. not (same_node a b))) (tuples n xs) (tuples-fit p n xs all)
tried-fit p false n xs all = tuples-fit p n xs all

module _ (P : List Node → Type 0) (f g : List Node → Bool) (agree : (t : List Node) → P t → f t ≡ g t) where
  all-agree : (ts : List (List Node)) → AllByRecursion P ts → list_all f ts ≡ list_all g ts
  all-agree [] h = refl
  all-agree (t ∷ ts) h = both (λ a b. a && b) (agree t h.0) (all-agree ts h.1)

  any-agree : (ts : List (List Node)) → AllByRecursion P ts → list_any f ts ≡ list_any g ts
  any-agree [] h = refl
  any-agree (t ∷ ts) h = both (λ a b. a || b) (agree t h.0) (any-agree ts h.1)

  count-agree : (k : ℕ) (ts : List (List Node)) → AllByRecursion P ts → fold (λ a t. a + cond (f t) 1 0) k ts ≡ fold (λ a t. a + cond (g t) 1 0) k ts
  count-agree k [] h = refl
  count-agree k (t ∷ ts) h = ap (λ b. fold (λ a t. a + cond (f t) 1 0) (k + cond b 1 0) ts) (agree t h.0) ∙ count-agree (k + cond (g t) 1 0) ts h.1

  pub quantified-agree : (w : Word) (ts : List (List Node)) → AllByRecursion P ts → quantified w f ts ≡ quantified w g ts
  quantified-agree word.All ts h = all-agree ts h
  quantified-agree word.Some ts h = any-agree ts h
  quantified-agree word.No ts h = ap not (any-agree ts h)
  quantified-agree word.One ts h = ap (λ k. k == 1) (count-agree 0 ts h)
  quantified-agree word.Lone ts h = ap (λ k. nat_le k 1) (count-agree 0 ts h)
  quantified-agree _ ts h = refl
