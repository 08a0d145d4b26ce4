-- The nodes within the scopes, one clafer more.
use Rattle.std.proofs.Common.{◌≡◌, ℕ, zero, suc, ◌+◌, ◌<◌, ◌≤◌, ◌&&◌, Bool, true, false, List, [], ◌∷◌, ◌++◌, length, map, Some, refl, sym, ap, subst, ◌∙◌, arith, append-nil}
use Rattle.std.specs.Prelude.{slice_get, nat_lt, sum}
use Rattle.std.specs.Option.{option_map_or}
use Rattle.std.specs.List.{flat_map, list_all, range_with_len}
use Rattle.std.proofs.lemmas.Grind.{flat_map-append, common_steps}
use Rattle.std.proofs.lemmas.Bool.{true≢false}
use Rattle.std.proofs.lemmas.List.FromFn.{map-range_with_len_more, length-map-range_with_len}
use Rattle.std.proofs.lemmas.List.Sums.{sum_by-cons}
use Rattle.std.proofs.lemmas.List.{length-append}
use Rattle.std.proofs.lemmas.List.Folds.{list_all-append}
use Rattle.clf_tree.specs.declared.instance.Node.{Node}
use Rattle.clf_tree.specs.declared.scopes.Scopes.{Scopes}
use Rattle.clf_tree.specs.declared.model.Clafer.{Clafer}
use Rattle.clf_tree.specs.Lists.{numbers_below}
use Rattle.clf_tree.specs.Nodes.{scope_of}
use Rattle.set_bits.specs.Fitting.{nodes_below, nodes_within}
use Rattle.instance_encoder.proofs.Below.{numbers-more}

pub nodes_more : (c n : ℕ) → nodes_below c (n + 1) ≡ nodes_below c n ++ record { clafer = c; number = n } ∷ []
nodes_more c n = map-range_with_len_more (λ k. record { clafer = c; number = k }) 0 n n (omega arith)

pub flat-more : {X : Type 0} (f : ℕ → List X) (n : ℕ) → flat_map f (numbers_below (n + 1)) ≡ flat_map f (numbers_below n) ++ f n
flat-more f n = ap (flat_map f) (numbers-more n) ∙ flat_map-append f (numbers_below n) (n ∷ []) ∙ ap (λ xs. flat_map f (numbers_below n) ++ xs) (append-nil (f n))

pub slots_more : (scopes : Scopes) (n scope : ℕ) (before slots : List Node) → slice_get scopes.of n ≡ Some scope → before ≡ flat_map (λ c. nodes_below c (scope_of scopes c)) (numbers_below n) → slots ≡ before ++ nodes_below n scope
    → slots ≡ flat_map (λ c. nodes_below c (scope_of scopes c)) (numbers_below (n + 1))
slots_more scopes n scope before slots at so e =
    let s : scope_of scopes n ≡ scope = rw at refl in
    e ∙ ap (λ xs. xs ++ nodes_below n scope) so ∙ ap (λ k. flat_map (λ c. nodes_below c (scope_of scopes c)) (numbers_below n) ++ nodes_below n k) (sym s) ∙ sym (flat-more (λ c. nodes_below c (scope_of scopes c)) n)

-- each slot is of a clafer of the model
below_n : (c m : ℕ) (ks : List ℕ) → c < m → list_all (λ (x : Node). nat_lt x.clafer m) (map (λ k. record { clafer = c; number = k }) ks) ≡ true
below_n c m [] h = refl
below_n c m (k ∷ ks) h = let rest = below_n c m ks h in let here : nat_lt c m ≡ true = grind (arith, common_steps) in ap (λ b. b && list_all (λ (x : Node). nat_lt x.clafer m) (map (λ j. record { clafer = c; number = j }) ks)) here ∙ rest

known_from : (f : ℕ → ℕ) (m a n : ℕ) → a + n ≤ m → list_all (λ (x : Node). nat_lt x.clafer m) (flat_map (λ c. nodes_below c (f c)) (range_with_len a n)) ≡ true
known_from f m a zero h = refl
known_from f m a (suc n) h =
    list_all-append (λ (x : Node). nat_lt x.clafer m) (nodes_below a (f a)) (flat_map (λ c. nodes_below c (f c)) (range_with_len (a + 1) n))
    ∙ ap (λ b. b && list_all (λ (x : Node). nat_lt x.clafer m) (flat_map (λ c. nodes_below c (f c)) (range_with_len (a + 1) n))) (below_n a m (numbers_below (f a)) (omega arith))
    ∙ known_from f m (a + 1) n (omega arith)

pub slots_known : (clafers : List Clafer) (scopes : Scopes) (slots : List Node) → slots ≡ nodes_within clafers scopes → list_all (λ (x : Node). nat_lt x.clafer (length clafers)) slots ≡ true
slots_known clafers scopes slots e = rw e (known_from (scope_of scopes) (length clafers) 0 (length clafers) (omega arith))

all_at : (p : Node → Bool) (xs : List Node) (i : ℕ) (x : Node) → list_all p xs ≡ true → slice_get xs i ≡ Some x → p x ≡ true
all_at p [] i x all at = cc
all_at p (y ∷ ys) zero x all at = let e : y ≡ x = grind arith in subst (λ z. p z ≡ true) e (first (p y) (list_all p ys) all)
  where
    first : (a b : Bool) → (a && b) ≡ true → a ≡ true
    first true b h = refl
    first false b h = absurd (true≢false (sym h))
all_at p (y ∷ ys) (suc i) x all at = all_at p ys i x (second (p y) (list_all p ys) all) at
  where
    second : (a b : Bool) → (a && b) ≡ true → b ≡ true
    second true b h = h
    second false b h = absurd (true≢false (sym h))

pub known_at : (m : ℕ) (slots : List Node) (i : ℕ) (node : Node) → list_all (λ (x : Node). nat_lt x.clafer m) slots ≡ true → slice_get slots i ≡ Some node → node.clafer < m
known_at m slots i node all at = let h = all_at (λ (x : Node). nat_lt x.clafer m) slots i node all at in grind (arith, common_steps)

-- there are as many as the scopes say
length-nodes_below : (c n : ℕ) → length (nodes_below c n) ≡ n
length-nodes_below c n = length-map-range_with_len (λ k. record { clafer = c; number = k }) 0 n

length_from : (of : List ℕ) (f : ℕ → ℕ) (a : ℕ) → ((i : ℕ) → f (a + i) ≡ option_map_or (λ n. n) (slice_get of i) 0) → length (flat_map (λ c. nodes_below c (f c)) (range_with_len a (length of))) ≡ sum of
length_from [] f a at = refl
length_from (x ∷ of) f a at =
    let here : f a ≡ x = ap f (omega arith) ∙ at 0 in
    length-append (nodes_below a (f a)) (flat_map (λ c. nodes_below c (f c)) (range_with_len (a + 1) (length of)))
    ∙ ap (λ k. k + length (flat_map (λ c. nodes_below c (f c)) (range_with_len (a + 1) (length of)))) (length-nodes_below a (f a) ∙ here)
    ∙ ap (λ k. x + k) (length_from of f (a + 1) (λ i. ap f (omega arith) ∙ at (suc i)))
    ∙ sym (sum_by-cons (λ (n : ℕ). n) x of)

pub slots_total : (clafers : List Clafer) (scopes : Scopes) (slots : List Node) → slots ≡ nodes_within clafers scopes → length scopes.of ≡ length clafers → length slots ≡ sum scopes.of
slots_total clafers scopes slots e l =
    ap length e ∙ ap (λ n. length (flat_map (λ c. nodes_below c (scope_of scopes c)) (range_with_len 0 n))) (sym l)
    ∙ length_from scopes.of (scope_of scopes) 0 (λ i. ap (scope_of scopes) (omega arith))
