-- Sums over slots are sums over clafers.
use Rattle.std.proofs.Common.{◌≡◌, ℕ, ◌*◌, ◌≤◌, Bool, true, false, cond, ◌||◌, List, [], ◌∷◌, length, map, sum, refl, sym, ap, ◌∙◌, arith}
use Rattle.std.specs.Prelude.{◌==◌}
use Rattle.std.specs.List.{filter, sum_by, count_by}
use Rattle.std.proofs.lemmas.Bool.{true≢false}
use Rattle.std.proofs.lemmas.List.Sums.{sum-map}
use Rattle.std.proofs.lemmas.List.FromFn.{length-range_with_len}
use Rattle.clf_tree.specs.declared.model.Clafer.{Clafer}
use Rattle.clf_tree.specs.declared.instance.Node.{Node}
use Rattle.clf_tree.specs.declared.scopes.Scopes.{Scopes}
use Rattle.clf_tree.specs.Lists.{numbers_below, has}
use Rattle.clf_tree.specs.Nodes.{scope_of}
use Rattle.set_bits.specs.Fitting.{nodes_below, nodes_within, slot_clafer}
use Rattle.instance_encoder.proofs.Totals.{sum-each, sum-mapped, sum-filtered, sum-flat, sum-constant, sum-places}

-- what the slots have in all, where each has as much as its clafer says
abbrev pub by_slots : List Node → (ℕ → ℕ) → ℕ
by_slots slots f = sum_by (λ i. f (slot_clafer slots i)) (numbers_below (length slots))

-- the same by clafers
abbrev pub by_clafers : List Clafer → Scopes → (ℕ → ℕ) → ℕ
by_clafers clafers scopes f = sum_by (λ c. scope_of scopes c * f c) (numbers_below (length clafers))

nodes_of_one : (f : ℕ → ℕ) (c m : ℕ) → sum_by (λ (x : Node). f x.clafer) (nodes_below c m) ≡ m * f c
nodes_of_one f c m =
    sum-mapped (λ (x : Node). f x.clafer) (λ k. record { clafer = c; number = k }) (numbers_below m) ∙ sum-constant (f c) (numbers_below m)
    ∙ ap (λ k. k * f c) (length-range_with_len 0 m)

pub regrouped : (clafers : List Clafer) (scopes : Scopes) (slots : List Node) (f : ℕ → ℕ) → slots ≡ nodes_within clafers scopes → by_slots slots f ≡ by_clafers clafers scopes f
regrouped clafers scopes slots f e =
    sum-places (λ (x : Node). f x.clafer) (record { clafer = 0; number = 0 }) slots ∙ ap (sum_by (λ (x : Node). f x.clafer)) e
    ∙ sum-flat (λ (x : Node). f x.clafer) (λ c. nodes_below c (scope_of scopes c)) (numbers_below (length clafers))
    ∙ sum-each (λ c. sum_by (λ (x : Node). f x.clafer) (nodes_below c (scope_of scopes c))) (λ c. scope_of scopes c * f c) (numbers_below (length clafers)) (λ c. nodes_of_one f c (scope_of scopes c))

-- ---- slots of the clafers that pass a test

-- the scopes of the clafers that pass a test
abbrev pub room_of : List Clafer → Scopes → (ℕ → Bool) → ℕ
room_of clafers scopes q = sum (map (scope_of scopes) (filter q (numbers_below (length clafers))))

when : (s : ℕ) (b : Bool) → s * cond b 1 0 ≡ cond b s 0
when s true = omega arith
when s false = omega arith

pub slots_of : (clafers : List Clafer) (scopes : Scopes) (slots : List Node) (q : ℕ → Bool) → slots ≡ nodes_within clafers scopes
    → count_by (λ i. q (slot_clafer slots i)) (numbers_below (length slots)) ≡ room_of clafers scopes q
slots_of clafers scopes slots q e =
    regrouped clafers scopes slots (λ c. cond (q c) 1 0) e
    ∙ sum-each (λ c. scope_of scopes c * cond (q c) 1 0) (λ c. cond (q c) (scope_of scopes c) 0) (numbers_below (length clafers)) (λ c. when (scope_of scopes c) (q c))
    ∙ sym (sum-map (scope_of scopes) (filter q (numbers_below (length clafers))) ∙ sum-filtered (scope_of scopes) q (numbers_below (length clafers)))

-- ---- lists of clafers that pass a test

pub kept_has : (q : ℕ → Bool) (xs : List ℕ) (x : ℕ) → has (filter q xs) x ≡ true → q x ≡ true
kept_has q [] x h = absurd (true≢false (sym h))
kept_has q (y ∷ ys) x h = by (q y) refl h (kept_has q ys x)
  where
    by : (b : Bool) → q y ≡ b → has (cond b (y ∷ filter q ys) (filter q ys)) x ≡ true → (has (filter q ys) x ≡ true → q x ≡ true) → q x ≡ true
    by false t h rest = rest h
    by true t h rest = at (x == y) refl h
      where
        at : (b : Bool) → (x == y) ≡ b → (b || has (filter q ys) x) ≡ true → q x ≡ true
        at false e h = rest h
        at true e h = ap q (same x y e) ∙ t
          where
            same : (a b : ℕ) → (a == b) ≡ true → a ≡ b
            same a b e = grind arith

pub one_or_none : (a b : Bool) → (a ≡ true → b ≡ true) → cond a 1 0 ≤ cond b 1 0
one_or_none false b h = omega arith
one_or_none true true h = omega arith
one_or_none true false h = absurd (true≢false (sym (h refl)))
