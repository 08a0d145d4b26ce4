-- The test of canonical instances is exact.
use Rattle.std.proofs.Common.{◌≡◌, ℕ, zero, suc, ◌+◌, ◌<◌, ◌≤◌, max, Bool, true, false, cond, not, ◌&&◌, ◌||◌, ◌⊎◌, inl, inr, ◌↔◌, List, [], ◌∷◌, refl, ap, sym, subst, ◌∙◌, arith}
use Rattle.std.specs.Prelude.{nat_lt, ◌==◌, IsTrue}
use Rattle.std.specs.List.{list_all, Contains}
use Rattle.std.proofs.lemmas.Bool.{true≢false}
use Rattle.std.proofs.lemmas.Bool.Decides.{nat_tests}
use Rattle.std.proofs.lemmas.Grind.{common_steps}
use Rattle.clf_tree.specs.declared.model.Clafer.{Clafer}
use Rattle.clf_tree.specs.declared.instance.Node.{Node}
use Rattle.clf_tree.specs.declared.instance.Entry.{Entry}
use Rattle.clf_tree.specs.Lists.{numbers_below, each_two}
use Rattle.clf_tree.specs.Nodes.{same_node, is_before, has_node, nodes_of, is_ordered}
use Rattle.clf_tree.proofs.Items.{In, first, later, and_left, and_right, all_in, in_range}
use Rattle.canonical_instances.specs.Canonical.{fills_numbers, follows_parents, is_no_later, keep_order, is_canonical, IsCanonical}
use Rattle.canonical_instances.proofs.Contained.{contained, in_contained}
use Rattle.canonical_instances.proofs.Law.{both, all_from, two_from}
use Rattle.canonical_instances.proofs.Renamed.{all_range}

-- ---- the numbers of a clafer

-- one more than the greatest number of a clafer's entries
abbrev bound : ℕ → List Entry → ℕ
bound c [] = 0
bound c (e ∷ es) = cond (c == e.node.clafer) (max (e.node.number + 1) (bound c es)) (bound c es)

same_test : (m n : Node) → same_node m n ≡ true → (m.clafer ≡ n.clafer) × (m.number ≡ n.number)
same_test m n h = (grind (arith, common_steps), grind (arith, common_steps))

same_from : (m n : Node) → m.clafer ≡ n.clafer → m.number ≡ n.number → same_node m n ≡ true
same_from m n e f = grind (arith, common_steps)

equal_test : (a b : ℕ) → a ≡ b → (a == b) ≡ true
equal_test a b e = grind (arith, common_steps)

equal_from : (a b : ℕ) → (a == b) ≡ true → a ≡ b
equal_from a b e = grind (arith, common_steps)

less_from : (a b : ℕ) → nat_lt a b ≡ true → a < b
less_from a b h = grind (arith, nat_tests)

less_test : (a b : ℕ) → a < b → nat_lt a b ≡ true
less_test a b h = grind (arith, nat_tests)

bound_rises : (c : ℕ) (e : Entry) (es : List Entry) → bound c es ≤ bound c (e ∷ es)
bound_rises c e es = by (c == e.node.clafer)
  where
    by : (b : Bool) → bound c es ≤ cond b (max (e.node.number + 1) (bound c es)) (bound c es)
    by true = omega arith
    by false = omega arith

below_bound : (c k : ℕ) (es : List Entry) → has_node (nodes_of es) (record { clafer = c; number = k }) ≡ true → k < bound c es
below_bound c k [] h = absurd (true≢false (sym h))
below_bound c k (e ∷ es) h = by (same_node (record { clafer = c; number = k }) e.node) refl (below_bound c k es)
  where
    rest_has : Bool
    rest_has = has_node (nodes_of es) (record { clafer = c; number = k })

    greater : (b : Bool) → b ≡ true → e.node.number + 1 ≤ cond b (max (e.node.number + 1) (bound c es)) (bound c es)
    greater true h = omega arith
    greater false h = absurd (true≢false (sym h))

    by : (b : Bool) → same_node (record { clafer = c; number = k }) e.node ≡ b → (rest_has ≡ true → k < bound c es) → k < bound c (e ∷ es)
    by true t rest =
        let s = same_test (record { clafer = c; number = k }) e.node t in
        let p = s.1 in
        let q = greater (c == e.node.clafer) (equal_test c e.node.clafer s.0) in
        omega (arith, p, q)
    by false t rest =
        let p = rest (sym (ap (λ b. b || rest_has) t) ∙ h) in
        let q = bound_rises c e es in
        omega (arith, p, q)

-- the entry with the greatest number
record HasLast (c n : ℕ) (es : List Entry) : Type 0 where
  item : Entry
  in_list : In item es
  clafer : item.node.clafer ≡ c
  number : item.node.number ≡ n

last_of : (c n : ℕ) (es : List Entry) → bound c es ≡ suc n → HasLast c n es
last_of c n [] h = absurd (omega (arith, h))
last_of c n (e ∷ es) h = by (c == e.node.clafer) refl h (last_of c n es)
  where
    behind : HasLast c n es → HasLast c n (e ∷ es)
    behind r = record { item = r.item; in_list = later r.in_list; clafer = r.clafer; number = r.number }

    greatest : c ≡ e.node.clafer → (b : Bool) → nat_lt (bound c es) (e.node.number + 1) ≡ b → max (e.node.number + 1) (bound c es) ≡ suc n
        → (bound c es ≡ suc n → HasLast c n es) → HasLast c n (e ∷ es)
    greatest s true t m rest = let l = less_from (bound c es)
        (e.node.number + 1) t in record { item = e; in_list = first; clafer = sym s; number = omega (arith, l, m) }
    greatest s false t m rest = behind (rest (reached (bound c es) e.node.number n t m))
      where
        reached : (a b n : ℕ) → nat_lt a (b + 1) ≡ false → max (b + 1) a ≡ suc n → a ≡ suc n
        reached a b n t m = let l : b + 1 ≤ a = grind (arith, nat_tests) in omega (arith, l, m)

    by : (b : Bool) → (c == e.node.clafer) ≡ b → cond b (max (e.node.number + 1) (bound c es)) (bound c es) ≡ suc n
        → (bound c es ≡ suc n → HasLast c n es) → HasLast c n (e ∷ es)
    by true t m rest = greatest (equal_from c e.node.clafer t) (nat_lt (bound c es) (e.node.number + 1)) refl m rest
    by false t m rest = behind (rest m)

node_in : (es : List Entry) (e : Entry) (n : Node) → In e es → same_node n e.node ≡ true → has_node (nodes_of es) n ≡ true
node_in _ e n (first {xs = es}) h = ap (λ b. b || has_node (nodes_of es) n) h
node_in _ e n (later {y = y} {xs = es} i) h = or_true (same_node n y.node) (has_node (nodes_of es) n) (node_in es e n i h)
  where
    or_true : (a b : Bool) → b ≡ true → (a || b) ≡ true
    or_true true b h = refl
    or_true false b h = h

same_truth : (a b : Bool) → (a ≡ true → b ≡ true) → (b ≡ true → a ≡ true) → a ≡ b
same_truth true true f g = refl
same_truth true false f g = sym (f refl)
same_truth false true f g = g refl
same_truth false false f g = refl

-- all numbers below it are there
filled : (es : List Entry) (c k n : ℕ) → list_all (fills_numbers es) es ≡ true → bound c es ≡ n → k < n
    → has_node (nodes_of es) (record { clafer = c; number = k }) ≡ true
filled es c k zero h e l = absurd (omega (arith, l))
filled es c k (suc n) h e l = by (nat_lt k n) refl
  where
    last : HasLast c n es
    last = last_of c n es e

    from_zero : (k : ℕ) → 0 + k ≡ k
    from_zero k = omega arith

    is_last : (k n : ℕ) → nat_lt k n ≡ false → k < suc n → k ≡ n
    is_last k n t l = grind (arith, nat_tests)

    by : (b : Bool) → nat_lt k n ≡ b → has_node (nodes_of es) (record { clafer = c; number = k }) ≡ true
    by true t =
        let less = less_from k n t in
        let same = last.number in
        ap (λ d. has_node (nodes_of es) (record { clafer = d; number = k })) (sym last.clafer)
        ∙ all_in (λ j. has_node (nodes_of es) (record { clafer = last.item.node.clafer; number = j }))
        (numbers_below last.item.node.number) k
        (subst (λ j. In j (numbers_below last.item.node.number)) (from_zero k)
        (in_range last.item.node.number 0 k (omega (arith, less, same))))
        (all_in (fills_numbers es) es last.item last.in_list h)
    by false t =
        let same = is_last k n t l in
        node_in es last.item (record { clafer = c; number = k }) last.in_list
        (same_from (record { clafer = c; number = k }) last.item.node (sym last.clafer) (same ∙ sym last.number))

numbered : (es : List Entry) → list_all (fills_numbers es) es ≡ true → (c k : ℕ)
    → has_node (nodes_of es) (record { clafer = c; number = k }) ≡ nat_lt k (bound c es)
numbered es h c k = same_truth (has_node (nodes_of es) (record { clafer = c; number = k })) (nat_lt k (bound c es))
    (λ t. less_test k (bound c es) (below_bound c k es t)) (λ t. filled es c k (bound c es) h refl (less_from k (bound c es) t))

-- ---- the order of two entries

-- two tests of each two
each_both : {X : Type 0} (s t : X → X → Bool) (xs : List X) → each_two s xs ≡ true → each_two t xs ≡ true
    → each_two (λ x y. s x y && t x y) xs ≡ true
each_both s t [] p q = refl
each_both s t (x ∷ xs) p q =
    both (list_all (λ y. s x y && t x y) xs) (each_two (λ y z. s y z && t y z) xs)
    (all_from (λ y. s x y && t x y) xs
    (λ y i. both (s x y) (t x y) (all_in (s x) xs y i (and_left (list_all (s x) xs) (each_two s xs) p))
    (all_in (t x) xs y i (and_left (list_all (t x) xs) (each_two t xs) q))))
    (each_both s t xs (and_right (list_all (s x) xs) (each_two s xs) p) (and_right (list_all (t x) xs) (each_two t xs) q))

at_front : {X : Type 0} (x y : X) (xs : List X) → In y (x ∷ xs) → (y ≡ x) ⊎ In y xs
at_front _ y xs (first {x = _}) = inl refl
at_front x y xs (later i) = inr i

-- of two items the test holds one way round, if they differ
either_way : {X : Type 0} (t : X → X → Bool) (xs : List X) (x y : X) → each_two t xs ≡ true → In x xs → In y xs
    → (x ≡ y) ⊎ ((t x y ≡ true) ⊎ (t y x ≡ true))
either_way t [] x y h i j = elim i [ ]
either_way t (z ∷ zs) x y h i j = by (at_front z x zs i) (at_front z y zs j)
    (either_way t zs x y (and_right (list_all (t z) zs) (each_two t zs) h))
  where
    ahead : list_all (t z) zs ≡ true
    ahead = and_left (list_all (t z) zs) (each_two t zs) h

    by : (x ≡ z) ⊎ In x zs → (y ≡ z) ⊎ In y zs → (In x zs → In y zs → (x ≡ y) ⊎ ((t x y ≡ true) ⊎ (t y x ≡ true)))
        → (x ≡ y) ⊎ ((t x y ≡ true) ⊎ (t y x ≡ true))
    by (inl e) (inl f) rest = inl (e ∙ sym f)
    by (inl e) (inr b) rest = inr (inl (ap (λ w. t w y) e ∙ all_in (t z) zs y b ahead))
    by (inr a) (inl f) rest = inr (inr (ap (λ w. t w x) f ∙ all_in (t z) zs x a ahead))
    by (inr a) (inr b) rest = rest a b

module _ (clafers : List Clafer) (es : List Entry) (ordered : is_ordered es ≡ true) where
  abbrev before : Entry → Entry → Bool
  before x y = is_before x.node y.node

  less_before : (m n : Node) → is_before m n ≡ true → m.clafer ≡ n.clafer → m.number < n.number
  less_before m n h e = grind (arith, nat_tests, common_steps)

  -- the test says it of the entries
  in_order : each_two (keep_order clafers) es ≡ true → (d e : Entry) → Contains es d → Contains es e → d.node.clafer ≡ e.node.clafer
      → d.node.number < e.node.number
      → follows_parents clafers d.node.clafer ≡ true → is_no_later d.parent e.parent ≡ true
  in_order h d e i j same less follows =
      by (either_way (λ x y. before x y && keep_order clafers x y) es d e (each_both before (keep_order clafers) es ordered h)
      (in_contained es d i) (in_contained es e j))
    where
      implied : (a b : Bool) → a ≡ true → (not a || b) ≡ true → b ≡ true
      implied true b p q = q
      implied false b p q = absurd (true≢false (sym p))

      by : (d ≡ e) ⊎ (((before d e && keep_order clafers d e) ≡ true) ⊎ ((before e d && keep_order clafers e d) ≡ true))
          → is_no_later d.parent e.parent ≡ true
      by (inl s) = let p = ap (λ (x : Entry). x.node.number) s in absurd (omega (arith, p, less))
      by (inr (inl t)) =
          implied ((d.node.clafer == e.node.clafer) && follows_parents clafers d.node.clafer) (is_no_later d.parent e.parent)
          (both (d.node.clafer == e.node.clafer) (follows_parents clafers d.node.clafer)
          (equal_test d.node.clafer e.node.clafer same) follows)
          (and_right (before d e) (keep_order clafers d e) t)
      by (inr (inr t)) = let p = less_before e.node d.node (and_left (before e d) (keep_order clafers e d) t) (sym same) in absurd
          (omega (arith, p, less))

  -- and it holds where that is so
  fills_all : IsCanonical clafers es → list_all (fills_numbers es) es ≡ true
  fills_all c =
      all_from (fills_numbers es) es (λ e i. all_range
      (λ k. has_node (nodes_of es) (record { clafer = e.node.clafer; number = k })) e.node.number 0
      (λ k l. there e i k (omega (arith, l))))
    where
      there : (e : Entry) → In e es → (k : ℕ) → k < e.node.number
          → has_node (nodes_of es) (record { clafer = e.node.clafer; number = k }) ≡ true
      there e i k l =
          let n = c.numbered e.node.clafer in
          let most = less_from e.node.number n.0 (sym (n.1 e.node.number) ∙ node_in es e e.node i (same_from e.node e.node refl refl)) in
          n.1 k ∙ less_test k n.0 (omega (arith, l, most))

  keeps_all : IsCanonical clafers es → each_two (keep_order clafers) es ≡ true
  keeps_all c = two_from before (keep_order clafers) es ordered (λ d e i j h. kept d e i j h)
    where
      implies : (a b : Bool) → (a ≡ true → b ≡ true) → (not a || b) ≡ true
      implies true b f = f refl
      implies false b f = refl

      kept : (d e : Entry) → In d es → In e es → before d e ≡ true → keep_order clafers d e ≡ true
      kept d e i j h =
          implies ((d.node.clafer == e.node.clafer) && follows_parents clafers d.node.clafer) (is_no_later d.parent e.parent)
          (λ t. let same = equal_from d.node.clafer e.node.clafer
          (and_left (d.node.clafer == e.node.clafer) (follows_parents clafers d.node.clafer) t) in
          c.in_order d e (contained es d i) (contained es e j) same (less_before d.node e.node h same)
          (and_right (d.node.clafer == e.node.clafer) (follows_parents clafers d.node.clafer) t))

  pub tested : IsTrue (is_canonical clafers es) ↔ IsCanonical clafers es
  tested = (
    λ h. record {
      numbered = λ c. (bound c es, numbered es (and_left (list_all (fills_numbers es) es) (each_two (keep_order clafers) es) h) c);
      in_order = in_order (and_right (list_all (fills_numbers es) es) (each_two (keep_order clafers) es) h);
    },
    λ c. both (list_all (fills_numbers es) es) (each_two (keep_order clafers) es) (fills_all c) (keeps_all c),
  )
