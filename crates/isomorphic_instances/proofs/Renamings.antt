-- A renaming relates the nodes below the scopes to nodes below the scopes, and different ones to different ones.
use Rattle.std.proofs.Common.{◌≡◌, ℕ, zero, suc, ◌+◌, ◌<◌, ◌≤◌, Bool, true, false, not, ◌&&◌, List, [], ◌∷◌, ◌++◌, length, map, get_or, Option, Some, None, refl, ap, sym, subst, ◌∙◌, arith, true≢false}
use Rattle.std.specs.Prelude.{◌==◌, nat_lt, slice_get, IsPermutation}
use Rattle.std.specs.Option.{option_map, option_map_or, option_and_then, option_to_list}
use Rattle.std.specs.List.{list_all, IsDistinct, range_with_len}
use Rattle.std.proofs.lemmas.Grind.{common_steps}
use Rattle.std.proofs.lemmas.List.Folds.{list_all-append}
use Rattle.std.proofs.lemmas.List.FromFn.{get_or-range_with_len, length-range_with_len}
use Rattle.std.proofs.lemmas.List.Sorted.{length_permutation, IsPermutation-sym}
use Rattle.std.proofs.lemmas.Map.Keys.{IsDistinct-from_apart, IsDistinct-IsPermutation, apart_from_distinct}
use Rattle.std.proofs.lemmas.Option.{slice_get_within}
use Rattle.clf_tree.specs.declared.scopes.Scopes.{Scopes}
use Rattle.clf_tree.specs.declared.instance.Node.{Node}
use Rattle.clf_tree.specs.declared.instance.Target.{Target}
use Rattle.clf_tree.specs.declared.instance.Target.TheVariants as target
use Rattle.clf_tree.specs.declared.instance.Entry.{Entry}
use Rattle.clf_tree.specs.Lists.{numbers_below, each_two}
use Rattle.clf_tree.specs.Nodes.{same_node, is_before, is_ordered, node_in, target_node, scope_of, named_by}
use Rattle.clf_tree.specs.Renaming.{renamed_node, renamed_target, renamed, IsRenaming, IsIsomorphic}
use Rattle.instance_tables.specs.Below.{is_below_scope, are_below_scopes}
use Rattle.isomorphic_instances.proofs.Pairs.{Pairs, IsPair, none, more, both}
use Rattle.isomorphic_instances.proofs.Shuffles.{shuffled, shuffled_all, back}
use Rattle.isomorphic_instances.proofs.Values.{IsTargetPair, IsEntryPair, AreAlike}

left : (a b : Bool) → (a && b) ≡ true → a ≡ true
left true b h = refl
left false b h = h

right : (a b : Bool) → (a && b) ≡ true → b ≡ true
right true b h = h
right false b h = absurd (true≢false (sym h))

-- ---- permutations of the numbers below n

number_flip : (a b : ℕ) → (a == b) ≡ (b == a)
number_flip a b = grind (arith, common_steps)

numbers_apart : (n : ℕ) → IsDistinct (λ (a b : ℕ). a == b) (numbers_below n)
numbers_apart n =
    IsDistinct-from_apart (λ (a b : ℕ). a == b) (numbers_below n) (λ i j d less below.
    let low = get_or-range_with_len 0 n i d (omega (arith, below, length-range_with_len 0 n)) in
    let high = get_or-range_with_len 0 n j d (omega (arith, below, length-range_with_len 0 n)) in
    grind (arith, common_steps, low, high, less))

once : (xs : List ℕ) (n i j : ℕ) → IsPermutation xs (numbers_below n) → i < j → j < n → (get_or xs i 0 == get_or xs j 0) ≡ false
once xs n i j perm less below =
    let apart = IsDistinct-IsPermutation (λ (a b : ℕ). a == b) number_flip (numbers_below n) xs (IsPermutation-sym xs (numbers_below n) perm) (numbers_apart n) in
    apart_from_distinct (λ (a b : ℕ). a == b) xs i j 0 apart less (omega (arith, length_permutation xs (numbers_below n) perm, length-range_with_len 0 n, below))

same_number : (xs : List ℕ) (n i j : ℕ) → IsPermutation xs (numbers_below n) → i < n → j < n → (i == j) ≡ (get_or xs i 0 == get_or xs j 0)
same_number xs n i j perm low high = by (nat_lt i j) (nat_lt j i) refl refl
  where
    apart : (i < j) → (i == j) ≡ (get_or xs i 0 == get_or xs j 0)
    apart less = not_same i j less ∙ sym (once xs n i j perm less high)
      where
        not_same : (a b : ℕ) → a < b → (a == b) ≡ false
        not_same a b k = grind (arith, common_steps)

    apart' : (j < i) → (i == j) ≡ (get_or xs i 0 == get_or xs j 0)
    apart' less = not_same i j less ∙ sym (number_flip (get_or xs i 0) (get_or xs j 0) ∙ once xs n j i perm less low)
      where
        not_same : (a b : ℕ) → b < a → (a == b) ≡ false
        not_same a b k = grind (arith, common_steps)

    by : (b c : Bool) → nat_lt i j ≡ b → nat_lt j i ≡ c → (i == j) ≡ (get_or xs i 0 == get_or xs j 0)
    by true c h k = apart (less_from i j h)
      where
        less_from : (a b : ℕ) → nat_lt a b ≡ true → a < b
        less_from a b e = grind (arith, common_steps)
    by false true h k = apart' (less_from j i k)
      where
        less_from : (a b : ℕ) → nat_lt a b ≡ true → a < b
        less_from a b e = grind (arith, common_steps)
    by false false h k =
        let e = equal i j h k in
        subst (λ m. (i == m) ≡ (get_or xs i 0 == get_or xs m 0)) e (itself i ∙ sym (itself (get_or xs i 0)))
      where
        equal : (a b : ℕ) → nat_lt a b ≡ false → nat_lt b a ≡ false → a ≡ b
        equal a b e f = grind (arith, common_steps)

        itself : (a : ℕ) → (a == a) ≡ true
        itself a = grind (arith, common_steps)

all_below : (n a k : ℕ) → a + k ≤ n → list_all (λ x. nat_lt x n) (range_with_len a k) ≡ true
all_below n a zero h = refl
all_below n a (suc k) h = both (less a n (omega (arith, h))) (all_below n (a + 1) k (omega (arith, h)))
  where
    less : (x y : ℕ) → x < y → nat_lt x y ≡ true
    less x y e = grind (arith, common_steps)

at_place : (p : ℕ → Bool) (xs : List ℕ) (i : ℕ) → i < length xs → list_all p xs ≡ true → p (get_or xs i 0) ≡ true
at_place p [] i h all = let no : ⊥ = omega (arith, h) in absurd no
at_place p (x ∷ xs) zero h all = left (p x) (list_all p xs) all
at_place p (x ∷ xs) (suc i) h all = at_place p xs i (omega (arith, h)) (right (p x) (list_all p xs) all)

-- each number is below n
stays_below : (xs : List ℕ) (n i : ℕ) → IsPermutation xs (numbers_below n) → i < n → nat_lt (get_or xs i 0) n ≡ true
stays_below xs n i perm h =
    at_place (λ x. nat_lt x n) xs i (omega (arith, length_permutation xs (numbers_below n) perm, length-range_with_len 0 n, h))
    (shuffled_all (λ x. nat_lt x n) (shuffled xs (numbers_below n) perm) ∙ all_below n 0 n (omega arith))

-- a clafer with a scope above 0 is listed
scope_listed : (scopes : Scopes) (c n : ℕ) (o : Option ℕ) → slice_get scopes.of c ≡ o → n < option_map_or (λ m. m) o 0 → c < length scopes.of
scope_listed scopes c n None e h = let no : ⊥ = omega (arith, h) in absurd no
scope_listed scopes c n (Some m) e h = slice_get_within scopes.of c m e

-- ---- nodes

-- the second is the first renamed, which is below its scope
pub record IsRenamed (scopes : Scopes) (numbers : List (List ℕ)) (m n : Node) : Type 0 where
  pub below : is_below_scope scopes m ≡ true
  pub is : n ≡ renamed_node numbers m

less_from : (a b : ℕ) → nat_lt a b ≡ true → a < b
less_from a b e = grind (arith, common_steps)

number_is : (a b : ℕ) → (a == b) ≡ true → a ≡ b
number_is a b h = grind (arith, common_steps)

module _ (scopes : Scopes) (numbers : List (List ℕ)) (renaming : IsRenaming scopes numbers) where
  permutes : (m : Node) → is_below_scope scopes m ≡ true → IsPermutation (get_or numbers m.clafer []) (numbers_below (scope_of scopes m.clafer))
  permutes m h = renaming.permutes m.clafer (scope_listed scopes m.clafer m.number (slice_get scopes.of m.clafer) refl (less_from m.number (scope_of scopes m.clafer) h))

  node_same : (m n : Node) → is_below_scope scopes m ≡ true → is_below_scope scopes n ≡ true → same_node m n ≡ same_node (renamed_node numbers m) (renamed_node numbers n)
  node_same m n low high = by (m.clafer == n.clafer) refl
    where
      by : (b : Bool) → (m.clafer == n.clafer) ≡ b → same_node m n ≡ same_node (renamed_node numbers m) (renamed_node numbers n)
      by false e = ap (λ b. b && (m.number == n.number)) e ∙ sym (ap (λ b. b && (get_or (get_or numbers m.clafer []) m.number 0 == get_or (get_or numbers n.clafer []) n.number 0)) e)
      by true e =
          let same : m.clafer ≡ n.clafer = number_is m.clafer n.clafer e in
          let high' : nat_lt n.number (scope_of scopes m.clafer) ≡ true = ap (λ c. nat_lt n.number (scope_of scopes c)) same ∙ high in
          ap (λ b. (m.clafer == n.clafer) && b)
          (same_number (get_or numbers m.clafer []) (scope_of scopes m.clafer) m.number n.number (permutes m low) (less_from m.number (scope_of scopes m.clafer) low) (less_from n.number (scope_of scopes m.clafer) high')
          ∙ ap (λ c. get_or (get_or numbers m.clafer []) m.number 0 == get_or (get_or numbers c []) n.number 0) same)

  pub pair_same : (m m' n n' : Node) → IsRenamed scopes numbers m n → IsRenamed scopes numbers m' n' → same_node m m' ≡ same_node n n'
  pair_same m m' n n' r r' =
      node_same m m' r.below r'.below ∙ sym (ap (λ z. same_node z n') r.is ∙ ap (same_node (renamed_node numbers m)) r'.is)

  pub pair_clafer : (m n : Node) → IsRenamed scopes numbers m n → m.clafer ≡ n.clafer
  pair_clafer m n r = sym (ap (λ (z : Node). z.clafer) r.is)

  pub pair_below : (m n : Node) → IsRenamed scopes numbers m n → nat_lt m.number (scope_of scopes m.clafer) ≡ nat_lt n.number (scope_of scopes n.clafer)
  pair_below m n r =
      r.below ∙ sym (ap (is_below_scope scopes) r.is ∙ stays_below (get_or numbers m.clafer []) (scope_of scopes m.clafer) m.number (permutes m r.below) (less_from m.number (scope_of scopes m.clafer) r.below))

-- ---- entries

module _ (scopes : Scopes) (numbers : List (List ℕ)) where
  abbrev R : Node → Node → Type 0
  R = IsRenamed scopes numbers

  maybe_node : (o : Option Node) → list_all (is_below_scope scopes) (option_to_list o) ≡ true → IsPair R o (option_map (renamed_node numbers) o)
  maybe_node None h = tt
  maybe_node (Some m) h = record { below = left (is_below_scope scopes m) true h; is = refl }

  maybe_target : (o : Option Target) → list_all (is_below_scope scopes) (option_to_list (option_and_then node_in o)) ≡ true → IsPair (IsTargetPair R) o (option_map (renamed_target numbers) o)
  maybe_target None h = tt
  maybe_target (Some (target.Int z)) h = refl
  maybe_target (Some (target.Node m)) h = record { below = left (is_below_scope scopes m) true h; is = refl }

  entry_renamed : (e : Entry) → list_all (is_below_scope scopes) (named_by e) ≡ true → IsEntryPair R e (renamed numbers e)
  entry_renamed e h =
      let parents = option_to_list e.parent in
      let targets = option_to_list (target_node e) in
      let rest = sym (list_all-append (is_below_scope scopes) parents targets) ∙ right (is_below_scope scopes e.node) (list_all (is_below_scope scopes) (parents ++ targets)) h in
      record {
        node = record { below = left (is_below_scope scopes e.node) (list_all (is_below_scope scopes) (parents ++ targets)) h; is = refl };
        parent = maybe_node e.parent (left (list_all (is_below_scope scopes) parents) (list_all (is_below_scope scopes) targets) rest);
        target = maybe_target e.target (right (list_all (is_below_scope scopes) parents) (list_all (is_below_scope scopes) targets) rest);
      }

  pub all_renamed : (es : List Entry) → are_below_scopes scopes es ≡ true → Pairs (IsEntryPair R) es (map (renamed numbers) es)
  all_renamed [] h = none
  all_renamed (e ∷ es) h =
      more (entry_renamed e (left (list_all (is_below_scope scopes) (named_by e)) (are_below_scopes scopes es) h)) (all_renamed es (right (list_all (is_below_scope scopes) (named_by e)) (are_below_scopes scopes es) h))

before_apart : (m n : Node) → is_before m n ≡ true → not (same_node m n) ≡ true
before_apart m n h = grind (arith, common_steps)

all_apart : (x : Entry) (es : List Entry) → list_all (λ (e : Entry). is_before x.node e.node) es ≡ true → list_all (λ (e : Entry). not (same_node x.node e.node)) es ≡ true
all_apart x [] h = refl
all_apart x (e ∷ es) h =
    both (before_apart x.node e.node (left (is_before x.node e.node) (list_all (λ (e : Entry). is_before x.node e.node) es) h)) (all_apart x es (right (is_before x.node e.node) (list_all (λ (e : Entry). is_before x.node e.node) es) h))

-- no node twice
ordered_apart : (es : List Entry) → is_ordered es ≡ true → each_two (λ (x y : Entry). not (same_node x.node y.node)) es ≡ true
ordered_apart [] h = refl
ordered_apart (x ∷ es) h =
    both (all_apart x es (left (list_all (λ (e : Entry). is_before x.node e.node) es) (is_ordered es) h)) (ordered_apart es (right (list_all (λ (e : Entry). is_before x.node e.node) es) (is_ordered es) h))

pub alike : (scopes : Scopes) (a b : List Entry) (iso : IsIsomorphic scopes a b) → is_ordered a ≡ true → are_below_scopes scopes a ≡ true → AreAlike (IsRenamed scopes iso.numbers) a b
alike scopes a b iso ordered below = record {
  clafer = pair_clafer scopes iso.numbers iso.renaming;
  same = pair_same scopes iso.numbers iso.renaming;
  once = ordered_apart a ordered;
  match = record { between = map (renamed iso.numbers) a; pairs = all_renamed scopes iso.numbers a below; shuffled = back (shuffled b (map (renamed iso.numbers) a) iso.becomes) };
}
