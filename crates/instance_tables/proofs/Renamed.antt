-- A renaming of the nodes keeps different nodes different.
use Rattle.std.proofs.Common.{◌≡◌, ℕ, suc, ◌+◌, ◌<◌, Bool, true, false, ◌&&◌, ◌||◌, List, [], ◌∷◌, length, map, get_or, cond, refl, ap, subst, ◌∙◌, arith, is_lt, Less, Equal, Greater}
use Rattle.std.specs.Prelude.{◌==◌, nat_lt}
use Rattle.std.specs.Ordering.{nat_cmp, ordering_then}
use Rattle.std.specs.List.{list_all, IsDistinct, AllByRecursion}
use Rattle.std.specs.List.Sorted.{IsSortedBy}
use Rattle.std.proofs.lemmas.Grind.{common_steps}
use Rattle.std.specs.Prelude.{slice_get, Option, Some, None, IsPermutation}
use Rattle.std.specs.Option.{option_map_or}
use Rattle.std.proofs.lemmas.List.FromFn.{get_or-range_with_len, length-range_with_len}
use Rattle.std.proofs.lemmas.List.Sorted.{length_permutation, IsPermutation-sym, IsPermutation-map}
use Rattle.std.proofs.lemmas.Map.Keys.{IsDistinct-from_apart, IsDistinct-IsPermutation, apart_from_distinct}
use Rattle.std.proofs.lemmas.Option.{slice_get_within}
use Rattle.clf_tree.specs.declared.scopes.Scopes.{Scopes}
use Rattle.clf_tree.specs.declared.instance.Node.{Node}
use Rattle.clf_tree.specs.declared.instance.Entry.{Entry}
use Rattle.clf_tree.specs.Lists.{numbers_below}
use Rattle.clf_tree.specs.Nodes.{same_node, is_before, is_ordered, nodes_of, scope_of, named_by}
use Rattle.clf_tree.specs.Renaming.{renamed_node, renamed, IsRenaming, IsIsomorphic}
use Rattle.instance_tables.specs.Below.{is_below_scope, are_below_scopes}

-- by clafer, then by number
pub before_is_less : (m n : Node) → is_lt (ordering_then (nat_cmp m.clafer n.clafer) (nat_cmp m.number n.number)) ≡ is_before m n
before_is_less m n = by (nat_lt m.clafer n.clafer) (m.clafer == n.clafer) (nat_lt m.number n.number) (m.number == n.number)
  where
    by : (p q r s : Bool) → is_lt (ordering_then (cond p Less (cond q Equal Greater)) (cond r Less (cond s Equal Greater))) ≡ (p || (q && r))
    by true q r s = refl
    by false true true s = refl
    by false true false true = refl
    by false true false false = refl
    by false false r s = refl

before_after : (m n : Node) → is_before n m ≡ false → same_node m n ≡ false → is_before m n ≡ true
before_after m n p q = grind (arith, common_steps)

before_trans : (l m n : Node) → is_before l m ≡ true → is_before m n ≡ true → is_before l n ≡ true
before_trans l m n p q = grind (arith, common_steps)

left : (a b : Bool) → (a && b) ≡ true → a ≡ true
left true b h = refl
left false b h = h

right : (a b : Bool) → (a && b) ≡ true → b ≡ true
right a b h = grind (arith, common_steps)

both : (a b : Bool) → a ≡ true → b ≡ true → (a && b) ≡ true
both a b g h = grind (arith, common_steps)

all_before : (l m : Node) (es : List Entry) → is_before l m ≡ true → list_all (λ (e : Entry). is_before m e.node) es ≡ true → list_all (λ (e : Entry). is_before l e.node) es ≡ true
all_before l m [] p h = refl
all_before l m (e ∷ es) p h =
    both (is_before l e.node) _ (before_trans l m e.node p (left (is_before m e.node) _ h)) (all_before l m es p (right (is_before m e.node) _ h))

-- no two nodes the same, and none before the one that it follows
pub ordered_from : (es : List Entry) → IsSortedBy (λ (a b : Entry). is_before a.node b.node) es → IsDistinct same_node (nodes_of es) → is_ordered es ≡ true
unfolding IsDistinct
ordered_from [] up apart = refl
ordered_from (x ∷ []) up apart = refl
ordered_from (x ∷ y ∷ es) up apart =
    let first = before_after x.node y.node (up 0 x (omega arith) (omega arith)) apart.0.0 in
    let rest = ordered_from (y ∷ es) (λ k d low more. next k d (up (suc k) d (omega arith) (omega (arith, more)))) apart.1 in
    both (is_before x.node y.node && list_all (λ (e : Entry). is_before x.node e.node) es) _
    (both (is_before x.node y.node) _ first (all_before x.node y.node es first (left (list_all (λ (e : Entry). is_before y.node e.node) es) _ rest))) rest
  where
    next : (k : ℕ) (d : Entry) → is_before (get_or (x ∷ y ∷ es) (suc k + 1) d).node (get_or (y ∷ es) k d).node ≡ false → is_before (get_or (y ∷ es) (k + 1) d).node (get_or (y ∷ es) k d).node ≡ false
    next k d h =
        let e : suc k + 1 ≡ suc (k + 1) = omega arith in
        subst (λ q. is_before (get_or (x ∷ y ∷ es) q d).node (get_or (y ∷ es) k d).node ≡ false) e h

-- ---- different nodes get different numbers

equal_symm : (a b : ℕ) → (a == b) ≡ (b == a)
equal_symm a b = grind (arith, common_steps)

numbers_apart : (n : ℕ) → IsDistinct (λ (a b : ℕ). a == b) (numbers_below n)
numbers_apart n =
    IsDistinct-from_apart (λ (a b : ℕ). a == b) (numbers_below n) (λ i j d less more.
    let low = get_or-range_with_len 0 n i d (omega (arith, more, length-range_with_len 0 n)) in
    let high = get_or-range_with_len 0 n j d (omega (arith, more, length-range_with_len 0 n)) in
    grind (arith, common_steps, low, high, less))

-- a permutation of the numbers below n has no number twice
once : (xs : List ℕ) (n i j : ℕ) → IsPermutation xs (numbers_below n) → i < j → j < n → (get_or xs i 0 == get_or xs j 0) ≡ false
once xs n i j perm less more =
    let apart = IsDistinct-IsPermutation (λ (a b : ℕ). a == b) equal_symm (numbers_below n) xs (IsPermutation-sym xs (numbers_below n) perm) (numbers_apart n) in
    apart_from_distinct (λ (a b : ℕ). a == b) xs i j 0 apart less (omega (arith, length_permutation xs (numbers_below n) perm, length-range_with_len 0 n, more))

-- a clafer with a scope above 0 is listed
scope_listed : (scopes : Scopes) (c n : ℕ) (o : Option ℕ) → slice_get scopes.of c ≡ o → n < option_map_or (λ m. m) o 0 → c < length scopes.of
scope_listed scopes c n None e h = let no : ⊥ = omega (arith, h) in absurd no
scope_listed scopes c n (Some m) e h = slice_get_within scopes.of c m e

module _ (scopes : Scopes) (numbers : List (List ℕ)) (renaming : IsRenaming scopes numbers) where
  number_apart : (c i j : ℕ) → i < j → j < scope_of scopes c → (get_or (get_or numbers c []) i 0 == get_or (get_or numbers c []) j 0) ≡ false
  number_apart c i j less more =
      once (get_or numbers c []) (scope_of scopes c) i j (renaming.permutes c (scope_listed scopes c j (slice_get scopes.of c) refl more)) less more

  node_apart : (m n : Node) → is_before m n ≡ true → is_below_scope scopes n ≡ true → same_node (renamed_node numbers m) (renamed_node numbers n) ≡ false
  node_apart m n before below = by (m.clafer == n.clafer) refl
    where
      by : (b : Bool) → (m.clafer == n.clafer) ≡ b → same_node (renamed_node numbers m) (renamed_node numbers n) ≡ false
      by false e = ap (λ b. b && (get_or (get_or numbers m.clafer []) m.number 0 == get_or (get_or numbers n.clafer []) n.number 0)) e
      by true e =
          let same : m.clafer ≡ n.clafer = grind (arith, common_steps) in
          let less : m.number < n.number = grind (arith, common_steps) in
          let more : n.number < scope_of scopes n.clafer = grind (arith, common_steps) in
          ap (λ b. b && (get_or (get_or numbers m.clafer []) m.number 0 == get_or (get_or numbers n.clafer []) n.number 0)) e
          ∙ ap (λ c. get_or (get_or numbers c []) m.number 0 == get_or (get_or numbers n.clafer []) n.number 0) same
          ∙ number_apart n.clafer m.number n.number less more

  node_apart_all : (m : Node) (es : List Entry) → list_all (λ (e : Entry). is_before m e.node) es ≡ true → are_below_scopes scopes es ≡ true
      → AllByRecursion (λ y. same_node (renamed_node numbers m) y ≡ false) (nodes_of (map (renamed numbers) es))
  node_apart_all m [] before below = tt
  node_apart_all m (e ∷ es) before below = (
    node_apart m e.node (left (is_before m e.node) _ before) (left (is_below_scope scopes e.node) _ (left (list_all (is_below_scope scopes) (named_by e)) _ below)),
    node_apart_all m es (right (is_before m e.node) _ before) (right (list_all (is_below_scope scopes) (named_by e)) _ below),
  )

  -- no two of the renamed nodes are the same
  pub renamed_apart : (es : List Entry) → is_ordered es ≡ true → are_below_scopes scopes es ≡ true → IsDistinct same_node (nodes_of (map (renamed numbers) es))
  unfolding IsDistinct
  renamed_apart [] ordered below = tt
  renamed_apart (e ∷ es) ordered below = (
    node_apart_all e.node es (left (list_all (λ (x : Entry). is_before e.node x.node) es) _ ordered) (right (list_all (is_below_scope scopes) (named_by e)) _ below),
    renamed_apart es (right (list_all (λ (x : Entry). is_before e.node x.node) es) _ ordered) (right (list_all (is_below_scope scopes) (named_by e)) _ below),
  )

node_symm : (m n : Node) → same_node m n ≡ same_node n m
node_symm m n = grind (arith, common_steps)

-- the renamed entries, sorted, are an instance
pub renamed_ordered : (scopes : Scopes) (numbers : List (List ℕ)) → IsRenaming scopes numbers → (es fs : List Entry) → is_ordered es ≡ true → are_below_scopes scopes es ≡ true
    → IsPermutation (map (renamed numbers) es) fs → IsSortedBy (λ (a b : Entry). is_before a.node b.node) fs → is_ordered fs ≡ true
renamed_ordered scopes numbers renaming es fs ordered below perm up =
    ordered_from fs up
    (IsDistinct-IsPermutation same_node node_symm (nodes_of (map (renamed numbers) es)) (nodes_of fs) (IsPermutation-map (λ (e : Entry). e.node) (map (renamed numbers) es) fs perm)
    (renamed_apart scopes numbers renaming es ordered below))

pub isomorphic : (scopes : Scopes) (numbers : List (List ℕ)) → IsRenaming scopes numbers → (es fs : List Entry) → IsPermutation (map (renamed numbers) es) fs → IsIsomorphic scopes es fs
isomorphic scopes numbers renaming es fs perm = record { numbers = numbers; renaming = renaming; becomes = IsPermutation-sym (map (renamed numbers) es) fs perm }
