-- Of two instances whose entries are related both satisfy or neither does, and their goals have the same values.
use Rattle.std.proofs.Common.{◌≡◌, ℕ, zero, suc, Bool, true, false, not, ◌&&◌, List, [], ◌∷◌, length, map, Option, Some, None, refl, ap, sym, ◌∙◌, arith, ℤ}
use Rattle.std.specs.Prelude.{◌==◌, nat_lt, count_by, slice_get, is_none}
use Rattle.std.specs.Ordering.{int_eq}
use Rattle.std.specs.Option.{option_map_or, option_and_then, option_to_list}
use Rattle.std.specs.List.{filter, list_all}
use Rattle.std.proofs.lemmas.Grind.{common_steps}
use Rattle.std.proofs.lemmas.Int.{ints}
use Rattle.clf_tree.specs.declared.model.Model.{Model}
use Rattle.clf_tree.specs.declared.model.Clafer.{Clafer}
use Rattle.clf_tree.specs.declared.model.Goal.{Goal}
use Rattle.clf_tree.specs.declared.model.Reference.{Reference}
use Rattle.clf_tree.specs.declared.instance.Node.{Node}
use Rattle.clf_tree.specs.declared.instance.Target.{Target}
use Rattle.clf_tree.specs.declared.instance.Target.TheVariants as target
use Rattle.clf_tree.specs.declared.instance.Entry.{Entry}
use Rattle.clf_tree.specs.declared.scopes.Scopes.{Scopes}
use Rattle.clf_tree.specs.Tree.{Tree, tree}
use Rattle.clf_tree.specs.Lists.{has, numbers_below}
use Rattle.clf_tree.specs.Hierarchy.{is_a, is_concrete, owners, parent_of, reference_of}
use Rattle.clf_tree.specs.Nodes.{same_node, has_some, nodes_of, target_node, parent_in, named_by, scope_of, is_within, fits_range, ends_within, has_its_parent, is_tree}
use Rattle.clf_tree.specs.Shape.{allows, is_child_of, instances, meets_times, meets_group, refers, meets_reference, is_set, same_target, same_option, differ, has_shape}
use Rattle.clf_tree.specs.Meaning.{value, number}
use Rattle.clf_tree.specs.Satisfies.{Law, laws_of, outside, at_instance, holds, satisfies, value_outside, vector_of}
use Rattle.isomorphic_instances.proofs.Pairs.{Pairs, IsPair, none, more, both, maybe_same, pairs_append, pairs_all}
use Rattle.isomorphic_instances.proofs.Matches.{Match, match_length, match_all, match_filter, match_count, match_each_two, match_map}
use Rattle.isomorphic_instances.proofs.Values.{IsTargetPair, IsEntryPair, AreAlike, entry_target, true_same, node_flip, two, is_a_same, has_same, leads_same, has_some_same, entry_pair, number_same, value_pair}

none_same : {X Y : Type 0} (R : X → Y → Type 0) (a : Option X) (b : Option Y) → IsPair R a b → is_none a ≡ is_none b
none_same R None None r = refl
none_same R (Some x) (Some y) r = refl
none_same R None (Some y) r = absurd r
none_same R (Some x) None r = absurd r

listed : {X Y : Type 0} (R : X → Y → Type 0) (a : Option X) (b : Option Y) → IsPair R a b → Pairs R (option_to_list a) (option_to_list b)
listed R None None r = none
listed R (Some x) (Some y) r = more r none
listed R None (Some y) r = absurd r
listed R (Some x) None r = absurd r

either_way : {X : Type 0} (p q : X → Bool) (d e : Bool) (o : Option X) → ((x : X) → p x ≡ q x) → d ≡ e → option_map_or p o d ≡ option_map_or q o e
either_way p q d e None h k = k
either_way p q d e (Some x) h k = h x

all_same : {X : Type 0} (p q : X → Bool) (xs : List X) → ((x : X) → p x ≡ q x) → list_all p xs ≡ list_all q xs
all_same p q [] h = refl
all_same p q (x ∷ xs) h = both (h x) (all_same p q xs h)

number_flip : (a b : ℕ) → (a == b) ≡ (b == a)
number_flip a b = grind (arith, common_steps)

number_is : (a b : ℕ) → (a == b) ≡ true → a ≡ b
number_is a b h = grind (arith, common_steps)

int_flip : (a b : ℤ) → int_eq a b ≡ int_eq b a
int_flip a b = grind (arith, ints)

option_flip : {X : Type 0} (same : X → X → Bool) → ((x y : X) → same x y ≡ same y x) → (a b : Option X) → same_option same a b ≡ same_option same b a
option_flip same h None None = refl
option_flip same h (Some x) (Some y) = h x y
option_flip same h None (Some y) = refl
option_flip same h (Some x) None = refl

target_flip : (a b : Target) → same_target a b ≡ same_target b a
target_flip (target.Int y) (target.Int z) = int_flip y z
target_flip (target.Node m) (target.Node n) = node_flip m n
target_flip (target.Int y) (target.Node n) = refl
target_flip (target.Node m) (target.Int z) = refl

-- which of two entries comes first doesn't matter
differ_flip : (clafers : List Clafer) (entries : List Entry) (a b : Entry) → differ clafers entries a b ≡ differ clafers entries b a
differ_flip clafers entries a b = by (a.node.clafer == b.node.clafer) refl
  where
    by : (c : Bool) → (a.node.clafer == b.node.clafer) ≡ c → differ clafers entries a b ≡ differ clafers entries b a
    by false h =
        ap (λ c. not (c && same_option same_node a.parent b.parent && is_set clafers entries a.node.clafer && same_option same_target a.target b.target)) h
        ∙ sym (ap (λ c. not (c && same_option same_node b.parent a.parent && is_set clafers entries b.node.clafer && same_option same_target b.target a.target)) (sym (number_flip a.node.clafer b.node.clafer) ∙ h))
    by true h =
        ap not (both (both (both (number_flip a.node.clafer b.node.clafer) (option_flip same_node node_flip a.parent b.parent)) (ap (is_set clafers entries) (number_is a.node.clafer b.node.clafer h))) (option_flip same_target target_flip a.target b.target))

module _ (clafers : List Clafer) (R : Node → Node → Type 0) (xs ys : List Entry) (alike : AreAlike R xs ys) where
  abbrev E : Entry → Entry → Type 0
  E = IsEntryPair R

  node_match : Match R (nodes_of xs) (nodes_of ys)
  node_match = match_map E R (λ x. x.node) (λ y. y.node) (λ x y r. r.node) alike.match

  instances_match : (c : ℕ) → Match E (instances clafers xs c) (instances clafers ys c)
  instances_match c = match_filter E (λ x. is_a clafers x.node.clafer c) (λ y. is_a clafers y.node.clafer c) (λ x y r. is_a_same clafers R xs ys alike x.node y.node r.node c) alike.match

  child_same : (e f x y : Entry) → E e f → E x y → is_child_of e x ≡ is_child_of f y
  child_same e f x y r s = leads_same clafers R xs ys alike e.node f.node r.node x.parent y.parent s.parent

  -- ---- the shape

  times_at : (c : ℕ) (k : Clafer) (p : Option ℕ)
      → option_map_or (λ p. list_all (λ e. allows k.times (count_by (is_child_of e) (instances clafers xs c))) (instances clafers xs p)) p (allows k.times (length (instances clafers xs c)))
      ≡ option_map_or (λ p. list_all (λ e. allows k.times (count_by (is_child_of e) (instances clafers ys c))) (instances clafers ys p)) p (allows k.times (length (instances clafers ys c)))
  times_at c k None = ap (allows k.times) (match_length E (instances_match c))
  times_at c k (Some p) =
      match_all E (λ e. allows k.times (count_by (is_child_of e) (instances clafers xs c))) (λ f. allows k.times (count_by (is_child_of f) (instances clafers ys c)))
      (λ e f r. ap (allows k.times) (match_count E (is_child_of e) (is_child_of f) (λ x y s. child_same e f x y r s) (instances_match c))) (instances_match p)

  group_same : (c : ℕ) (k : Clafer) → meets_group clafers xs c k ≡ meets_group clafers ys c k
  group_same c k =
      let of : Entry → Entry → Bool = λ e x. is_child_of e x && option_map_or (λ p. p == c) (parent_of clafers x.node.clafer) false in
      match_all E (λ e. allows k.group (count_by (of e) xs)) (λ f. allows k.group (count_by (of f) ys))
      (λ e f r. ap (allows k.group) (match_count E (of e) (of f) (λ x y s. both (child_same e f x y r s) (ap (λ d. option_map_or (λ p. p == c) (parent_of clafers d) false) (alike.clafer x.node y.node s.node))) alike.match)) (instances_match c)

  refers_same : (scopes : Scopes) (to : Option ℕ) (a b : Target) → IsTargetPair R a b → refers clafers xs scopes to a ≡ refers clafers ys scopes to b
  refers_same scopes None (target.Int y) (target.Int z) r = ap (λ v. fits_range scopes (target.Int v)) r
  refers_same scopes (Some c) (target.Int y) (target.Int z) r = refl
  refers_same scopes None (target.Node m) (target.Node n) r = refl
  refers_same scopes (Some c) (target.Node m) (target.Node n) r = has_same clafers R xs ys alike m n (match_map E R (λ x. x.node) (λ y. y.node) (λ x y s. s.node) (instances_match c)) r
  refers_same scopes to (target.Int y) (target.Node n) r = absurd r
  refers_same scopes to (target.Node m) (target.Int z) r = absurd r

  reference_same : (scopes : Scopes) (x y : Entry) → E x y → meets_reference clafers xs scopes x ≡ meets_reference clafers ys scopes y
  reference_same scopes x y r =
      ap (λ c. option_map_or (λ q. option_map_or (refers clafers xs scopes q.to) x.target false) (reference_of clafers c) (is_none x.target)) (alike.clafer x.node y.node r.node)
      ∙ either_way (λ (q : Reference). option_map_or (refers clafers xs scopes q.to) x.target false) (λ q. option_map_or (refers clafers ys scopes q.to) y.target false) (is_none x.target) (is_none y.target) (reference_of clafers y.node.clafer)
      (λ q. maybe_same (IsTargetPair R) (refers clafers xs scopes q.to) (refers clafers ys scopes q.to) false x.target y.target r.target (refers_same scopes q.to)) (none_same (IsTargetPair R) x.target y.target r.target)

  target_same : (a b c d : Target) → IsTargetPair R a c → IsTargetPair R b d → same_target a b ≡ same_target c d
  target_same (target.Int a) (target.Int b) (target.Int c) (target.Int d) r s = ap (λ z. int_eq z b) r ∙ ap (int_eq c) s
  target_same (target.Node a) (target.Node b) (target.Node c) (target.Node d) r s = alike.same a b c d r s
  target_same (target.Int a) (target.Node b) (target.Int c) (target.Node d) r s = refl
  target_same (target.Node a) (target.Int b) (target.Node c) (target.Int d) r s = refl
  target_same (target.Int a) b (target.Node c) d r s = absurd r
  target_same (target.Node a) b (target.Int c) d r s = absurd r
  target_same (target.Int a) (target.Int b) (target.Int c) (target.Node d) r s = absurd s
  target_same (target.Int a) (target.Node b) (target.Int c) (target.Int d) r s = absurd s
  target_same (target.Node a) (target.Int b) (target.Node c) (target.Node d) r s = absurd s
  target_same (target.Node a) (target.Node b) (target.Node c) (target.Int d) r s = absurd s

  option_same : {X : Type 0} (S : X → X → Type 0) (same : X → X → Bool) → ((a b c d : X) → S a c → S b d → same a b ≡ same c d) → (a b c d : Option X) → IsPair S a c → IsPair S b d → same_option same a b ≡ same_option same c d
  option_same S same h None None None None r s = refl
  option_same S same h (Some a) (Some b) (Some c) (Some d) r s = h a b c d r s
  option_same S same h None (Some b) None (Some d) r s = refl
  option_same S same h (Some a) None (Some c) None r s = refl
  option_same S same h None b (Some c) d r s = absurd r
  option_same S same h (Some a) b None d r s = absurd r
  option_same S same h None None None (Some d) r s = absurd s
  option_same S same h None (Some b) None None r s = absurd s
  option_same S same h (Some a) None (Some c) (Some d) r s = absurd s
  option_same S same h (Some a) (Some b) (Some c) None r s = absurd s

  differ_same : (a b c d : Entry) → E a c → E b d → differ clafers xs a b ≡ differ clafers ys c d
  differ_same a b c d r s =
      ap not (both (both (both (two (λ m n. m == n) (alike.clafer a.node c.node r.node) (alike.clafer b.node d.node s.node)) (option_same R same_node alike.same a.parent b.parent c.parent d.parent r.parent s.parent))
      (ap (is_set clafers xs) (alike.clafer a.node c.node r.node))) (option_same (IsTargetPair R) same_target target_same a.target b.target c.target d.target r.target s.target))

  clafers_same : (scopes : Scopes) (k : Option Clafer) (c : ℕ) → option_map_or (λ k. meets_times clafers xs c k && meets_group clafers xs c k) k true ≡ option_map_or (λ k. meets_times clafers ys c k && meets_group clafers ys c k) k true
  clafers_same scopes k c = either_way (λ k. meets_times clafers xs c k && meets_group clafers xs c k) (λ k. meets_times clafers ys c k && meets_group clafers ys c k) true true k (λ k. both (times_at c k k.parent) (group_same c k)) refl

  shape_same : (scopes : Scopes) → has_shape clafers scopes xs ≡ has_shape clafers scopes ys
  shape_same scopes =
      both
      (both
      (all_same (λ c. option_map_or (λ k. meets_times clafers xs c k && meets_group clafers xs c k) (slice_get clafers c) true) (λ c. option_map_or (λ k. meets_times clafers ys c k && meets_group clafers ys c k) (slice_get clafers c) true)
      (numbers_below (length clafers)) (λ c. clafers_same scopes (slice_get clafers c) c))
      (match_all E (meets_reference clafers xs scopes) (meets_reference clafers ys scopes) (reference_same scopes) alike.match))
      (match_each_two E (differ clafers xs) (differ clafers ys) (differ_flip clafers ys) (λ a b c d r s. differ_same a b c d r s) alike.match)

  -- ---- trees within the scopes

  named_pairs : (x y : Entry) → E x y → Pairs R (named_by x) (named_by y)
  named_pairs x y r = more r.node (pairs_append R (listed R x.parent y.parent r.parent) (listed R (target_node x) (target_node y) (entry_target R x y r)))

  concrete_same : (m n : Node) → R m n → is_concrete clafers m.clafer ≡ is_concrete clafers n.clafer
  concrete_same m n r = ap (is_concrete clafers) (alike.clafer m n r)

  within_same : (scopes : Scopes) → ((m n : Node) → R m n → nat_lt m.number (scope_of scopes m.clafer) ≡ nat_lt n.number (scope_of scopes n.clafer)) → is_within clafers scopes xs ≡ is_within clafers scopes ys
  within_same scopes below =
      let test : Node → Bool = λ n. is_concrete clafers n.clafer && nat_lt n.number (scope_of scopes n.clafer) in
      match_all E (λ x. list_all test (named_by x)) (λ y. list_all test (named_by y)) (λ x y r. pairs_all R test test (λ m n s. both (concrete_same m n s) (below m n s)) (named_pairs x y r)) alike.match

  owned_same : (c : ℕ) (x y : Entry) → E x y
      → option_map_or (λ p. has_some (filter (λ m. has (owners clafers c) m.clafer) (nodes_of xs)) x.parent) (parent_of clafers c) (is_none x.parent)
      ≡ option_map_or (λ p. has_some (filter (λ m. has (owners clafers c) m.clafer) (nodes_of ys)) y.parent) (parent_of clafers c) (is_none y.parent)
  owned_same c x y r =
      let owned : Node → Bool = λ m. has (owners clafers c) m.clafer in
      either_way (λ p. has_some (filter owned (nodes_of xs)) x.parent) (λ p. has_some (filter owned (nodes_of ys)) y.parent) (is_none x.parent) (is_none y.parent) (parent_of clafers c)
      (λ p. has_some_same clafers R xs ys alike x.parent y.parent (match_filter R owned owned (λ m n s. ap (has (owners clafers c)) (alike.clafer m n s)) node_match) r.parent)
      (none_same R x.parent y.parent r.parent)

  parent_same : (x y : Entry) → E x y → has_its_parent clafers xs x ≡ has_its_parent clafers ys y
  parent_same x y r =
      ap (λ c. option_map_or (λ p. has_some (filter (λ m. has (owners clafers c) m.clafer) (nodes_of xs)) x.parent) (parent_of clafers c) (is_none x.parent)) (alike.clafer x.node y.node r.node)
      ∙ owned_same y.node.clafer x y r

  parent_pair : (a b : Option Entry) → IsPair E a b → IsPair R (option_and_then (λ (x : Entry). x.parent) a) (option_and_then (λ (y : Entry). y.parent) b)
  parent_pair None None r = tt
  parent_pair (Some x) (Some y) r = r.parent
  parent_pair None (Some y) r = absurd r
  parent_pair (Some x) None r = absurd r

  ends_same : (k : ℕ) (a b : Option Node) → IsPair R a b → ends_within k xs a ≡ ends_within k ys b
  ends_same zero a b r = none_same R a b r
  ends_same (suc k) a b r =
      maybe_same R (λ m. ends_within k xs (parent_in xs m)) (λ n. ends_within k ys (parent_in ys n)) true a b r
      (λ m n s. ends_same k (parent_in xs m) (parent_in ys n) (parent_pair _ _ (entry_pair clafers R xs ys alike m n s)))

  tree_same : is_tree clafers xs ≡ is_tree clafers ys
  tree_same =
      let test : Node → Bool = λ n. is_concrete clafers n.clafer in
      let n = length xs in
      match_all E (λ e. list_all test (named_by e) && has_its_parent clafers xs e && ends_within n xs e.parent) (λ e. list_all test (named_by e) && has_its_parent clafers ys e && ends_within n ys e.parent)
      (λ x y r. both (both (pairs_all R test test concrete_same (named_pairs x y r)) (parent_same x y r)) (ends_same n x.parent y.parent r.parent)) alike.match
      ∙ ap (λ m. list_all (λ e. list_all test (named_by e) && has_its_parent clafers ys e && ends_within m ys e.parent) ys) (match_length E alike.match)

  -- ---- constraints and goals

  holds_same : (law : Law) → holds clafers xs law ≡ holds clafers ys law
  holds_same (None, body) = true_same R (value clafers xs body outside) (value clafers ys body outside) (value_pair clafers R xs ys alike body outside.within None None [] [] tt none)
  holds_same (Some c, body) =
      match_all E (λ e. Rattle.clf_tree.specs.Meaning.is_true (value clafers xs body (at_instance c e.node))) (λ e. Rattle.clf_tree.specs.Meaning.is_true (value clafers ys body (at_instance c e.node)))
      (λ x y r. true_same R (value clafers xs body (at_instance c x.node)) (value clafers ys body (at_instance c y.node)) (value_pair clafers R xs ys alike body (at_instance c x.node).within (Some x.node) (Some y.node) [] [] r.node none))
      (instances_match c)

  goal_same : (body : Tree) → value_outside clafers xs body ≡ value_outside clafers ys body
  goal_same body = number_same clafers R xs ys alike (value clafers xs body outside) (value clafers ys body outside) (value_pair clafers R xs ys alike body outside.within None None [] [] tt none)

map_same : {X Y : Type 0} (f g : X → Y) → ((x : X) → f x ≡ g x) → (xs : List X) → map f xs ≡ map g xs
map_same f g h [] = refl
map_same f g h (x ∷ xs) = ap (λ y. y ∷ map f xs) (h x) ∙ ap (λ ys. g x ∷ ys) (map_same f g h xs)

module _ (model : Model) (R : Node → Node → Type 0) (xs ys : List Entry) (alike : AreAlike R xs ys) where
  pub satisfies_same : (scopes : Scopes) → ((m n : Node) → R m n → nat_lt m.number (scope_of scopes m.clafer) ≡ nat_lt n.number (scope_of scopes n.clafer)) → satisfies model scopes xs ≡ satisfies model scopes ys
  satisfies_same scopes below =
      both (both (both (within_same model.clafers R xs ys alike scopes below) (tree_same model.clafers R xs ys alike)) (shape_same model.clafers R xs ys alike scopes))
      (all_same (holds model.clafers xs) (holds model.clafers ys) (laws_of model) (holds_same model.clafers R xs ys alike))

  pub vector_same : vector_of model xs ≡ vector_of model ys
  vector_same = map_same (λ (g : Goal). value_outside model.clafers xs (tree g.body)) (λ g. value_outside model.clafers ys (tree g.body)) (λ g. goal_same model.clafers R xs ys alike (tree g.body)) model.goals
