-- Expressions mean the same in two instances whose entries are related.
use Rattle.std.proofs.Common.{◌≡◌, ℕ, zero, suc, ◌+◌, ◌<◌, Bool, true, false, not, ◌&&◌, ◌||◌, List, [], ◌∷◌, ◌++◌, length, map, cond, Option, Some, None, refl, ap, sym, subst, ◌∙◌, ℤ, pos, ◌+ℤ◌, ◌-ℤ◌, ◌*ℤ◌, neg_ℤ, int_lt, int_le}
use Rattle.std.specs.Prelude.{◌==◌, nat_lt, nat_le, if◌then◌else◌}
use Rattle.std.specs.Ordering.{int_eq}
use Rattle.std.specs.Option.{option_map_or, option_and_then}
use Rattle.std.specs.List.{list_any, find}
use Rattle.clf_tree.specs.declared.token.Word.{Word}
use Rattle.clf_tree.specs.declared.token.Word.TheVariants as word
use Rattle.clf_tree.specs.declared.model.Clafer.{Clafer}
use Rattle.clf_tree.specs.declared.instance.Node.{Node}
use Rattle.clf_tree.specs.declared.instance.Target.{Target}
use Rattle.clf_tree.specs.declared.instance.Target.TheVariants as target
use Rattle.clf_tree.specs.declared.instance.Entry.{Entry}
use Rattle.clf_tree.specs.declared.kind.Within.{Within}
use Rattle.clf_tree.specs.declared.kind.Kind.{Kind}
use Rattle.clf_tree.specs.declared.kind.Kind.TheVariants as kinds
use Rattle.clf_tree.specs.declared.kind.Reading.{Reading}
use Rattle.clf_tree.specs.declared.kind.Reading.TheVariants.{ByValues, ByNodes}
use Rattle.clf_tree.specs.Tree as e
use Rattle.clf_tree.specs.Tree.{Tree}
use Rattle.clf_tree.specs.Lists.{each_two, from_end}
use Rattle.clf_tree.specs.Hierarchy.{is_a, is_one_of}
use Rattle.clf_tree.specs.Nodes.{same_node, has_node, has_some, target_node, node_in, entry_of}
use Rattle.clf_tree.specs.Kinds.{kind, clafers_of, bind_kinds, reading_of}
use Rattle.clf_tree.specs.Meaning as meaning
use Rattle.clf_tree.specs.Meaning.{Value, Situation, value, is_true, nodes, number, integers, total, int_in, int_of, parents, targets, children, dref, taken_as, through, equal, part, tried, quantified, bind, nodes_where}
use Rattle.isomorphic_instances.proofs.Pairs.{Pairs, IsPair, none, more, both, either, maybe_same, pairs_append, pairs_from_end, pairs_each_two, pairs_length, pairs_find}
use Rattle.isomorphic_instances.proofs.Shuffles.{shuffled_find}
use Rattle.isomorphic_instances.proofs.Matches.{Match, in_order, match_length, match_tuples, match_any, match_all, match_filter, match_count, match_all_in, match_same_set, match_map, match_total}

module _ (R : Node → Node → Type 0) where
  -- targets, and entries
  abbrev pub IsTargetPair : Target → Target → Type 0
  IsTargetPair (target.Int y) (target.Int z) = y ≡ z
  IsTargetPair (target.Node m) (target.Node n) = R m n
  IsTargetPair a b = ⊥

  pub record IsEntryPair (x y : Entry) : Type 0 where
    pub node : R x.node y.node
    pub parent : IsPair R x.parent y.parent
    pub target : IsPair IsTargetPair x.target y.target

  -- values
  abbrev pub IsValuePair : Value → Value → Type 0
  IsValuePair (meaning.Truth a) (meaning.Truth b) = a ≡ b
  IsValuePair (meaning.Integer y) (meaning.Integer z) = y ≡ z
  IsValuePair (meaning.Nodes ms) (meaning.Nodes ns) = Match R ms ns
  IsValuePair a b = ⊥

  target_nodes : (a b : Option Target) → IsPair IsTargetPair a b → IsPair R (option_and_then node_in a) (option_and_then node_in b)
  target_nodes None None r = tt
  target_nodes (Some (target.Int y)) (Some (target.Int z)) r = tt
  target_nodes (Some (target.Node m)) (Some (target.Node n)) r = r
  target_nodes (Some (target.Int y)) (Some (target.Node n)) r = absurd r
  target_nodes (Some (target.Node m)) (Some (target.Int z)) r = absurd r
  target_nodes None (Some b) r = absurd r
  target_nodes (Some a) None r = absurd r

  pub entry_target : (x y : Entry) → IsEntryPair x y → IsPair R (target_node x) (target_node y)
  entry_target x y r = target_nodes x.target y.target r.target

  target_ints : (a b : Option Target) → IsPair IsTargetPair a b → option_map_or int_in a (pos 0) ≡ option_map_or int_in b (pos 0)
  target_ints None None r = refl
  target_ints (Some (target.Int y)) (Some (target.Int z)) r = r
  target_ints (Some (target.Node m)) (Some (target.Node n)) r = refl
  target_ints (Some (target.Int y)) (Some (target.Node n)) r = absurd r
  target_ints (Some (target.Node m)) (Some (target.Int z)) r = absurd r
  target_ints None (Some b) r = absurd r
  target_ints (Some a) None r = absurd r

  entry_ints : (a b : Option Entry) → IsPair IsEntryPair a b → option_map_or int_in (option_and_then (λ (x : Entry). x.target) a) (pos 0) ≡ option_map_or int_in (option_and_then (λ (x : Entry). x.target) b) (pos 0)
  entry_ints None None r = refl
  entry_ints (Some x) (Some y) r = target_ints x.target y.target r.target
  entry_ints None (Some y) r = absurd r
  entry_ints (Some x) None r = absurd r

  one_node : (a b : Option Node) → IsPair R a b → Match R (option_map_or (λ n. n ∷ []) a []) (option_map_or (λ n. n ∷ []) b [])
  one_node None None r = in_order R none
  one_node (Some m) (Some n) r = in_order R (more r none)
  one_node None (Some n) r = absurd r
  one_node (Some m) None r = absurd r

  nodes_match : (v w : Value) → IsValuePair v w → Match R (nodes v) (nodes w)
  nodes_match (meaning.Truth a) (meaning.Truth b) r = in_order R none
  nodes_match (meaning.Integer y) (meaning.Integer z) r = in_order R none
  nodes_match (meaning.Nodes ms) (meaning.Nodes ns) r = r
  nodes_match (meaning.Truth a) (meaning.Integer z) r = absurd r
  nodes_match (meaning.Truth a) (meaning.Nodes ns) r = absurd r
  nodes_match (meaning.Integer y) (meaning.Truth b) r = absurd r
  nodes_match (meaning.Integer y) (meaning.Nodes ns) r = absurd r
  nodes_match (meaning.Nodes ms) (meaning.Truth b) r = absurd r
  nodes_match (meaning.Nodes ms) (meaning.Integer z) r = absurd r

  some_nodes : (ms ns : List Node) → length ms ≡ length ns → is_true (meaning.Nodes ms) ≡ is_true (meaning.Nodes ns)
  some_nodes [] [] h = refl
  some_nodes (m ∷ ms) (n ∷ ns) h = refl
  some_nodes [] (n ∷ ns) h = let no : ⊥ = omega (Rattle.std.proofs.Common.arith, h) in absurd no
  some_nodes (m ∷ ms) [] h = let no : ⊥ = omega (Rattle.std.proofs.Common.arith, h) in absurd no

  pub true_same : (v w : Value) → IsValuePair v w → is_true v ≡ is_true w
  true_same (meaning.Truth a) (meaning.Truth b) r = r
  true_same (meaning.Integer y) (meaning.Integer z) r = refl
  true_same (meaning.Nodes ms) (meaning.Nodes ns) r = some_nodes ms ns (match_length R r)
  true_same (meaning.Truth a) (meaning.Integer z) r = absurd r
  true_same (meaning.Truth a) (meaning.Nodes ns) r = absurd r
  true_same (meaning.Integer y) (meaning.Truth b) r = absurd r
  true_same (meaning.Integer y) (meaning.Nodes ns) r = absurd r
  true_same (meaning.Nodes ms) (meaning.Truth b) r = absurd r
  true_same (meaning.Nodes ms) (meaning.Integer z) r = absurd r

pub two : {X Y Z : Type 0} (f : X → Y → Z) {a c : X} {b d : Y} → a ≡ c → b ≡ d → f a b ≡ f c d
two f {c = c} {b = b} h k = ap (λ x. f x b) h ∙ ap (λ y. f c y) k

-- two lists of entries that are related one by one in some order, where related nodes are of the same clafer and are the same
-- nodes exactly where those that they are related to are
pub record AreAlike (R : Node → Node → Type 0) (xs ys : List Entry) : Type 0 where
  pub clafer : (m n : Node) → R m n → m.clafer ≡ n.clafer
  pub same : (m m' n n' : Node) → R m n → R m' n' → same_node m m' ≡ same_node n n'
  pub once : each_two (λ (x x' : Entry). not (same_node x.node x'.node)) xs ≡ true
  pub match : Match (IsEntryPair R) xs ys

pub node_flip : (m n : Node) → same_node m n ≡ same_node n m
node_flip m n = grind (Rattle.std.proofs.Common.arith, Rattle.std.proofs.lemmas.Grind.common_steps)

both_same : (l m n : Node) → same_node l m ≡ true → same_node l n ≡ true → not (same_node m n) ≡ false
both_same l m n h k = grind (Rattle.std.proofs.Common.arith, Rattle.std.proofs.lemmas.Grind.common_steps)

module _ (clafers : List Clafer) (R : Node → Node → Type 0) (xs ys : List Entry) (alike : AreAlike R xs ys) where
  abbrev E : Entry → Entry → Type 0
  E = IsEntryPair R

  pub is_a_same : (m n : Node) → R m n → (c : ℕ) → is_a clafers m.clafer c ≡ is_a clafers n.clafer c
  is_a_same m n r c = ap (λ k. is_a clafers k c) (alike.clafer m n r)

  pub has_same : {ms ns : List Node} (m n : Node) → Match R ms ns → R m n → has_node ms m ≡ has_node ns n
  has_same m n ms r = match_any R (same_node m) (same_node n) (λ m' n' r'. alike.same m m' n n' r r') ms

  -- where an entry leads to a node
  pub leads_same : (m n : Node) → R m n → (a b : Option Node) → IsPair R a b → option_map_or (same_node m) a false ≡ option_map_or (same_node n) b false
  leads_same m n r a b s = maybe_same R (same_node m) (same_node n) false a b s (λ m' n' r'. alike.same m m' n n' r r')

  pub has_some_same : {ms ns : List Node} (a b : Option Node) → Match R ms ns → IsPair R a b → has_some ms a ≡ has_some ns b
  has_some_same {ms} {ns} a b m r = maybe_same R (has_node ms) (has_node ns) false a b r (λ n n' s. has_same n n' m s)

  where_match : (p q : Entry → Bool) → ((x y : Entry) → E x y → p x ≡ q y) → Match R (nodes_where clafers xs p) (nodes_where clafers ys q)
  where_match p q h = match_map E R (λ x. x.node) (λ y. y.node) (λ x y r. r.node) (match_filter E p q h alike.match)

  -- the entry of a node, and its integer
  pub entry_pair : (m n : Node) → R m n → IsPair E (entry_of xs m) (entry_of ys n)
  entry_pair m n r =
      let apart : Entry → Entry → Bool = λ x x'. not (same_node x.node x'.node) in
      let at : IsPair E (entry_of xs m) (find (λ y. same_node n y.node) alike.match.between) =
      pairs_find E (λ x. same_node m x.node) (λ y. same_node n y.node) (λ x y s. alike.same m x.node n y.node r s.node) alike.match.pairs in
      let alone : each_two apart alike.match.between ≡ true =
      sym (pairs_each_two E apart apart (λ x x' y y' s s'. ap not (alike.same x.node x'.node y.node y'.node s.node s'.node)) alike.match.pairs) ∙ alike.once in
      let moved : find (λ y. same_node n y.node) alike.match.between ≡ entry_of ys n =
      shuffled_find (λ y. same_node n y.node) apart (λ x y. ap not (node_flip x.node y.node)) (λ x y h k. both_same n x.node y.node h k) alike.match.shuffled alone in
      subst (λ o. IsPair E (entry_of xs m) o) moved at

  int_same : (m n : Node) → R m n → int_of clafers xs m ≡ int_of clafers ys n
  int_same m n r = entry_ints R (entry_of xs m) (entry_of ys n) (entry_pair m n r)

  integers_match : (v w : Value) → IsValuePair R v w → Match (λ (a b : ℤ). a ≡ b) (integers clafers xs v) (integers clafers ys w)
  integers_match (meaning.Truth a) (meaning.Truth b) r = in_order (λ (x y : ℤ). x ≡ y) none
  integers_match (meaning.Integer y) (meaning.Integer z) r = in_order (λ (a b : ℤ). a ≡ b) (more r none)
  integers_match (meaning.Nodes ms) (meaning.Nodes ns) r = match_map R (λ (a b : ℤ). a ≡ b) (int_of clafers xs) (int_of clafers ys) int_same r
  integers_match (meaning.Truth a) (meaning.Integer z) r = absurd r
  integers_match (meaning.Truth a) (meaning.Nodes ns) r = absurd r
  integers_match (meaning.Integer y) (meaning.Truth b) r = absurd r
  integers_match (meaning.Integer y) (meaning.Nodes ns) r = absurd r
  integers_match (meaning.Nodes ms) (meaning.Truth b) r = absurd r
  integers_match (meaning.Nodes ms) (meaning.Integer z) r = absurd r

  pub number_same : (v w : Value) → IsValuePair R v w → number clafers xs v ≡ number clafers ys w
  number_same v w r = match_total (integers_match v w r)

  parents_match : {ms ns : List Node} → Match R ms ns → Match R (parents clafers xs ms) (parents clafers ys ns)
  parents_match {ms} {ns} m =
      where_match (λ p. list_any (λ x. has_node ms x.node && option_map_or (same_node p.node) x.parent false) xs) (λ p. list_any (λ x. has_node ns x.node && option_map_or (same_node p.node) x.parent false) ys)
      (λ p q r. match_any E (λ x. has_node ms x.node && option_map_or (same_node p.node) x.parent false) (λ x. has_node ns x.node && option_map_or (same_node q.node) x.parent false)
      (λ x y s. both (has_same x.node y.node m s.node) (leads_same p.node q.node r.node x.parent y.parent s.parent)) alike.match)

  targets_match : {ms ns : List Node} → Match R ms ns → Match R (targets clafers xs ms) (targets clafers ys ns)
  targets_match {ms} {ns} m =
      where_match (λ t. list_any (λ x. has_node ms x.node && option_map_or (same_node t.node) (target_node x) false) xs) (λ t. list_any (λ x. has_node ns x.node && option_map_or (same_node t.node) (target_node x) false) ys)
      (λ p q r. match_any E (λ x. has_node ms x.node && option_map_or (same_node p.node) (target_node x) false) (λ x. has_node ns x.node && option_map_or (same_node q.node) (target_node x) false)
      (λ x y s. both (has_same x.node y.node m s.node) (leads_same p.node q.node r.node (target_node x) (target_node y) (entry_target R x y s))) alike.match)

  one_of_same : (m n : Node) → R m n → (ks : List ℕ) → is_one_of clafers ks m.clafer ≡ is_one_of clafers ks n.clafer
  one_of_same m n r ks = ap (λ c. is_one_of clafers ks c) (alike.clafer m n r)

  children_match : (into : List ℕ) {ms ns : List Node} → Match R ms ns → Match R (children clafers xs into ms) (children clafers ys into ns)
  children_match into {ms} {ns} m =
      where_match (λ x. is_one_of clafers into x.node.clafer && has_some ms x.parent) (λ y. is_one_of clafers into y.node.clafer && has_some ns y.parent)
      (λ x y r. both (one_of_same x.node y.node r.node into) (has_some_same x.parent y.parent m r.parent))

  through_match : (follow : Bool) {ms ns : List Node} → Match R ms ns → Match R (through clafers xs follow ms) (through clafers ys follow ns)
  through_match true m = targets_match m
  through_match false m = m

  dref_match : (k : Option Kind) {ms ns : List Node} → Match R ms ns → Match R (dref clafers xs k ms) (dref clafers ys k ns)
  dref_match (Some (kinds.Numbers ks)) m = m
  dref_match (Some (kinds.Nodes ks)) m = targets_match m
  dref_match (Some kinds.Truth) m = targets_match m
  dref_match (Some kinds.Integer) m = targets_match m
  dref_match None m = targets_match m

  union_match : {ms us ns vs : List Node} → Match R ms ns → Match R us vs
      → Match R (nodes_where clafers xs (λ x. has_node ms x.node || has_node us x.node)) (nodes_where clafers ys (λ y. has_node ns y.node || has_node vs y.node))
  union_match {ms} {us} {ns} {vs} m n =
      where_match (λ x. has_node ms x.node || has_node us x.node) (λ y. has_node ns y.node || has_node vs y.node) (λ x y r. either (has_same x.node y.node m r.node) (has_same x.node y.node n r.node))

  taken_pair : (k : Option Kind) (v w : Value) → IsValuePair R v w → IsValuePair R (taken_as clafers xs k v) (taken_as clafers ys k w)
  taken_pair (Some kinds.Truth) v w r = true_same R v w r
  taken_pair (Some kinds.Integer) v w r = number_same v w r
  taken_pair (Some (kinds.Nodes ks)) v w r = r
  taken_pair (Some (kinds.Numbers ks)) v w r = r
  taken_pair None v w r = r

  chosen_pair : (b c : Bool) (v v' w w' : Value) → b ≡ c → IsValuePair R v w → IsValuePair R v' w' → IsValuePair R (if b then v else v') (if c then w else w')
  chosen_pair true c v v' w w' h r s = subst (λ d. IsValuePair R v (if d then w else w')) h r
  chosen_pair false c v v' w w' h r s = subst (λ d. IsValuePair R v' (if d then w else w')) h s

  int_eq_same : (a b c d : ℤ) → a ≡ c → b ≡ d → int_eq a b ≡ int_eq c d
  int_eq_same a b c d h k = ap (λ z. int_eq z b) h ∙ ap (int_eq c) k

  equal_same : (reading : Option Reading) (v v' w w' : Value) → IsValuePair R v w → IsValuePair R v' w' → equal clafers xs reading v v' ≡ equal clafers ys reading w w'
  equal_same None v v' w w' r s = refl
  equal_same (Some ByValues) v v' w w' r s = match_same_set (λ (a b : ℤ). a ≡ b) int_eq int_eq int_eq_same (integers_match v w r) (integers_match v' w' s)
  equal_same (Some (ByNodes left right)) v v' w w' r s = match_same_set R same_node same_node alike.same (through_match left (nodes_match R v w r)) (through_match right (nodes_match R v' w' s))

  part_same : (reading : Option Reading) (v v' w w' : Value) → IsValuePair R v w → IsValuePair R v' w' → part clafers xs reading v v' ≡ part clafers ys reading w w'
  part_same None v v' w w' r s = refl
  part_same (Some ByValues) v v' w w' r s = match_all_in (λ (a b : ℤ). a ≡ b) int_eq int_eq int_eq_same (integers_match v w r) (integers_match v' w' s)
  part_same (Some (ByNodes left right)) v v' w w' r s = match_all_in R same_node same_node alike.same (through_match left (nodes_match R v w r)) (through_match right (nodes_match R v' w' s))

  tried_match : (disj : Bool) (n : ℕ) {ms ns : List Node} → Match R ms ns → Match (Pairs R) (tried disj n ms) (tried disj n ns)
  tried_match false n m = match_tuples R n m
  tried_match true n m =
      match_filter (Pairs R) (each_two (λ a b. not (same_node a b))) (each_two (λ a b. not (same_node a b)))
      (λ ts us r. pairs_each_two R (λ a b. not (same_node a b)) (λ a b. not (same_node a b)) (λ a b c d h k. ap not (alike.same a b c d h k)) r) (match_tuples R n m)

  quantified_same : (w : Word) (p q : List Node → Bool) → ((ts us : List Node) → Pairs R ts us → p ts ≡ q us) → {tss uss : List (List Node)} → Match (Pairs R) tss uss → quantified w p tss ≡ quantified w q uss
  quantified_same word.All p q h m = match_all (Pairs R) p q h m
  quantified_same word.Some p q h m = match_any (Pairs R) p q h m
  quantified_same word.No p q h m = ap not (match_any (Pairs R) p q h m)
  quantified_same word.One p q h m = ap (λ n. n == 1) (match_count (Pairs R) p q h m)
  quantified_same word.Lone p q h m = ap (λ n. nat_le n 1) (match_count (Pairs R) p q h m)
  quantified_same _ p q h m = refl

  abbrev at : Within → Option Node → List Node → Situation
  at w this bound = record { within = w; this = this; bound = bound }

  -- the meaning of an expression, where `this` and the variables are related
  pub value_pair : (t : Tree) (w : Within) (a b : Option Node) (ms ns : List Node) → IsPair R a b → Pairs R ms ns → IsValuePair R (value clafers xs t (at w a ms)) (value clafers ys t (at w b ns))
  value_pair (e.Literal _ n) w a b ms ns r rs = refl
  value_pair (e.This _) w a b ms ns r rs = one_node R a b r
  value_pair (e.Variable _ i) w a b ms ns r rs = one_node R (from_end ms i) (from_end ns i) (pairs_from_end R i rs)
  value_pair (e.Clafer _ c) w a b ms ns r rs = where_match (λ x. is_a clafers x.node.clafer c) (λ y. is_a clafers y.node.clafer c) (λ x y s. is_a_same x.node y.node s.node c)
  value_pair (e.Name _ _) w a b ms ns r rs = in_order R none
  value_pair (e.Join _ _ _) w a b ms ns r rs = in_order R none
  value_pair (e.Step _ of into follow) w a b ms ns r rs =
      children_match into (through_match follow (nodes_match R (value clafers xs of (at w a ms)) (value clafers ys of (at w b ns)) (value_pair of w a b ms ns r rs)))
  value_pair (e.Parent _ t) w a b ms ns r rs = parents_match (nodes_match R (value clafers xs t (at w a ms)) (value clafers ys t (at w b ns)) (value_pair t w a b ms ns r rs))
  value_pair (e.Dref p t) w a b ms ns r rs =
      dref_match (kind clafers (e.Dref p t) w) (nodes_match R (value clafers xs t (at w a ms)) (value clafers ys t (at w b ns)) (value_pair t w a b ms ns r rs))
  value_pair (e.Union _ t u) w a b ms ns r rs =
      union_match (nodes_match R (value clafers xs t (at w a ms)) (value clafers ys t (at w b ns)) (value_pair t w a b ms ns r rs))
      (nodes_match R (value clafers xs u (at w a ms)) (value clafers ys u (at w b ns)) (value_pair u w a b ms ns r rs))
  value_pair (e.Minus _ t u) w a b ms ns r rs =
      let left = nodes_match R (value clafers xs t (at w a ms)) (value clafers ys t (at w b ns)) (value_pair t w a b ms ns r rs) in
      let right = nodes_match R (value clafers xs u (at w a ms)) (value clafers ys u (at w b ns)) (value_pair u w a b ms ns r rs) in
      match_filter R (λ m. not (has_node (nodes (value clafers xs u (at w a ms))) m)) (λ n. not (has_node (nodes (value clafers ys u (at w b ns))) n)) (λ m n s. ap not (has_same m n right s)) left
  value_pair (e.Meet _ t u) w a b ms ns r rs =
      let left = nodes_match R (value clafers xs t (at w a ms)) (value clafers ys t (at w b ns)) (value_pair t w a b ms ns r rs) in
      let right = nodes_match R (value clafers xs u (at w a ms)) (value clafers ys u (at w b ns)) (value_pair u w a b ms ns r rs) in
      match_filter R (has_node (nodes (value clafers xs u (at w a ms)))) (has_node (nodes (value clafers ys u (at w b ns)))) (λ m n s. has_same m n right s) left
  value_pair (e.If p c t u) w a b ms ns r rs =
      taken_pair (kind clafers (e.If p c t u) w) (if is_true (value clafers xs c (at w a ms)) then value clafers xs t (at w a ms) else value clafers xs u (at w a ms))
      (if is_true (value clafers ys c (at w b ns)) then value clafers ys t (at w b ns) else value clafers ys u (at w b ns))
      (chosen_pair (is_true (value clafers xs c (at w a ms))) (is_true (value clafers ys c (at w b ns))) (value clafers xs t (at w a ms)) (value clafers xs u (at w a ms)) (value clafers ys t (at w b ns)) (value clafers ys u (at w b ns))
      (true_same R (value clafers xs c (at w a ms)) (value clafers ys c (at w b ns)) (value_pair c w a b ms ns r rs)) (value_pair t w a b ms ns r rs) (value_pair u w a b ms ns r rs))
  value_pair (e.Not _ t) w a b ms ns r rs = ap not (true_same R (value clafers xs t (at w a ms)) (value clafers ys t (at w b ns)) (value_pair t w a b ms ns r rs))
  value_pair (e.And _ t u) w a b ms ns r rs = two (λ p q. p && q) (true_same R (value clafers xs t (at w a ms)) (value clafers ys t (at w b ns)) (value_pair t w a b ms ns r rs)) (true_same R (value clafers xs u (at w a ms)) (value clafers ys u (at w b ns)) (value_pair u w a b ms ns r rs))
  value_pair (e.Or _ t u) w a b ms ns r rs = two (λ p q. p || q) (true_same R (value clafers xs t (at w a ms)) (value clafers ys t (at w b ns)) (value_pair t w a b ms ns r rs)) (true_same R (value clafers xs u (at w a ms)) (value clafers ys u (at w b ns)) (value_pair u w a b ms ns r rs))
  value_pair (e.Xor _ t u) w a b ms ns r rs = two (λ p q. if p then not q else q) (true_same R (value clafers xs t (at w a ms)) (value clafers ys t (at w b ns)) (value_pair t w a b ms ns r rs)) (true_same R (value clafers xs u (at w a ms)) (value clafers ys u (at w b ns)) (value_pair u w a b ms ns r rs))
  value_pair (e.Implies _ t u) w a b ms ns r rs = two (λ p q. not p || q) (true_same R (value clafers xs t (at w a ms)) (value clafers ys t (at w b ns)) (value_pair t w a b ms ns r rs)) (true_same R (value clafers xs u (at w a ms)) (value clafers ys u (at w b ns)) (value_pair u w a b ms ns r rs))
  value_pair (e.Iff _ t u) w a b ms ns r rs = two (λ p q. if p then q else not q) (true_same R (value clafers xs t (at w a ms)) (value clafers ys t (at w b ns)) (value_pair t w a b ms ns r rs)) (true_same R (value clafers xs u (at w a ms)) (value clafers ys u (at w b ns)) (value_pair u w a b ms ns r rs))
  value_pair (e.Add _ t u) w a b ms ns r rs = two (λ y z. y +ℤ z) (number_same (value clafers xs t (at w a ms)) (value clafers ys t (at w b ns)) (value_pair t w a b ms ns r rs)) (number_same (value clafers xs u (at w a ms)) (value clafers ys u (at w b ns)) (value_pair u w a b ms ns r rs))
  value_pair (e.Sub _ t u) w a b ms ns r rs = two (λ y z. y -ℤ z) (number_same (value clafers xs t (at w a ms)) (value clafers ys t (at w b ns)) (value_pair t w a b ms ns r rs)) (number_same (value clafers xs u (at w a ms)) (value clafers ys u (at w b ns)) (value_pair u w a b ms ns r rs))
  value_pair (e.Mul _ t u) w a b ms ns r rs = two (λ y z. y *ℤ z) (number_same (value clafers xs t (at w a ms)) (value clafers ys t (at w b ns)) (value_pair t w a b ms ns r rs)) (number_same (value clafers xs u (at w a ms)) (value clafers ys u (at w b ns)) (value_pair u w a b ms ns r rs))
  value_pair (e.Less _ t u) w a b ms ns r rs = two (λ y z. int_lt y z) (number_same (value clafers xs t (at w a ms)) (value clafers ys t (at w b ns)) (value_pair t w a b ms ns r rs)) (number_same (value clafers xs u (at w a ms)) (value clafers ys u (at w b ns)) (value_pair u w a b ms ns r rs))
  value_pair (e.LessEqual _ t u) w a b ms ns r rs = two (λ y z. int_le y z) (number_same (value clafers xs t (at w a ms)) (value clafers ys t (at w b ns)) (value_pair t w a b ms ns r rs)) (number_same (value clafers xs u (at w a ms)) (value clafers ys u (at w b ns)) (value_pair u w a b ms ns r rs))
  value_pair (e.Greater _ t u) w a b ms ns r rs = two (λ y z. int_lt z y) (number_same (value clafers xs t (at w a ms)) (value clafers ys t (at w b ns)) (value_pair t w a b ms ns r rs)) (number_same (value clafers xs u (at w a ms)) (value clafers ys u (at w b ns)) (value_pair u w a b ms ns r rs))
  value_pair (e.GreaterEqual _ t u) w a b ms ns r rs = two (λ y z. int_le z y) (number_same (value clafers xs t (at w a ms)) (value clafers ys t (at w b ns)) (value_pair t w a b ms ns r rs)) (number_same (value clafers xs u (at w a ms)) (value clafers ys u (at w b ns)) (value_pair u w a b ms ns r rs))
  value_pair (e.Card _ t) w a b ms ns r rs = ap pos (match_length R (nodes_match R (value clafers xs t (at w a ms)) (value clafers ys t (at w b ns)) (value_pair t w a b ms ns r rs)))
  value_pair (e.Sum _ t) w a b ms ns r rs = number_same (value clafers xs t (at w a ms)) (value clafers ys t (at w b ns)) (value_pair t w a b ms ns r rs)
  value_pair (e.Neg _ t) w a b ms ns r rs = ap neg_ℤ (number_same (value clafers xs t (at w a ms)) (value clafers ys t (at w b ns)) (value_pair t w a b ms ns r rs))
  value_pair (e.Some _ t) w a b ms ns r rs = ap (λ n. nat_lt 0 n) (match_length R (nodes_match R (value clafers xs t (at w a ms)) (value clafers ys t (at w b ns)) (value_pair t w a b ms ns r rs)))
  value_pair (e.No _ t) w a b ms ns r rs = ap (λ n. n == 0) (match_length R (nodes_match R (value clafers xs t (at w a ms)) (value clafers ys t (at w b ns)) (value_pair t w a b ms ns r rs)))
  value_pair (e.One _ t) w a b ms ns r rs = ap (λ n. n == 1) (match_length R (nodes_match R (value clafers xs t (at w a ms)) (value clafers ys t (at w b ns)) (value_pair t w a b ms ns r rs)))
  value_pair (e.Lone _ t) w a b ms ns r rs = ap (λ n. nat_le n 1) (match_length R (nodes_match R (value clafers xs t (at w a ms)) (value clafers ys t (at w b ns)) (value_pair t w a b ms ns r rs)))
  value_pair (e.Equal _ t u) w a b ms ns r rs =
      equal_same (reading_of clafers (kind clafers t w) (kind clafers u w)) (value clafers xs t (at w a ms)) (value clafers xs u (at w a ms)) (value clafers ys t (at w b ns)) (value clafers ys u (at w b ns))
      (value_pair t w a b ms ns r rs) (value_pair u w a b ms ns r rs)
  value_pair (e.In _ t u) w a b ms ns r rs =
      part_same (reading_of clafers (kind clafers t w) (kind clafers u w)) (value clafers xs t (at w a ms)) (value clafers xs u (at w a ms)) (value clafers ys t (at w b ns)) (value clafers ys u (at w b ns))
      (value_pair t w a b ms ns r rs) (value_pair u w a b ms ns r rs)
  value_pair (e.Quant _ quantifier disj names over body) w a b ms ns r rs =
      let ks = clafers_of (kind clafers over w) in
      let found = nodes_match R (value clafers xs over (at w a ms)) (value clafers ys over (at w b ns)) (value_pair over w a b ms ns r rs) in
      quantified_same quantifier (λ ts. is_true (value clafers xs body (bind ks ts (at w a ms)))) (λ us. is_true (value clafers ys body (bind ks us (at w b ns))))
      (λ ts us q.
      subst (λ n. is_true (value clafers xs body (bind ks ts (at w a ms))) ≡ is_true (value clafers ys body (at (bind_kinds ks n w) b (ns ++ us)))) (pairs_length R q)
      (true_same R (value clafers xs body (bind ks ts (at w a ms))) (value clafers ys body (at (bind_kinds ks (length ts) w) b (ns ++ us))) (value_pair body (bind_kinds ks (length ts) w) a b (ms ++ ts) (ns ++ us) r (pairs_append R rs q))))
      (tried_match disj (length names) found)
