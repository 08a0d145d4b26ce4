-- What an instance within the scopes, a tree of the right shape, says of each entry.
use Rattle.std.proofs.Common.{◌≡◌, ℕ, suc, ◌<◌, ◌≤◌, Bool, true, false, cond, ◌&&◌, ◌||◌, List, [], ◌∷◌, ◌++◌, length, Option, Some, None, refl, ap, sym, ◌∙◌, arith, ◌⊎◌, inl, inr}
use Rattle.std.specs.Prelude.{◌==◌, nat_lt, is_none}
use Rattle.std.specs.Option.{option_map_or, option_and_then, option_to_list}
use Rattle.std.specs.List.{filter, list_all}
use Rattle.std.proofs.lemmas.Bool.{true≢false}
use Rattle.std.proofs.lemmas.Bool.Decides.{leb_tells}
use Rattle.std.proofs.lemmas.List.Folds.{list_all-map}
use Rattle.clf_tree.specs.declared.model.Clafer.{Clafer}
use Rattle.clf_tree.specs.declared.model.Reference.{Reference}
use Rattle.clf_tree.specs.declared.scopes.Scopes.{Scopes}
use Rattle.clf_tree.specs.declared.instance.Node.{Node}
use Rattle.clf_tree.specs.declared.instance.Entry.{Entry}
use Rattle.clf_tree.specs.declared.instance.Target.{Target}
use Rattle.clf_tree.specs.declared.instance.Target.TheVariants as target
use Rattle.clf_tree.specs.Lists.{has, numbers_below}
use Rattle.clf_tree.specs.Hierarchy.{is_concrete, is_a, parent_of, reference_of, concrete_below}
use Rattle.clf_tree.specs.Nodes.{same_node, has_node, has_some, nodes_of, node_in, target_node, is_ordered, is_within, is_tree, named_by, has_its_parent, ends_within, scope_of}
use Rattle.clf_tree.specs.Shape.{has_shape, refers, instances, meets_reference}
use Rattle.clf_tree.specs.CoreSoundness.{is_instance}
use Rattle.relational_core.specs.Lowered.{is_possible, can_hold, can_reach}
use Rattle.relational_core.proofs.Passing.{both, and_parts, and_all, or_left, or_right, equal, all_implied, all_both}

same-refl : (n : ℕ) → (n == n) ≡ true
same-refl n = grind arith

pub same-itself : (n : Node) → same_node n n ≡ true
same-itself n = and_all (n.clafer == n.clafer) (n.number == n.number) (same-refl n.clafer) (same-refl n.number)

-- nodes that the test takes as the same are equal
pub same-equal : (m n : Node) → same_node m n ≡ true → m ≡ n
same-equal m n h =
    let j = and_parts (m.clafer == n.clafer) (m.number == n.number) h in
    let node : ℕ → ℕ → Node = λ c k. record { clafer = c; number = k } in
    both node (equal m.clafer n.clafer j.0) (equal m.number n.number j.1)

-- what all nodes pass, each that is there passes
pub listed-has : (p : Node → Bool) (ns : List Node) (m : Node) → list_all p ns ≡ true → has_node ns m ≡ true → p m ≡ true
listed-has p [] m all h = absurd (true≢false (sym h))
listed-has p (n ∷ ns) m all h =
    let j = and_parts (p n) (list_all p ns) all in pick (same_node m n) refl h j.0 (listed-has p ns m j.1)
  where
    pick : (b : Bool) → same_node m n ≡ b → (b || has_node ns m) ≡ true → p n ≡ true → (has_node ns m ≡ true → p m ≡ true) → p m ≡ true
    pick true e h here rest = ap p (same-equal m n e) ∙ here
    pick false e h here rest = rest h

-- a test of all nodes of a list, which may use that they are there
pub members : (p : Node → Bool) (ns : List Node) → ((n : Node) → has_node ns n ≡ true → p n ≡ true) → list_all p ns ≡ true
members p [] step = refl
members p (n ∷ ns) step =
    and_all (p n) (list_all p ns) (step n (or_left (same_node n n) (has_node ns n) (same-itself n))) (members p ns (λ m h. step m (or_right (same_node m n) (has_node ns m) h)))

-- a node that is found under a filter is there, and some node that is the same passes
filtered-there : (q : Node → Bool) (ns : List Node) (m : Node) → has_node (filter q ns) m ≡ true → has_node ns m ≡ true
filtered-there q [] m h = h
filtered-there q (n ∷ ns) m h = pick (q n) h (filtered-there q ns m)
  where
    pick : (b : Bool) → has_node (cond b (n ∷ filter q ns) (filter q ns)) m ≡ true → (has_node (filter q ns) m ≡ true → has_node ns m ≡ true) → (same_node m n || has_node ns m) ≡ true
    pick true h rest = again (same_node m n) h
      where
        again : (b : Bool) → (b || has_node (filter q ns) m) ≡ true → (b || has_node ns m) ≡ true
        again true k = refl
        again false k = rest k
    pick false h rest = or_right (same_node m n) (has_node ns m) (rest h)

filtered-passes : (q : Node → Bool) (ns : List Node) → list_all q (filter q ns) ≡ true
filtered-passes q [] = refl
filtered-passes q (n ∷ ns) = pick (q n) refl (filtered-passes q ns)
  where
    pick : (b : Bool) → q n ≡ b → list_all q (filter q ns) ≡ true → list_all q (cond b (n ∷ filter q ns) (filter q ns)) ≡ true
    pick true e rest = and_all (q n) (list_all q (filter q ns)) e rest
    pick false e rest = rest

-- nodes of filtered entries are filtered nodes
nodes-filtered : (q : Node → Bool) (entries : List Entry) → nodes_of (filter (λ x. q x.node) entries) ≡ filter q (nodes_of entries)
nodes-filtered q [] = refl
nodes-filtered q (x ∷ xs) = pick (q x.node) (nodes-filtered q xs)
  where
    pick : (b : Bool) → nodes_of (filter (λ x. q x.node) xs) ≡ filter q (nodes_of xs)
        → nodes_of (cond b (x ∷ filter (λ x. q x.node) xs) (filter (λ x. q x.node) xs)) ≡ cond b (x.node ∷ filter q (nodes_of xs)) (filter q (nodes_of xs))
    pick true rest = ap (λ ns. x.node ∷ ns) rest
    pick false rest = rest

numbers-pass : (p : ℕ → Bool) (xs : List ℕ) (d : ℕ) → has (filter p xs) d ≡ true → p d ≡ true
numbers-pass p [] d h = absurd (true≢false (sym h))
numbers-pass p (x ∷ xs) d h = pick (p x) refl h (numbers-pass p xs d)
  where
    pick : (b : Bool) → p x ≡ b → has (cond b (x ∷ filter p xs) (filter p xs)) d ≡ true → (has (filter p xs) d ≡ true → p d ≡ true) → p d ≡ true
    pick true e h rest = again (d == x) refl h
      where
        again : (c : Bool) → (d == x) ≡ c → (c || has (filter p xs) d) ≡ true → p d ≡ true
        again true f k = ap p (equal d x f) ∙ e
        again false f k = rest k
    pick false e h rest = rest h

positive : (n m : ℕ) → nat_lt n m ≡ true → nat_lt 0 m ≡ true
positive n m h = pick (leb_tells (suc n) m) (leb_tells 1 m)
  where
    pick : ((nat_lt n m ≡ true) × (suc n ≤ m)) ⊎ ((nat_lt n m ≡ false) × (m < suc n)) → ((nat_lt 0 m ≡ true) × (1 ≤ m)) ⊎ ((nat_lt 0 m ≡ false) × (m < 1)) → nat_lt 0 m ≡ true
    pick (inl j) (inl k) = k.0
    pick (inl j) (inr k) = absurd (omega (arith, j.1, k.1))
    pick (inr j) k = absurd (true≢false (sym h ∙ j.0))

module _ (clafers : List Clafer) (scopes : Scopes) (entries : List Entry) where
  abbrev pub parent_fits : Entry → Bool
  parent_fits x = option_map_or (λ p. has_node (nodes_of entries) p && can_hold clafers p.clafer x.node.clafer) x.parent true

  abbrev pub target_fits : Entry → Bool
  target_fits x = option_map_or (λ n. has_node (nodes_of entries) n && can_reach clafers x.node.clafer n.clafer) (target_node x) true

  -- an entry of a clafer that can have instances, whose parent and target are entries of fitting clafers
  abbrev pub fit : Entry → Bool
  fit x = (is_possible clafers scopes x.node.clafer && has_node (nodes_of entries) x.node) && (parent_fits x && target_fits x)

  owned : (q : ℕ) (m : Node) → has_node (filter (λ n. has (concrete_below clafers q) n.clafer) (nodes_of entries)) m ≡ true → is_a clafers m.clafer q ≡ true
  owned q m h =
      let own = listed-has (λ n. has (concrete_below clafers q) n.clafer) (filter (λ n. has (concrete_below clafers q) n.clafer) (nodes_of entries)) m
      (filtered-passes (λ n. has (concrete_below clafers q) n.clafer) (nodes_of entries)) h in
      (and_parts (is_concrete clafers m.clafer) (is_a clafers m.clafer q) (numbers-pass (λ d. is_concrete clafers d && is_a clafers d q) (numbers_below (length clafers)) m.clafer own)).1

  parent-fits : (o : Option ℕ) (parent : Option Node)
      → option_map_or (λ p. has_some (filter (λ m. has (option_map_or (concrete_below clafers) o []) m.clafer) (nodes_of entries)) parent) o (is_none parent) ≡ true
      → option_map_or (λ p. has_node (nodes_of entries) p && option_map_or (is_a clafers p.clafer) o false) parent true ≡ true
  parent-fits o None h = refl
  parent-fits None (Some p) h = absurd (true≢false (sym h))
  parent-fits (Some q) (Some p) h =
      and_all (has_node (nodes_of entries) p) (is_a clafers p.clafer q) (filtered-there (λ m. has (concrete_below clafers q) m.clafer) (nodes_of entries) p h) (owned q p h)

  reached : (c : ℕ) (n : Node) → has_node (nodes_of (instances clafers entries c)) n ≡ true → (has_node (nodes_of entries) n && is_a clafers n.clafer c) ≡ true
  reached c n h =
      let q : Node → Bool = λ m. is_a clafers m.clafer c in
      let k = ap (λ ns. has_node ns n) (sym (nodes-filtered q entries)) ∙ h in
      and_all (has_node (nodes_of entries) n) (q n) (filtered-there q (nodes_of entries) n k) (listed-has q (filter q (nodes_of entries)) n (filtered-passes q (nodes_of entries)) k)

  refers-fits : (to : Option ℕ) (n : Node) → refers clafers entries scopes to (target.Node n) ≡ true → (has_node (nodes_of entries) n && option_map_or (is_a clafers n.clafer) to false) ≡ true
  refers-fits None n h = absurd (true≢false (sym h))
  refers-fits (Some c) n h = reached c n h

  target-fits : (o : Option Reference) (t : Option Target)
      → option_map_or (λ r. option_map_or (refers clafers entries scopes r.to) t false) o (is_none t) ≡ true
      → option_map_or (λ n. has_node (nodes_of entries) n && option_map_or (is_a clafers n.clafer) (option_and_then (λ r. r.to) o) false) (option_and_then node_in t) true ≡ true
  target-fits o None h = refl
  target-fits o (Some (target.Int z)) h = refl
  target-fits None (Some (target.Node n)) h = absurd (true≢false (sym h))
  target-fits (Some r) (Some (target.Node n)) h = refers-fits r.to n h

  within-parts : (x : Entry) → list_all (λ n. is_concrete clafers n.clafer && nat_lt n.number (scope_of scopes n.clafer)) (named_by x) ≡ true → is_possible clafers scopes x.node.clafer ≡ true
  within-parts x h =
      let test : Node → Bool = λ n. is_concrete clafers n.clafer && nat_lt n.number (scope_of scopes n.clafer) in
      let j = and_parts (test x.node) (list_all test (option_to_list x.parent ++ option_to_list (target_node x))) h in
      let k = and_parts (is_concrete clafers x.node.clafer) (nat_lt x.node.number (scope_of scopes x.node.clafer)) j.0 in
      and_all (is_concrete clafers x.node.clafer) (nat_lt 0 (scope_of scopes x.node.clafer)) k.0 (positive x.node.number (scope_of scopes x.node.clafer) k.1)

  middle : (a b c : Bool) → (a && b && c) ≡ true → b ≡ true
  middle a b c h = (and_parts a b (and_parts (a && b) c h).0).1

  -- each entry of an instance fits
  pub all_fit : is_instance clafers scopes entries ≡ true → list_all fit entries ≡ true
  all_fit h =
      let shaped = and_parts (is_ordered entries && is_within clafers scopes entries && is_tree clafers entries) (has_shape clafers scopes entries) h in
      let treed = and_parts (is_ordered entries && is_within clafers scopes entries) (is_tree clafers entries) shaped.0 in
      let within = and_parts (is_ordered entries) (is_within clafers scopes entries) treed.0 in
      all_both (λ x. is_possible clafers scopes x.node.clafer && has_node (nodes_of entries) x.node) (λ x. parent_fits x && target_fits x) entries
      (all_both (λ x. is_possible clafers scopes x.node.clafer) (λ x. has_node (nodes_of entries) x.node) entries
      (all_implied (λ x. list_all (λ n. is_concrete clafers n.clafer && nat_lt n.number (scope_of scopes n.clafer)) (named_by x)) (λ x. is_possible clafers scopes x.node.clafer) entries within-parts within.1)
      (sym (list_all-map (has_node (nodes_of entries)) (λ (x : Entry). x.node) entries) ∙ members (has_node (nodes_of entries)) (nodes_of entries) (λ n there. there)))
      (all_both parent_fits target_fits entries
      (all_implied (λ x. list_all (λ n. is_concrete clafers n.clafer) (named_by x) && has_its_parent clafers entries x && ends_within (length entries) entries x.parent) parent_fits entries
      (λ x k. parent-fits (parent_of clafers x.node.clafer) x.parent (middle (list_all (λ n. is_concrete clafers n.clafer) (named_by x)) (has_its_parent clafers entries x) (ends_within (length entries) entries x.parent) k)) treed.1)
      (all_implied (meets_reference clafers entries scopes) target_fits entries (λ x k. target-fits (reference_of clafers x.node.clafer) x.target k) (middle _ _ _ shaped.1)))

  -- the clafer of an entry can have instances
  pub entry-possible : list_all fit entries ≡ true → (n : Node) → has_node (nodes_of entries) n ≡ true → is_possible clafers scopes n.clafer ≡ true
  entry-possible all n h =
      listed-has (λ m. is_possible clafers scopes m.clafer) (nodes_of entries) n
      (list_all-map (λ m. is_possible clafers scopes m.clafer) (λ (x : Entry). x.node) entries
      ∙ all_implied fit (λ x. is_possible clafers scopes x.node.clafer) entries
      (λ x k. (and_parts (is_possible clafers scopes x.node.clafer) (has_node (nodes_of entries) x.node) (and_parts (is_possible clafers scopes x.node.clafer && has_node (nodes_of entries) x.node) (parent_fits x && target_fits x) k).0).0) all) h
