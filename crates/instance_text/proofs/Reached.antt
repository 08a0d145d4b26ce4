-- Which entries are reached from those without a parent: all of them, where the instance is a tree.
use Rattle.std.proofs.Common.{◌≡◌, ℕ, zero, suc, ◌+◌, ◌<◌, ◌≤◌, Bool, true, false, ◌&&◌, List, [], ◌∷◌, ◌++◌, length, map, cond, Option, Some, None, refl, ap, sym, subst, ◌∙◌, arith, is_none, true≢false}
use Rattle.std.specs.Prelude.{◌==◌, not, slice_get}
use Rattle.std.specs.Option.{option_map_or, option_and_then}
use Rattle.std.specs.List.{filter, flat_map, list_any, list_all, find, range_with_len}
use Rattle.std.proofs.lemmas.Grind.{common_steps}
use Rattle.std.proofs.lemmas.Option.{slice_get_within}
use Rattle.clf_tree.specs.declared.model.Clafer.{Clafer}
use Rattle.clf_tree.specs.declared.instance.Node.{Node}
use Rattle.clf_tree.specs.declared.instance.Entry.{Entry}
use Rattle.clf_tree.specs.Lists.{has, numbers_below}
use Rattle.clf_tree.specs.Hierarchy.{concrete_below, parent_of, is_a, is_concrete}
use Rattle.clf_tree.specs.Nodes.{same_node, is_before, is_ordered, nodes_of, has_node, has_some, named_by, entry_of, parent_in, ends_within, has_its_parent, is_tree}
use Rattle.clf_tree.specs.Shape.{is_child_of}
use Rattle.instance_text.specs.Placed.{is_owner, has_owner, names_concrete, is_placed}
use Rattle.instance_text.proofs.Items.{In, first, later, and_left, and_right, and_both, found, any_in, all_in, all_from, kept, in_filter, in_map, image, in_flat_map, flat_mapped, filter_few, filter_fewer, filter_less}
use Rattle.instance_text.proofs.Walk.{Place, walk, roots, whole, entry_of_place, same_equal, map_two}

same_itself : (n : Node) → same_node n n ≡ true
same_itself n = grind (arith, common_steps)

before_apart : (m n : Node) → is_before m n ≡ true → same_node n m ≡ false
before_apart m n h = grind (arith, common_steps)

-- in an ordered list the entry of a node is found
pub entry_found : (es : List Entry) (y : Entry) → is_ordered es ≡ true → In y es → entry_of es y.node ≡ Some y
entry_found _ y ordered (first {xs = es}) = ap (λ b. cond b (Some y) (find (λ e. same_node y.node e.node) es)) (same_itself y.node)
entry_found _ y ordered (later {y = x} {xs = es} i) =
    let before : is_before x.node y.node ≡ true = all_in (λ e. is_before x.node e.node) es y i (and_left (list_all (λ e. is_before x.node e.node) es) (is_ordered es) ordered) in
    ap (λ b. cond b (Some x) (find (λ e. same_node y.node e.node) es)) (before_apart x.node y.node before)
    ∙ entry_found es y (and_right (list_all (λ e. is_before x.node e.node) es) (is_ordered es) ordered) i

-- ---- what is reached

module _ (es : List Entry) where
  -- an entry and what stands below it, down to n levels
  abbrev pub under : ℕ → Entry → List Entry
  under zero e = []
  under (suc n) e = e ∷ flat_map (under n) (filter (is_child_of e) es)

  map_flat : (w : Entry → List Place) (u : Entry → List Entry) → ((c : Entry) → map entry_of_place (w c) ≡ u c) → (cs : List Entry) → map entry_of_place (flat_map w cs) ≡ flat_map u cs
  map_flat w u h [] = refl
  map_flat w u h (c ∷ cs) = map_two entry_of_place (w c) (flat_map w cs) ∙ ap (λ z. z ++ map entry_of_place (flat_map w cs)) (h c) ∙ ap (λ z. u c ++ z) (map_flat w u h cs)

  walk_under : (n depth : ℕ) (e : Entry) → map entry_of_place (walk es n depth e) ≡ under n e
  walk_under zero depth e = refl
  walk_under (suc n) depth e = ap (λ z. e ∷ z) (map_flat (walk es n (depth + 1)) (under n) (walk_under n (depth + 1)) (filter (is_child_of e) es))

  pub whole_under : map entry_of_place (whole es) ≡ flat_map (under (length es)) (roots es)
  whole_under = map_flat (walk es (length es) 0) (under (length es)) (walk_under (length es) 0) (roots es)

  grow_first : (n : ℕ) (e y x : Entry) (rest : List Entry) → In y (e ∷ rest) → In x es → is_child_of y x ≡ true → (In y rest → In x (flat_map (under (suc n)) (filter (is_child_of e) es))) → In x (flat_map (under (suc n)) (filter (is_child_of e) es))
  grow_first n _ y x rest (first {x = _}) there child more = in_flat_map (under (suc n)) (filter (is_child_of y) es) x x (in_filter (is_child_of y) es x there child) first
  grow_first n e y x rest (later i) there child more = more i

  -- a child of what is reached is reached one level further down
  grow : (n : ℕ) (e y x : Entry) → In y (under n e) → In x es → is_child_of y x ≡ true → In x (under (suc n) e)
  grow zero e y x i there child = elim i [ ]
  grow (suc n) e y x i there child =
      later (grow_first n e y x (flat_map (under n) (filter (is_child_of e) es)) i there child
      (λ j. let f = flat_mapped (under n) (filter (is_child_of e) es) y j in
      in_flat_map (under (suc n)) (filter (is_child_of e) es) f.item x f.in_list (grow n f.item y x f.in_image there child)))

  grow_all : (n : ℕ) (y x : Entry) → In y (flat_map (under n) (roots es)) → In x es → is_child_of y x ≡ true → In x (flat_map (under (suc n)) (roots es))
  grow_all n y x i there child = let f = flat_mapped (under n) (roots es) y i in in_flat_map (under (suc n)) (roots es) f.item x f.in_list (grow n f.item y x f.in_image there child)

  -- ---- each entry of a tree

  pub record ParentIs (x : Entry) (p : Node) : Type 0 where
    pub entry : Entry
    pub there : In entry es
    pub is : entry.node ≡ p
    pub above : parent_in es p ≡ entry.parent

  abbrev pub AllParents : Type 0
  AllParents = (x : Entry) (p : Node) → In x es → x.parent ≡ Some p → ParentIs x p

  abbrev ends : ℕ → Entry → Bool
  ends n x = ends_within n es x.parent

  root_reached : (n : ℕ) (x : Entry) → In x es → is_none x.parent ≡ true → In x (flat_map (under (suc n)) (roots es))
  root_reached n x there h = in_flat_map (under (suc n)) (roots es) x x (in_filter (λ (e : Entry). is_none e.parent) es x there h) first

  reached : AllParents → (n : ℕ) (x : Entry) → In x es → ends n x ≡ true → In x (flat_map (under (suc n)) (roots es))
  reached parents zero x there h = root_reached zero x there h
  reached parents (suc n) x there h = by x.parent refl h (λ y i k. reached parents n y i k)
    where
      by : (o : Option Node) → x.parent ≡ o → ends_within (suc n) es o ≡ true → ((y : Entry) → In y es → ends n y ≡ true → In y (flat_map (under (suc n)) (roots es))) → In x (flat_map (under (suc (suc n))) (roots es))
      by None e k next = root_reached (suc n) x there (ap is_none e)
      by (Some p) e k next =
          let q = parents x p there e in
          grow_all (suc n) q.entry x (next q.entry q.there (ap (ends_within n es) (sym q.above) ∙ k)) there
          (ap (λ o. option_map_or (same_node q.entry.node) o false) e ∙ ap (same_node q.entry.node) (sym q.is) ∙ same_itself q.entry.node)

  -- ---- no way up is as long as the list

  ends_more : (n : ℕ) (o : Option Node) → ends_within n es o ≡ true → ends_within (suc n) es o ≡ true
  ends_more zero None h = refl
  ends_more zero (Some m) h = absurd (true≢false (sym h))
  ends_more (suc n) None h = refl
  ends_more (suc n) (Some m) h = ends_more n (parent_in es m) h

  -- whether the way up is shorter than n
  abbrev shorter : ℕ → Entry → Bool
  shorter zero x = false
  shorter (suc n) x = ends n x

  shorter_more : (n : ℕ) (x : Entry) → shorter n x ≡ true → shorter (suc n) x ≡ true
  shorter_more zero x h = absurd (true≢false (sym h))
  shorter_more (suc n) x h = ends_more n x.parent h

  -- one whose way up is exactly so long
  record Exactly (n : ℕ) : Type 0 where
    entry : Entry
    there : In entry es
    not_shorter : shorter n entry ≡ false
    ends : shorter (suc n) entry ≡ true

  ends_none : (n : ℕ) (o : Option Node) → o ≡ None → ends_within n es o ≡ true
  ends_none zero o e = ap is_none e
  ends_none (suc n) o e = ap (λ q. option_map_or (λ m. ends_within n es (parent_in es m)) q true) e

  next_ends : (n : ℕ) (x y : Entry) (p : Node) → x.parent ≡ Some p → parent_in es p ≡ y.parent → shorter n y ≡ true → shorter (suc n) x ≡ true
  next_ends zero x y p e f h = absurd (true≢false (sym h))
  next_ends (suc n) x y p e f h = ap (ends_within (suc n) es) e ∙ ap (ends_within n es) f ∙ h

  at_top : (n : ℕ) (x : Entry) → In x es → x.parent ≡ None → shorter n x ≡ false → Exactly n
  at_top n x there e g = record { entry = x; there = there; not_shorter = g; ends = ends_none n x.parent e }

  one_up : (n : ℕ) (x y : Entry) (p : Node) (b : Bool) → In x es → x.parent ≡ Some p → parent_in es p ≡ y.parent → shorter n x ≡ false → shorter n y ≡ b → (shorter n y ≡ false → Exactly n) → Exactly n
  one_up n x y p true there e f g h next = record { entry = x; there = there; not_shorter = g; ends = next_ends n x y p e f h }
  one_up n x y p false there e f g h next = next h

  exactly : AllParents → (k n : ℕ) (x : Entry) → In x es → ends k x ≡ true → shorter n x ≡ false → Exactly n
  exactly parents zero n x there h g = by x.parent refl h
    where
      by : (o : Option Node) → x.parent ≡ o → is_none o ≡ true → Exactly n
      by None e k = at_top n x there e g
      by (Some p) e k = absurd (true≢false (sym k))
  exactly parents (suc k) n x there h g = by x.parent refl h (λ y i e f. exactly parents k n y i e f)
    where
      by : (o : Option Node) → x.parent ≡ o → ends_within (suc k) es o ≡ true → ((y : Entry) → In y es → ends k y ≡ true → shorter n y ≡ false → Exactly n) → Exactly n
      by None e l next = at_top n x there e g
      by (Some p) e l next =
          let q = parents x p there e in
          one_up n x q.entry p (shorter n q.entry) there e q.above g refl (next q.entry q.there (ap (ends_within k es) (sym q.above) ∙ l))

  -- as many have shorter ways
  many_shorter : AllParents → (k n : ℕ) (x : Entry) → In x es → ends k x ≡ true → shorter n x ≡ false → n ≤ length (filter (shorter n) es)
  many_shorter parents k zero x there h g = omega arith
  many_shorter parents k (suc n) x there h g =
      let before : shorter n x ≡ false = not_before (shorter n x) refl in
      let one = exactly parents k n x there h before in
      omega (arith, many_shorter parents k n x there h before, filter_less (shorter n) (shorter (suc n)) (shorter_more n) es one.entry one.there one.not_shorter one.ends)
    where
      not_before : (b : Bool) → shorter n x ≡ b → b ≡ false
      not_before true e = absurd (true≢false (sym (shorter_more n x e) ∙ g))
      not_before false e = refl

  short_way : AllParents → (x : Entry) → In x es → ends (length es) x ≡ true → shorter (length es) x ≡ true
  short_way parents x there h = by (shorter (length es) x) refl
    where
      by : (b : Bool) → shorter (length es) x ≡ b → b ≡ true
      by true e = refl
      by false e =
          let no : ⊥ = omega (arith, many_shorter parents (length es) (length es) x there h e, filter_fewer (shorter (length es)) es x there e) in
          absurd no

  from_shorter : AllParents → (n : ℕ) (x : Entry) → In x es → shorter n x ≡ true → In x (flat_map (under n) (roots es))
  from_shorter parents zero x there h = absurd (true≢false (sym h))
  from_shorter parents (suc n) x there h = reached parents n x there h

  pub all_reached : AllParents → (x : Entry) → In x es → ends_within (length es) es x.parent ≡ true → In x (flat_map (under (length es)) (roots es))
  all_reached parents x there h = from_shorter parents (length es) x there (short_way parents x there h)

  -- ---- what is reached is an entry, whose way up ends

  under_in : (n : ℕ) (e x : Entry) → In e es → In x (under n e) → In x es
  under_in zero e x there i = elim i [ ]
  under_in (suc n) e x there i =
      by e (flat_map (under n) (filter (is_child_of e) es)) i there (λ j. let f = flat_mapped (under n) (filter (is_child_of e) es) x j in under_in n f.item x (kept (is_child_of e) es f.item f.in_list).in_list f.in_image)
    where
      by : (y : Entry) (rest : List Entry) → In x (y ∷ rest) → In y es → (In x rest → In x es) → In x es
      by _ rest (first {x = _}) here next = here
      by y rest (later j) here next = next j

  pub reached_in : (x : Entry) → In x (flat_map (under (length es)) (roots es)) → In x es
  reached_in x i = let f = flat_mapped (under (length es)) (roots es) x i in under_in (length es) f.item x (kept (λ (e : Entry). is_none e.parent) es f.item f.in_list).in_list f.in_image

  -- its way up ends, and its parent, if it has one, is an entry
  pub record Stands (n : ℕ) (x : Entry) : Type 0 where
    pub ends_up : ends_within n es x.parent ≡ true
    pub parent_there : option_map_or (has_node (nodes_of es)) x.parent true ≡ true

  more_levels : (k n : ℕ) (o : Option Node) → ends_within k es o ≡ true → ends_within (k + n) es o ≡ true
  more_levels k zero o h = let e : k ≡ k + 0 = omega arith in subst (λ m. ends_within m es o ≡ true) e h
  more_levels k (suc n) o h = let e : suc (k + n) ≡ k + suc n = omega arith in subst (λ m. ends_within m es o ≡ true) e (ends_more (k + n) o (more_levels k n o h))

  child_stands : is_ordered es ≡ true → (k : ℕ) (e c : Entry) → In e es → ends_within k es e.parent ≡ true → is_child_of e c ≡ true → Stands (suc k) c
  child_stands ordered k e c there h child = by c.parent refl child
    where
      by : (o : Option Node) → c.parent ≡ o → option_map_or (same_node e.node) o false ≡ true → Stands (suc k) c
      by None f g = absurd (true≢false (sym g))
      by (Some p) f g =
          let is : e.node ≡ p = same_equal e.node p g in
          let up : parent_in es p ≡ e.parent = ap (parent_in es) (sym is) ∙ ap (option_and_then (λ (x : Entry). x.parent)) (entry_found es e ordered there) in
          record {
            ends_up = ap (ends_within (suc k) es) f ∙ ap (ends_within k es) up ∙ h;
            parent_there = ap (λ o. option_map_or (has_node (nodes_of es)) o true) f ∙ ap (has_node (nodes_of es)) (sym is) ∙ any_in (same_node e.node) (nodes_of es) e.node (in_map (λ (x : Entry). x.node) es e there) (same_itself e.node);
          }

  under_stands : is_ordered es ≡ true → (n k : ℕ) (e x : Entry) → In e es → Stands k e → In x (under n e) → Stands (k + n) x
  under_stands ordered zero k e x there s i = elim i [ ]
  under_stands ordered (suc n) k e x there s i =
      by e (flat_map (under n) (filter (is_child_of e) es)) i s
      (λ j. let f = flat_mapped (under n) (filter (is_child_of e) es) x j in
      let c = kept (is_child_of e) es f.item f.in_list in
      let same : suc k + n ≡ k + suc n = omega arith in
      subst (λ m. Stands m x) same (under_stands ordered n (suc k) f.item x c.in_list (child_stands ordered k e f.item there s.ends_up c.pass) f.in_image))
    where
      by : (y : Entry) (rest : List Entry) → In x (y ∷ rest) → Stands k y → (In x rest → Stands (k + suc n) x) → Stands (k + suc n) x
      by _ rest (first {x = _}) here next = record { ends_up = more_levels k (suc n) x.parent here.ends_up; parent_there = here.parent_there }
      by y rest (later j) here next = next j

  root_stands : (e : Entry) → is_none e.parent ≡ true → Stands 0 e
  root_stands e h = record { ends_up = h; parent_there = by e.parent h }
    where
      by : (o : Option Node) → is_none o ≡ true → option_map_or (has_node (nodes_of es)) o true ≡ true
      by None k = refl
      by (Some p) k = absurd (true≢false (sym k))

  pub reached_stands : is_ordered es ≡ true → (x : Entry) → In x (flat_map (under (length es)) (roots es)) → Stands (length es) x
  reached_stands ordered x i =
      let f = flat_mapped (under (length es)) (roots es) x i in
      let r = kept (λ (e : Entry). is_none e.parent) es f.item f.in_list in
      let same : 0 + length es ≡ length es = omega arith in
      subst (λ m. Stands m x) same (under_stands ordered (length es) 0 f.item x r.in_list (root_stands f.item r.pass) f.in_image)

-- ---- clafers

pub number_is : (a b : ℕ) → (a == b) ≡ true → a ≡ b
number_is a b h = grind (arith, common_steps)

number_itself : (a : ℕ) → (a == a) ≡ true
number_itself a = grind (arith, common_steps)

in_range : (n a i : ℕ) → i < n → In (a + i) (range_with_len a n)
in_range zero a i h = let no : ⊥ = omega (arith, h) in absurd no
in_range (suc n) a zero h = subst (λ z. In z (a ∷ range_with_len (a + 1) n)) (omega arith) (first {x = a} {xs = range_with_len (a + 1) n})
in_range (suc n) a (suc i) h = subst (λ z. In z (a ∷ range_with_len (a + 1) n)) (omega arith) (later {x = a + 1 + i} {y = a} (in_range n (a + 1) i (omega (arith, h))))

pub in_numbers : (n i : ℕ) → i < n → In i (numbers_below n)
in_numbers n i h = subst (λ z. In z (numbers_below n)) (omega arith) (in_range n 0 i h)

listed_from : (clafers : List Clafer) (c : ℕ) (k : Option Clafer) → slice_get clafers c ≡ k → option_map_or (λ (x : Clafer). not x.is_abstract) k false ≡ true → c < length clafers
listed_from clafers c None e h = absurd (true≢false (sym h))
listed_from clafers c (Some k) e h = slice_get_within clafers c k e

pub concrete_listed : (clafers : List Clafer) (c : ℕ) → is_concrete clafers c ≡ true → c < length clafers
concrete_listed clafers c h = listed_from clafers c (slice_get clafers c) refl h

-- ---- trees

module _ (clafers : List Clafer) (es : List Entry) where
  abbrev tree_test : Entry → Bool
  tree_test e = list_all (λ n. is_concrete clafers n.clafer) (named_by e) && has_its_parent clafers es e && ends_within (length es) es e.parent

  abbrev owned_by : Option ℕ → Node → Bool
  owned_by q m = has (option_map_or (concrete_below clafers) q []) m.clafer

  abbrev owned : ℕ → Node → Bool
  owned c m = owned_by (parent_of clafers c) m

  below_owner : (q d : ℕ) → has (concrete_below clafers q) d ≡ true → (is_concrete clafers d && is_a clafers d q) ≡ true
  below_owner q d h =
      let f = found (λ y. d == y) (concrete_below clafers q) h in
      let k = kept (λ y. is_concrete clafers y && is_a clafers y q) (numbers_below (length clafers)) f.item f.in_list in
      subst (λ z. (is_concrete clafers z && is_a clafers z q) ≡ true) (sym (number_is d f.item f.pass)) k.pass

  owner_below : (q d : ℕ) → (is_concrete clafers d && is_a clafers d q) ≡ true → has (concrete_below clafers q) d ≡ true
  owner_below q d h =
      let listed = in_numbers (length clafers) d (concrete_listed clafers d (and_left (is_concrete clafers d) (is_a clafers d q) h)) in
      any_in (λ y. d == y) (concrete_below clafers q) d (in_filter (λ y. is_concrete clafers y && is_a clafers y q) (numbers_below (length clafers)) d listed h) (number_itself d)

  -- a node of the list that an owner has
  record IsOwned (c : ℕ) (p : Node) : Type 0 where
    there : In p (nodes_of es)
    owner : owned c p ≡ true

  owned_node : (c : ℕ) (p : Node) → has_node (filter (owned c) (nodes_of es)) p ≡ true → IsOwned c p
  owned_node c p h =
      let f = found (same_node p) (filter (owned c) (nodes_of es)) h in
      let k = kept (owned c) (nodes_of es) f.item f.in_list in
      let is = same_equal p f.item f.pass in
      record { there = subst (λ m. In m (nodes_of es)) (sym is) k.in_list; owner = ap (owned c) is ∙ k.pass }

  parent_owned : (x : Entry) (p : Node) → x.parent ≡ Some p → has_its_parent clafers es x ≡ true → IsOwned x.node.clafer p
  parent_owned x p e h = by (parent_of clafers x.node.clafer) (ap (λ o. option_map_or (λ q. has_some (filter (owned x.node.clafer) (nodes_of es)) o) (parent_of clafers x.node.clafer) (is_none o)) (sym e) ∙ h)
    where
      by : (q : Option ℕ) → option_map_or (λ q. has_some (filter (owned x.node.clafer) (nodes_of es)) (Some p)) q false ≡ true → IsOwned x.node.clafer p
      by None k = absurd (true≢false (sym k))
      by (Some q) k = owned_node x.node.clafer p k

  test_of : (x : Entry) → In x es → is_tree clafers es ≡ true → tree_test x ≡ true
  test_of x there tree = all_in tree_test es x there tree

  pub tree_parents_are : is_ordered es ≡ true → is_tree clafers es ≡ true → AllParents es
  tree_parents_are ordered tree x p there e =
      let t = and_left (list_all (λ n. is_concrete clafers n.clafer) (named_by x) && has_its_parent clafers es x) (ends_within (length es) es x.parent) (test_of x there tree) in
      let o = parent_owned x p e (and_right (list_all (λ n. is_concrete clafers n.clafer) (named_by x)) (has_its_parent clafers es x) t) in
      let i = image (λ (y : Entry). y.node) es p o.there in
      record { entry = i.item; there = i.in_list; is = i.same; above = ap (parent_in es) (sym i.same) ∙ ap (option_and_then (λ (y : Entry). y.parent)) (entry_found es i.item ordered i.in_list) }

  -- in a tree each entry is reached
  pub tree_reached : is_ordered es ≡ true → is_tree clafers es ≡ true → (x : Entry) → In x es → In x (map entry_of_place (whole es))
  tree_reached ordered tree x there =
      subst (In x) (sym (whole_under es))
      (all_reached es (tree_parents_are ordered tree) x there (and_right (list_all (λ n. is_concrete clafers n.clafer) (named_by x) && has_its_parent clafers es x) (ends_within (length es) es x.parent) (test_of x there tree)))

  pub whole_in : (x : Entry) → In x (map entry_of_place (whole es)) → In x es
  whole_in x i = reached_in es x (subst (In x) (whole_under es) i)

  owner_from : (x : Entry) (o : Option Node) → x.parent ≡ o → has_its_parent clafers es x ≡ true → has_owner clafers x ≡ true
  owner_from x None e h =
      ap (λ o. option_map_or (λ q. option_map_or (is_owner clafers q) o false) (parent_of clafers x.node.clafer) (is_none o)) e
      ∙ (ap (λ o. option_map_or (λ q. has_some (filter (owned x.node.clafer) (nodes_of es)) o) (parent_of clafers x.node.clafer) (is_none o)) (sym e) ∙ h)
  owner_from x (Some p) e h =
      let o = parent_owned x p e h in
      ap (λ o. option_map_or (λ q. option_map_or (is_owner clafers q) o false) (parent_of clafers x.node.clafer) (is_none o)) e ∙ by (parent_of clafers x.node.clafer) o.owner
    where
      by : (q : Option ℕ) → owned_by q p ≡ true → option_map_or (λ q. is_owner clafers q p) q false ≡ true
      by None g = absurd (true≢false (sym g))
      by (Some q) g = below_owner q p.clafer g

  pub tree_placed : is_tree clafers es ≡ true → list_all (is_placed clafers) es ≡ true
  tree_placed tree =
      all_from (is_placed clafers) es (λ x there.
      let t = and_left (list_all (λ n. is_concrete clafers n.clafer) (named_by x) && has_its_parent clafers es x) (ends_within (length es) es x.parent) (test_of x there tree) in
      let names : Bool = list_all (λ n. is_concrete clafers n.clafer) (named_by x) in
      and_both names (has_owner clafers x) (and_left names (has_its_parent clafers es x) t) (owner_from x x.parent refl (and_right names (has_its_parent clafers es x) t)))

  parent_from : (x : Entry) (o : Option Node) → x.parent ≡ o → option_map_or (has_node (nodes_of es)) x.parent true ≡ true → has_owner clafers x ≡ true → has_its_parent clafers es x ≡ true
  parent_from x None e there h =
      ap (λ o. option_map_or (λ q. has_some (filter (owned x.node.clafer) (nodes_of es)) o) (parent_of clafers x.node.clafer) (is_none o)) e
      ∙ (ap (λ o. option_map_or (λ q. option_map_or (is_owner clafers q) o false) (parent_of clafers x.node.clafer) (is_none o)) (sym e) ∙ h)
  parent_from x (Some p) e there h =
      ap (λ o. option_map_or (λ q. has_some (filter (owned x.node.clafer) (nodes_of es)) o) (parent_of clafers x.node.clafer) (is_none o)) e
      ∙ by (parent_of clafers x.node.clafer) (ap (λ o. option_map_or (λ q. option_map_or (is_owner clafers q) o false) (parent_of clafers x.node.clafer) (is_none o)) (sym e) ∙ h)
    where
      by : (q : Option ℕ) → option_map_or (λ q. is_owner clafers q p) q false ≡ true → option_map_or (λ r. has_some (filter (owned_by q) (nodes_of es)) (Some p)) q false ≡ true
      by None k = k
      by (Some q) k =
          let f = found (same_node p) (nodes_of es) (ap (λ o. option_map_or (has_node (nodes_of es)) o true) (sym e) ∙ there) in
          let is = same_equal p f.item f.pass in
          any_in (same_node p) (filter (owned_by (Some q)) (nodes_of es)) f.item (in_filter (owned_by (Some q)) (nodes_of es) f.item f.in_list (ap (owned_by (Some q)) (sym is) ∙ owner_below q p.clafer k)) f.pass

  -- where each entry is reached and can stand in a tree, it is one
  pub tree_from_reached : is_ordered es ≡ true → list_all (is_placed clafers) es ≡ true → ((x : Entry) → In x es → In x (map entry_of_place (whole es))) → is_tree clafers es ≡ true
  tree_from_reached ordered placed all =
      all_from tree_test es (λ x there.
      let s = reached_stands es ordered x (subst (In x) (whole_under es) (all x there)) in
      let p = all_in (is_placed clafers) es x there placed in
      let names : Bool = list_all (λ n. is_concrete clafers n.clafer) (named_by x) in
      and_both (names && has_its_parent clafers es x) (ends_within (length es) es x.parent)
      (and_both names (has_its_parent clafers es x) (and_left names (has_owner clafers x) p) (parent_from x x.parent refl s.parent_there (and_right names (has_owner clafers x) p))) s.ends_up)
