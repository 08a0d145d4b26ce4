-- The renamed entries fill their numbers, and keep the order of parents.
use Rattle.std.proofs.Common.{◌≡◌, ℕ, zero, suc, ◌+◌, ◌<◌, Bool, true, false, not, ◌&&◌, ◌||◌, ◌⊎◌, inl, inr, List, length, map, cond, Option, Some, None, Greater, refl, ap, sym, subst, ◌∙◌, arith, true≢false}
use Rattle.std.specs.Prelude.{◌==◌, nat_lt, is_none}
use Rattle.std.specs.Ordering.{is_gt, nat_cmp, ordering_then, ordering_reverse}
use Rattle.std.specs.Cmp.{nat_cmp_is}
use Rattle.std.specs.Option.{option_map, option_map_or, option_and_then}
use Rattle.std.specs.List.{filter, find, list_all, range_with_len}
use Rattle.std.proofs.lemmas.Cmp.{nat_cmp_total, tied_itself}
use Rattle.std.proofs.lemmas.Grind.{common_steps}
use Rattle.clf_tree.specs.declared.model.Clafer.{Clafer}
use Rattle.clf_tree.specs.declared.instance.Node.{Node}
use Rattle.clf_tree.specs.declared.instance.Entry.{Entry}
use Rattle.clf_tree.specs.declared.scopes.Scopes.{Scopes}
use Rattle.clf_tree.specs.Lists.{has}
use Rattle.clf_tree.specs.Hierarchy.{is_concrete, owners, parent_of}
use Rattle.clf_tree.specs.Nodes.{same_node, is_before, has_node, has_some, nodes_of, named_by, entry_of, parent_in, is_ordered, is_within, is_tree, has_its_parent, ends_within, scope_of}
use Rattle.clf_tree.specs.Renaming.{renamed_node, renamed}
use Rattle.clf_tree.proofs.Items.{In, first, later, and_left, and_right, or_right, found, any_in, all_in, kept, in_map, image}
use Rattle.clf_tree.proofs.Counts.{entry_slot, same_equal, same_refl}
use Rattle.canonical_instances.specs.Canonical.{follows_parents, is_no_later, keep_order}
use Rattle.canonical_instances.specs.Renumbering.{compare_up, renumbering}
use Rattle.canonical_instances.proofs.Orders.{up_total, compare_more, then_first, then_second, greater_first}
use Rattle.canonical_instances.proofs.Renumbered.{new_number, number_is, earlier, comes_first, node_first, there_first}

less_from : (a b : ℕ) → nat_lt a b ≡ true → a < b
less_from a b h = grind (arith, common_steps)

equal_from : (a b : ℕ) → (a == b) ≡ true → a ≡ b
equal_from a b h = grind (arith, common_steps)

less_apart : (a b : ℕ) → a < b → (a == b) ≡ false
less_apart a b h = grind (arith, common_steps)

-- ---- nodes of entries

-- an entry of a node
record Entered (es : List Entry) (n : Node) : Type 0 where
  entry : Entry
  there : In entry es
  is : entry.node ≡ n

entered : (es : List Entry) (n : Node) → has_node (nodes_of es) n ≡ true → Entered es n
entered es n h =
    let f = found (same_node n) (nodes_of es) h in
    let i = image (λ (e : Entry). e.node) es f.item f.in_list in
    record { entry = i.item; there = i.in_list; is = i.same ∙ sym (same_equal n f.item f.pass) }

in_nodes : (es : List Entry) (e : Entry) → In e es → has_node (nodes_of es) e.node ≡ true
in_nodes es e i = any_in (same_node e.node) (nodes_of es) e.node (in_map (λ (x : Entry). x.node) es e i) (same_refl e.node)

before_apart : (m n : Node) → is_before m n ≡ true → same_node n m ≡ false
before_apart m n h = grind (arith, common_steps)

-- in an ordered list the entry of a node is found
entry_found : (es : List Entry) (y : Entry) → is_ordered es ≡ true → In y es → entry_of es y.node ≡ Some y
entry_found _ y ordered (first {xs = es}) = ap (λ b. cond b (Some y) (find (λ e. same_node y.node e.node) es)) (same_refl y.node)
entry_found _ y ordered (later {y = x} {xs = es} i) =
    let before : is_before x.node y.node ≡ true = all_in (λ e. is_before x.node e.node) es y i
    (and_left (list_all (λ e. is_before x.node e.node) es) (is_ordered es) ordered) in
    ap (λ b. cond b (Some x) (find (λ e. same_node y.node e.node) es)) (before_apart x.node y.node before)
    ∙ entry_found es y (and_right (list_all (λ e. is_before x.node e.node) es) (is_ordered es) ordered) i

has_filtered : (p : Node → Bool) (ns : List Node) (n : Node) → has_node (filter p ns) n ≡ true → has_node ns n ≡ true
has_filtered p ns n h =
    let f = found (same_node n) (filter p ns) h in
    any_in (same_node n) ns f.item (kept p ns f.item f.in_list).in_list f.pass

owned_there : (p : Node → Bool) (ns : List Node) (n : Node) (o : Option ℕ)
    → option_map_or (λ (q : ℕ). has_some (filter p ns) (Some n)) o (is_none (Some n)) ≡ true → has_node ns n ≡ true
owned_there p ns n None h = absurd (true≢false (sym h))
owned_there p ns n (Some q) h = has_filtered p ns n h

parent_there : (clafers : List Clafer) (es : List Entry) (e : Entry) (n : Node) → has_its_parent clafers es e ≡ true → e.parent ≡ Some n
    → has_node (nodes_of es) n ≡ true
parent_there clafers es e n h is =
    owned_there (λ m. has (owners clafers e.node.clafer) m.clafer) (nodes_of es) n (parent_of clafers e.node.clafer)
    (subst (λ o. option_map_or (λ (q : ℕ). has_some (filter (λ m. has (owners clafers e.node.clafer) m.clafer) (nodes_of es)) o)
    (parent_of clafers e.node.clafer) (is_none o) ≡ true) is h)

before_cases : (m n : Node) → is_before m n ≡ true → (m.clafer < n.clafer) ⊎ ((m.clafer ≡ n.clafer) × (m.number < n.number))
before_cases m n h = by (nat_lt m.clafer n.clafer) refl
  where
    by : (b : Bool) → nat_lt m.clafer n.clafer ≡ b → (m.clafer < n.clafer) ⊎ ((m.clafer ≡ n.clafer) × (m.number < n.number))
    by true e = inl (less_from m.clafer n.clafer e)
    by false e =
        let rest : ((m.clafer == n.clafer) && nat_lt m.number n.number) ≡ true =
        subst (λ b. (b || ((m.clafer == n.clafer) && nat_lt m.number n.number)) ≡ true) e h in
        inr (
          equal_from m.clafer n.clafer (and_left (m.clafer == n.clafer) (nat_lt m.number n.number) rest),
          less_from m.number n.number (and_right (m.clafer == n.clafer) (nat_lt m.number n.number) rest),
        )

not_true : (b : Bool) → (b ≡ true → ⊥) → b ≡ false
not_true true h = absurd (h refl)
not_true false h = refl

pub all_range : (p : ℕ → Bool) (k a : ℕ) → ((i : ℕ) → i < a + k → p i ≡ true) → list_all p (range_with_len a k) ≡ true
all_range p zero a h = refl
all_range p (suc k) a h =
    ap (λ b. b && list_all p (range_with_len (a + 1) k)) (h a (omega arith)) ∙ all_range p k (a + 1) (λ i less. h i (omega (arith, less)))

-- ---- an instance within the scopes whose entries make trees

module _ (clafers : List Clafer) (scopes : Scopes) (es : List Entry) (ordered : is_ordered es ≡ true)
    (within : is_within clafers scopes es ≡ true) (tree : is_tree clafers es ≡ true) where
  abbrev numbers : List (List ℕ)
  numbers = renumbering scopes es

  abbrev concrete : Entry → Bool
  concrete e = list_all (λ n. is_concrete clafers n.clafer) (named_by e)

  tree_at : (e : Entry) → In e es → (concrete e && has_its_parent clafers es e && ends_within (length es) es e.parent) ≡ true
  tree_at e i = all_in (λ x. concrete x && has_its_parent clafers es x && ends_within (length es) es x.parent) es e i tree

  has_parent : (e : Entry) → In e es → has_its_parent clafers es e ≡ true
  has_parent e i =
      and_right (concrete e) (has_its_parent clafers es e) (and_left (concrete e && has_its_parent clafers es e)
      (ends_within (length es) es e.parent) (tree_at e i))

  ends : (e : Entry) → In e es → ends_within (length es) es e.parent ≡ true
  ends e i = and_right (concrete e && has_its_parent clafers es e) (ends_within (length es) es e.parent) (tree_at e i)

  entry_below : (e : Entry) → In e es → e.node.number < scope_of scopes e.node.clafer
  entry_below e i = (entry_slot clafers scopes es e within i).below

  node_below : (m : Node) → has_node (nodes_of es) m ≡ true → m.number < scope_of scopes m.clafer
  node_below m h = let x = entered es m h in subst (λ (q : Node). q.number < scope_of scopes q.clafer) x.is (entry_below x.entry x.there)

  parent_is : (e : Entry) → In e es → parent_in es e.node ≡ e.parent
  parent_is e i = ap (option_and_then (λ (x : Entry). x.parent)) (entry_found es e ordered i)

  -- the numbers of two renamed nodes are ordered as the new numbers
  new_less : (m n : Node) → has_node (nodes_of es) m ≡ true → has_node (nodes_of es) n ≡ true
      → (renamed_node numbers m).number < (renamed_node numbers n).number → new_number scopes es m < new_number scopes es n
  new_less m n h k less = omega (arith, less, number_is scopes es m (node_below m h), number_is scopes es n (node_below n k))

  -- nodes keep their order under their new numbers
  no_later : (p q : Node) → has_node (nodes_of es) p ≡ true → has_node (nodes_of es) q ≡ true
      → is_gt (compare_up (suc (length es)) es (Some p) (Some q)) ≡ false
      → is_before (renamed_node numbers q) (renamed_node numbers p) ≡ false
  no_later p q h k e = not_true (is_before (renamed_node numbers q) (renamed_node numbers p))
      (λ before. by (before_cases (renamed_node numbers q) (renamed_node numbers p) before))
    where
      by : (q.clafer < p.clafer) ⊎ ((q.clafer ≡ p.clafer) × ((renamed_node numbers q).number < (renamed_node numbers p).number)) → ⊥
      by (inl less) =
          let rest = ordering_then (compare_up (length es) es (parent_in es p) (parent_in es q)) (nat_cmp p.number q.number) in
          true≢false (sym (greater_first (nat_cmp p.clafer q.clafer) rest (sym (nat_cmp_is p.clafer q.clafer Greater less))) ∙ e)
      by (inr less) =
          let up = node_first scopes es q p less.0 (node_below p h) k h (new_less q p k h less.1) in
          let down = (up_total (suc (length es)) es).antisymm (Some p) (Some q) ∙ ap ordering_reverse up in
          true≢false (sym (ap is_gt down) ∙ e)

  parents_keep : (d e : Entry) (i : In d es) (j : In e es) → d.node.clafer ≡ e.node.clafer
      → new_number scopes es d.node < new_number scopes es e.node → (a b : Option Node) → d.parent ≡ a → e.parent ≡ b
      → is_no_later (option_map (renamed_node numbers) a) (option_map (renamed_node numbers) b) ≡ true
  parents_keep d e i j same less None None f g = refl
  parents_keep d e i j same less None (Some q) f g = refl
  parents_keep d e i j same less (Some p) None f g = refl
  parents_keep d e i j same less (Some p) (Some q) f g =
      let one = node_first scopes es d.node e.node same (entry_below e j) (in_nodes es d i) (in_nodes es e j) less in
      let up = compare_up (length es) es (parent_in es d.node) (parent_in es e.node) in
      let two = then_second (nat_cmp d.node.clafer e.node.clafer) (ordering_then up (nat_cmp d.node.number e.node.number))
      (ap (nat_cmp d.node.clafer) (sym same) ∙ tied_itself nat_cmp_total d.node.clafer) one in
      let three = then_first up (nat_cmp d.node.number e.node.number) two in
      let more = compare_more (length es) es (Some p) (Some q) (subst (λ o. ends_within (length es) es o ≡ true) f (ends d i))
      (subst (λ o. ends_within (length es) es o ≡ true) g (ends e j)) in
      let four : is_gt (compare_up (suc (length es)) es (Some p) (Some q)) ≡ false =
      ap is_gt (more ∙ sym (ap (λ o. compare_up (length es) es o (parent_in es e.node)) (parent_is d i ∙ f)
      ∙ ap (λ o. compare_up (length es) es (Some p) o) (parent_is e j ∙ g))) ∙ three in
      ap not (no_later p q (parent_there clafers es d p (has_parent d i) f) (parent_there clafers es e q (has_parent e j) g) four)

  -- of two renamed entries the earlier one has no later parent
  pub keeps : (d e : Entry) → In d es → In e es → is_before (renamed numbers d).node (renamed numbers e).node ≡ true
      → keep_order clafers (renamed numbers d) (renamed numbers e) ≡ true
  keeps d e i j before = by (before_cases (renamed numbers d).node (renamed numbers e).node before)
    where
      by : (d.node.clafer < e.node.clafer) ⊎ ((d.node.clafer ≡ e.node.clafer) ×
          ((renamed numbers d).node.number < (renamed numbers e).node.number))
          → keep_order clafers (renamed numbers d) (renamed numbers e) ≡ true
      by (inl less) =
          ap (λ b. not (b && follows_parents clafers d.node.clafer) || is_no_later (renamed numbers d).parent (renamed numbers e).parent)
          (less_apart d.node.clafer e.node.clafer less)
      by (inr less) =
          or_right (not ((d.node.clafer == e.node.clafer) && follows_parents clafers d.node.clafer))
          (is_no_later (renamed numbers d).parent (renamed numbers e).parent)
          (parents_keep d e i j less.0 (new_less d.node e.node (in_nodes es d i) (in_nodes es e j) less.1) d.parent e.parent refl refl)

  -- each number below that of a renamed entry is the number of a renamed entry
  pub fills : (e : Entry) → In e es → (i : ℕ) → i < (renamed numbers e).node.number
      → has_node (nodes_of (map (renamed numbers) es)) (record { clafer = e.node.clafer; number = i }) ≡ true
  fills e i k less =
      let c = e.node.clafer in
      let below = entry_below e i in
      let r = earlier scopes es c e.node.number k below (omega (arith, less, number_is scopes es e.node below)) in
      let before = comes_first scopes es c r.from e.node.number below (omega (arith, less, number_is scopes es e.node below, r.is)) in
      let x = entered es (record { clafer = c; number = r.from }) (there_first es c r.from e.node.number (in_nodes es e i) before) in
      let new = number_is scopes es (record { clafer = c; number = r.from }) (omega (arith, r.high)) ∙ r.is in
      let is : renamed_node numbers x.entry.node ≡ record { clafer = c; number = k } = ap (renamed_node numbers) x.is
      ∙ ap (λ n. record { clafer = c; number = n }) new in
      subst (λ (q : Node). has_node (nodes_of (map (renamed numbers) es)) q ≡ true) is
      (in_nodes (map (renamed numbers) es) (renamed numbers x.entry) (in_map (renamed numbers) es x.entry x.there))
