-- The value of an expression of nodes is a set of nodes of its kind.
use Rattle.std.proofs.Common.{◌≡◌, ℕ, ◌<◌, Bool, true, false, ◌&&◌, ◌||◌, List, [], ◌∷◌, ◌++◌, length, Option, Some, None, refl, ap, sym, subst, ◌∙◌, arith}
use Rattle.std.specs.Prelude.{◌==◌, not, slice_get, is_none, is_some, if◌then◌else◌}
use Rattle.std.specs.Option.{option_map, option_map_or, option_and_then}
use Rattle.std.specs.List.{filter, filter_map, list_any, list_all, IsDistinct, cons_option}
use Rattle.std.proofs.lemmas.Grind.{common_steps}
use Rattle.std.proofs.lemmas.Bool.{true≢false}
use Rattle.std.proofs.lemmas.List.Folds.{list_any-append}
use Rattle.clf_tree.specs.declared.model.Clafer.{Clafer}
use Rattle.clf_tree.specs.declared.model.Reference.{Reference}
use Rattle.clf_tree.specs.declared.instance.Node.{Node}
use Rattle.clf_tree.specs.declared.instance.Target.{Target}
use Rattle.clf_tree.specs.declared.instance.Target.TheVariants as target
use Rattle.clf_tree.specs.declared.instance.Entry.{Entry}
use Rattle.clf_tree.specs.declared.scopes.Scopes.{Scopes}
use Rattle.clf_tree.specs.declared.kind.Kind.{Kind}
use Rattle.clf_tree.specs.declared.kind.Kind.TheVariants as kinds
use Rattle.clf_tree.specs.declared.kind.Reading.{Reading}
use Rattle.clf_tree.specs.Tree as e
use Rattle.clf_tree.specs.Tree.{Tree}
use Rattle.clf_tree.specs.Lists.{numbers_below, has, from_end}
use Rattle.clf_tree.specs.Hierarchy.{is_a, is_one_of, is_concrete, is_closed, parent_of, concrete_below, reference_of, target_of, refer_to_int, share, names_below, is_below}
use Rattle.clf_tree.specs.Nodes.{same_node, has_node, has_some, nodes_of, target_node, node_in, is_within, is_ordered, is_tree, has_its_parent, ends_within, named_by}
use Rattle.clf_tree.specs.Shape.{meets_reference, refers, instances}
use Rattle.clf_tree.specs.Kinds.{kind, clafers_of, is_child, has_child_in, parents_of, parent_kind, dref_kind, union_kind, left_kind, compared_kind, reading, reading_of, branch_kind}
use Rattle.clf_tree.specs.Meaning as meaning
use Rattle.clf_tree.specs.Meaning.{Value, Situation, value, nodes, nodes_where, parents, targets, children, dref, taken_as, is_true}
use Rattle.clf_tree.proofs.IsALaw.{closure_from_is_a}
use Rattle.clf_tree.proofs.WaysUp.{list_all-at}
use Rattle.clf_tree.proofs.Items.{In, first, later, found, any_in, all_in, and_left, and_right, or_left, or_right, kept, in_filter, image, in_range}
use Rattle.clf_tree.proofs.Counts.{entry_slot, Belongs, IsSet, set_where, set_filtered, concrete_below as below_length, same_equal}
use Rattle.clf_tree.proofs.SingleReference.{IsSingle, same_reference}

-- an instance within the scopes that is a tree of the right shape
pub record IsSound (clafers : List Clafer) (scopes : Scopes) (entries : List Entry) : Type 0 where
  pub closed : is_closed clafers ≡ true
  pub single : IsSingle clafers
  pub ordered : is_ordered entries ≡ true
  pub within : is_within clafers scopes entries ≡ true
  pub tree : is_tree clafers entries ≡ true
  pub references : list_all (meets_reference clafers entries scopes) entries ≡ true

-- `this` and the variables are nodes of entries of the clafers of their kinds
pub record IsPlace (clafers : List Clafer) (entries : List Entry) (s : Situation) : Type 0 where
  pub this_node : (c : ℕ) → s.within.this ≡ Some c → (n : Node) × (s.this ≡ Some n) × (Belongs clafers entries (c ∷ []) n)
  pub variable : (i : ℕ) (ks : List ℕ) → from_end s.within.bound i ≡ Some ks → (n : Node) × (from_end s.bound i ≡ Some n) × (Belongs clafers entries ks n)

module _ (clafers : List Clafer) (entries : List Entry) where
  abbrev pub HasKind : Option Kind → Value → Type 0
  HasKind (Some (kinds.Nodes ks)) (meaning.Nodes ns) = IsSet clafers entries ks ns
  HasKind (Some (kinds.Nodes ks)) v = ⊥
  HasKind (Some (kinds.Numbers ks)) (meaning.Nodes ns) = IsSet clafers entries ks ns
  HasKind (Some (kinds.Numbers ks)) v = ⊥
  HasKind k v = Unit {0}

  only_item : (ks : List ℕ) (n m : Node) → Belongs clafers entries ks n → In m (n ∷ []) → Belongs clafers entries ks m
  only_item ks _ m b (first {x = _}) = b
  only_item ks n m b (later i) = elim i [ ]

  only : (ks : List ℕ) (n : Node) → Belongs clafers entries ks n → IsSet clafers entries ks (n ∷ [])
  unfolding IsDistinct
  only ks n b = record { distinct = (tt, tt); member = λ m i. only_item ks n m b i }

  this_has : (c : Option ℕ) (place : Option Node) → ((d : ℕ) → c ≡ Some d → (n : Node) × (place ≡ Some n) × (Belongs clafers entries (d ∷ []) n))
      → HasKind (option_map (λ d. kinds.Nodes (d ∷ [])) c) (meaning.Nodes (option_map_or (λ n. n ∷ []) place []))
  this_has None place h = tt
  this_has (Some d) place h =
      let f = h d refl in
      subst (λ o. IsSet clafers entries (d ∷ []) (option_map_or (λ n. n ∷ []) o [])) (sym f.1) (only (d ∷ []) f.0 f.2)

  variable_has : (c : Option (List ℕ)) (place : Option Node) → ((ks : List ℕ) → c ≡ Some ks → (n : Node) × (place ≡ Some n) × (Belongs clafers entries ks n))
      → HasKind (option_map (λ ks. kinds.Nodes ks) c) (meaning.Nodes (option_map_or (λ n. n ∷ []) place []))
  variable_has None place h = tt
  variable_has (Some ks) place h =
      let f = h ks refl in
      subst (λ o. IsSet clafers entries ks (option_map_or (λ n. n ∷ []) o [])) (sym f.1) (only ks f.0 f.2)

  widen : (ks ls : List ℕ) (ns : List Node) → ((c : ℕ) → is_one_of clafers ks c ≡ true → is_one_of clafers ls c ≡ true) → IsSet clafers entries ks ns → IsSet clafers entries ls ns
  widen ks ls ns more s = record {
    distinct = s.distinct;
    member = λ n i. let b = s.member n i in record { entry = b.entry; there = b.there; same = b.same; is_one = more n.clafer b.is_one };
  }

  one_of_left : (ks ls : List ℕ) (c : ℕ) → is_one_of clafers ks c ≡ true → is_one_of clafers (ks ++ ls) c ≡ true
  one_of_left ks ls c h = list_any-append (is_a clafers c) ks ls ∙ or_left (is_one_of clafers ks c) (is_one_of clafers ls c) h

  one_of_right : (ks ls : List ℕ) (c : ℕ) → is_one_of clafers ls c ≡ true → is_one_of clafers (ks ++ ls) c ≡ true
  one_of_right ks ls c h = list_any-append (is_a clafers c) ks ls ∙ or_right (is_one_of clafers ks c) (is_one_of clafers ls c) h

  -- a node of a set, found by its entry
  set_has : (ks : List ℕ) (ns : List Node) (n : Node) → IsSet clafers entries ks ns → has_node ns n ≡ true → is_one_of clafers ks n.clafer ≡ true
  set_has ks ns n s h =
      let f = found (same_node n) ns h in
      subst (λ (m : Node). is_one_of clafers ks m.clafer ≡ true) (sym (same_equal n f.item f.pass)) (s.member f.item f.in_list).is_one

  set_union : (ks ls : List ℕ) (ns ms : List Node) → is_ordered entries ≡ true → IsSet clafers entries ks ns → IsSet clafers entries ls ms
      → IsSet clafers entries (ks ++ ls) (nodes_where clafers entries (λ x. has_node ns x.node || has_node ms x.node))
  set_union ks ls ns ms ordered s t = set_where clafers entries (ks ++ ls) (λ x. has_node ns x.node || has_node ms x.node) ordered (λ x i h. by (has_node ns x.node) (has_node ms x.node) x refl refl h)
    where
      by : (a b : Bool) (x : Entry) → has_node ns x.node ≡ a → has_node ms x.node ≡ b → (a || b) ≡ true → is_one_of clafers (ks ++ ls) x.node.clafer ≡ true
      by true b x p q h = one_of_left ks ls x.node.clafer (set_has ks ns x.node s p)
      by false true x p q h = one_of_right ks ls x.node.clafer (set_has ls ms x.node t q)
      by false false x p q h = absurd (true≢false (sym h))

  union_has : (a b : Option Kind) (v w : Value) → is_ordered entries ≡ true → HasKind a v → HasKind b w
      → HasKind (union_kind a b) (meaning.Nodes (nodes_where clafers entries (λ x. has_node (nodes v) x.node || has_node (nodes w) x.node)))
  union_has (Some (kinds.Nodes ks)) (Some (kinds.Nodes ls)) (meaning.Nodes ns) (meaning.Nodes ms) ordered s t = set_union ks ls ns ms ordered s t
  union_has (Some (kinds.Nodes ks)) (Some (kinds.Nodes ls)) (meaning.Nodes ns) (meaning.Truth b) ordered s t = absurd t
  union_has (Some (kinds.Nodes ks)) (Some (kinds.Nodes ls)) (meaning.Nodes ns) (meaning.Integer b) ordered s t = absurd t
  union_has (Some (kinds.Nodes ks)) (Some (kinds.Nodes ls)) (meaning.Truth b) w ordered s t = absurd s
  union_has (Some (kinds.Nodes ks)) (Some (kinds.Nodes ls)) (meaning.Integer b) w ordered s t = absurd s
  union_has (Some (kinds.Nodes ks)) (Some (kinds.Numbers ls)) v w ordered s t = tt
  union_has (Some (kinds.Nodes ks)) (Some kinds.Truth) v w ordered s t = tt
  union_has (Some (kinds.Nodes ks)) (Some kinds.Integer) v w ordered s t = tt
  union_has (Some (kinds.Nodes ks)) None v w ordered s t = tt
  union_has (Some (kinds.Numbers ks)) b v w ordered s t = tt
  union_has (Some kinds.Truth) b v w ordered s t = tt
  union_has (Some kinds.Integer) b v w ordered s t = tt
  union_has None b v w ordered s t = tt

  -- a kind that is there only where a test holds
  kept_has : (b : Bool) (ks : List ℕ) (ns : List Node) → IsSet clafers entries ks ns → HasKind (if b then Some (kinds.Nodes ks) else None) (meaning.Nodes ns)
  kept_has true ks ns s = s
  kept_has false ks ns s = tt

  left_has : (a b : Option Kind) (v : Value) (p : Node → Bool) → HasKind a v → HasKind (left_kind clafers a b) (meaning.Nodes (filter p (nodes v)))
  left_has (Some (kinds.Nodes ks)) (Some (kinds.Nodes ls)) (meaning.Nodes ns) p s = kept_has (share clafers ks ls) ks (filter p ns) (set_filtered clafers entries ks p ns s)
  left_has (Some (kinds.Nodes ks)) (Some (kinds.Nodes ls)) (meaning.Truth b) p s = absurd s
  left_has (Some (kinds.Nodes ks)) (Some (kinds.Nodes ls)) (meaning.Integer b) p s = absurd s
  left_has (Some (kinds.Nodes ks)) (Some (kinds.Numbers ls)) v p s = tt
  left_has (Some (kinds.Nodes ks)) (Some kinds.Truth) v p s = tt
  left_has (Some (kinds.Nodes ks)) (Some kinds.Integer) v p s = tt
  left_has (Some (kinds.Nodes ks)) None v p s = tt
  left_has (Some (kinds.Numbers ks)) b v p s = tt
  left_has (Some kinds.Truth) b v p s = tt
  left_has (Some kinds.Integer) b v p s = tt
  left_has None b v p s = tt

  truth_has : (r : Option Reading) (t : Bool) → HasKind (option_map (λ x. kinds.Truth) r) (meaning.Truth t)
  truth_has None t = tt
  truth_has (Some r) t = tt

  compared_has : (a b : Option Kind) (t : Bool) → HasKind (compared_kind clafers a b) (meaning.Truth t)
  compared_has (Some (kinds.Nodes ks)) (Some (kinds.Nodes ls)) t = truth_has (reading clafers (kinds.Nodes ks) (kinds.Nodes ls)) t
  compared_has (Some (kinds.Nodes ks)) (Some (kinds.Numbers ls)) t = tt
  compared_has (Some (kinds.Nodes ks)) (Some kinds.Truth) t = tt
  compared_has (Some (kinds.Nodes ks)) (Some kinds.Integer) t = tt
  compared_has (Some (kinds.Nodes ks)) None t = tt
  compared_has (Some (kinds.Numbers ks)) b t = tt
  compared_has (Some kinds.Truth) b t = tt
  compared_has (Some kinds.Integer) b t = tt
  compared_has None b t = tt

  -- a choice between two values
  branch_value : (a b : Kind) (v w : Value) (c : Bool) → HasKind (Some a) v → HasKind (Some b) w
      → HasKind (Some (branch_kind a b)) (taken_as clafers entries (Some (branch_kind a b)) (if c then v else w))
  branch_value kinds.Truth b v w c s t = tt
  branch_value kinds.Integer kinds.Truth v w c s t = tt
  branch_value kinds.Integer kinds.Integer v w c s t = tt
  branch_value kinds.Integer (kinds.Nodes ls) v w c s t = tt
  branch_value kinds.Integer (kinds.Numbers ls) v w c s t = tt
  branch_value (kinds.Numbers ks) kinds.Truth v w c s t = tt
  branch_value (kinds.Numbers ks) kinds.Integer v w c s t = tt
  branch_value (kinds.Numbers ks) (kinds.Nodes ls) v w c s t = tt
  branch_value (kinds.Numbers ks) (kinds.Numbers ls) v w c s t = tt
  branch_value (kinds.Nodes ks) kinds.Truth v w c s t = tt
  branch_value (kinds.Nodes ks) kinds.Integer v w c s t = tt
  branch_value (kinds.Nodes ks) (kinds.Numbers ls) v w c s t = tt
  branch_value (kinds.Nodes ks) (kinds.Nodes ls) (meaning.Nodes ns) w true s t = widen ks (ks ++ ls) ns (one_of_left ks ls) s
  branch_value (kinds.Nodes ks) (kinds.Nodes ls) (meaning.Truth b) w true s t = absurd s
  branch_value (kinds.Nodes ks) (kinds.Nodes ls) (meaning.Integer b) w true s t = absurd s
  branch_value (kinds.Nodes ks) (kinds.Nodes ls) v (meaning.Nodes ms) false s t = widen ls (ks ++ ls) ms (one_of_right ks ls) t
  branch_value (kinds.Nodes ks) (kinds.Nodes ls) v (meaning.Truth b) false s t = absurd t
  branch_value (kinds.Nodes ks) (kinds.Nodes ls) v (meaning.Integer b) false s t = absurd t

  if_has : (a b : Option Kind) (v w : Value) (c : Bool) → HasKind a v → HasKind b w
      → HasKind (option_and_then (λ k. option_map (branch_kind k) b) a) (taken_as clafers entries (option_and_then (λ k. option_map (branch_kind k) b) a) (if c then v else w))
  if_has None b v w c s t = tt
  if_has (Some a) None v w c s t = tt
  if_has (Some a) (Some b) v w c s t = branch_value a b v w c s t

  -- an entry whose node is in a set, and what it leads to
  record Leads (to : Entry → Option Node) (ns : List Node) (n : Node) : Type 0 where
    entry : Entry
    there : In entry entries
    has : has_node ns entry.node ≡ true
    leads : to entry ≡ Some n

  leads_at : (n : Node) (o : Option Node) → option_map_or (same_node n) o false ≡ true → o ≡ Some n
  leads_at n None h = absurd (true≢false (sym h))
  leads_at n (Some m) h = ap (λ z. Some z) (sym (same_equal n m h))

  leads : (to : Entry → Option Node) (ns : List Node) (n : Node) → list_any (λ x. has_node ns x.node && option_map_or (same_node n) (to x) false) entries ≡ true → Leads to ns n
  leads to ns n h =
      let f = found (λ x. has_node ns x.node && option_map_or (same_node n) (to x) false) entries h in
      record {
        entry = f.item;
        there = f.in_list;
        has = and_left (has_node ns f.item.node) (option_map_or (same_node n) (to f.item) false) f.pass;
        leads = leads_at n (to f.item) (and_right (has_node ns f.item.node) (option_map_or (same_node n) (to f.item) false) f.pass);
      }

  -- the declaring parent of an entry's clafer, which its parent is-a
  record Declared (c : ℕ) (p : Node) : Type 0 where
    under : ℕ
    declares : parent_of clafers c ≡ Some under
    is_one : is_a clafers p.clafer under ≡ true

  declared_by : (c : ℕ) (p : Node) (up : Option Node) (q : Option ℕ) → up ≡ Some p → parent_of clafers c ≡ q
      → option_map_or (λ z. has_some (filter (λ m. has (option_map_or (concrete_below clafers) q []) m.clafer) (nodes_of entries)) up) q (is_none up) ≡ true → Declared c p
  declared_by c p up None e f h = absurd (true≢false (sym (ap is_none (sym e) ∙ h) ∙ refl))
  declared_by c p up (Some q) e f h =
      let owned : Node → Bool = λ m. has (concrete_below clafers q) m.clafer in
      let there : has_node (filter owned (nodes_of entries)) p ≡ true = ap (has_some (filter owned (nodes_of entries))) (sym e) ∙ h in
      let at = found (same_node p) (filter owned (nodes_of entries)) there in
      let pass : has (concrete_below clafers q) p.clafer ≡ true = subst (λ (m : Node). owned m ≡ true) (sym (same_equal p at.item at.pass)) (kept owned (nodes_of entries) at.item at.in_list).pass in
      let below = found (λ y. p.clafer == y) (concrete_below clafers q) pass in
      let k = kept (λ d. is_concrete clafers d && is_a clafers d q) (numbers_below (length clafers)) below.item below.in_list in
      record {
        under = q;
        declares = f;
        is_one = subst (λ z. is_a clafers z q ≡ true) (sym (eqb_equal p.clafer below.item below.pass)) (and_right (is_concrete clafers below.item) (is_a clafers below.item q) k.pass);
      }
    where
      eqb_equal : (a b : ℕ) → (a == b) ≡ true → a ≡ b
      eqb_equal a b h = grind arith

  declared_of : (x : Entry) (p : Node) → is_tree clafers entries ≡ true → In x entries → x.parent ≡ Some p → Declared x.node.clafer p
  declared_of x p tree i e =
      let all = all_in (λ y. list_all (λ n. is_concrete clafers n.clafer) (named_by y) && has_its_parent clafers entries y && ends_within (length entries) entries y.parent) entries x i tree in
      let rest = and_left (list_all (λ n. is_concrete clafers n.clafer) (named_by x) && has_its_parent clafers entries x) (ends_within (length entries) entries x.parent) all in
      let own = and_right (list_all (λ n. is_concrete clafers n.clafer) (named_by x)) (has_its_parent clafers entries x) rest in
      declared_by x.node.clafer p x.parent (parent_of clafers x.node.clafer) e refl own

  parent_below : (c q : ℕ) (k : Option Clafer) → is_closed clafers ≡ true → slice_get clafers c ≡ k → option_and_then (λ z. z.parent) k ≡ Some q → q < length clafers
  parent_below c q None closed e f = (cc)
  parent_below c q (Some k) closed e f =
      let named = list_all-at (names_below (length clafers)) clafers c k closed e in
      let own : is_below (length clafers) k.parent ≡ true = grind (arith, common_steps, named) in
      below_at (length clafers) q (ap (is_below (length clafers)) (sym f) ∙ own)
    where
      below_at : (n d : ℕ) → is_below n (Some d) ≡ true → d < n
      below_at n d h = grind (arith, common_steps)

  number_in : (n i : ℕ) → i < n → In i (numbers_below n)
  number_in n i h = subst (λ z. In z (numbers_below n)) (omega arith) (in_range n 0 i h)

  parents_set : (scopes : Scopes) → IsSound clafers scopes entries → (ks : List ℕ) (ns : List Node) → IsSet clafers entries ks ns → IsSet clafers entries (parents_of clafers ks) (parents clafers entries ns)
  parents_set scopes sound ks ns s =
      set_where clafers entries (parents_of clafers ks) (λ p. list_any (λ x. has_node ns x.node && option_map_or (same_node p.node) x.parent false) entries) sound.ordered one
    where
      one : (p : Entry) → In p entries → list_any (λ x. has_node ns x.node && option_map_or (same_node p.node) x.parent false) entries ≡ true → is_one_of clafers (parents_of clafers ks) p.node.clafer ≡ true
      one p i h =
          let l = leads (λ (x : Entry). x.parent) ns p.node h in
          let c = l.entry.node.clafer in
          let d = declared_of l.entry p.node sound.tree l.there l.leads in
          let is_one = set_has ks ns l.entry.node s l.has in
          let child : is_child clafers d.under c ≡ true = ap (λ o. option_map_or (λ z. z == d.under) o false) d.declares ∙ eqb_refl d.under in
          let slot = entry_slot clafers scopes entries l.entry sound.within l.there in
          let has_child : has_child_in clafers ks d.under ≡ true =
          any_in (λ z. is_child clafers d.under z && is_one_of clafers ks z) (numbers_below (length clafers)) c (number_in (length clafers) c (below_length clafers c slot.concrete))
          (ap (λ b. b && is_one_of clafers ks c) child ∙ is_one) in
          let up : d.under < length clafers = parent_below c d.under (slice_get clafers c) sound.closed refl d.declares in
          any_in (is_a clafers p.node.clafer) (parents_of clafers ks) d.under (in_filter (has_child_in clafers ks) (numbers_below (length clafers)) d.under (number_in (length clafers) d.under up) has_child) d.is_one
        where
          eqb_refl : (n : ℕ) → (n == n) ≡ true
          eqb_refl n = grind arith

  -- no clafers have no parents
  nothing : (xs : List ℕ) → ((x : ℕ) → In x xs → ⊥) → xs ≡ []
  nothing [] none = refl
  nothing (x ∷ xs) none = absurd (none x first)

  no_parents : parents_of clafers [] ≡ []
  no_parents = nothing (parents_of clafers []) none
    where
      none : (x : ℕ) → In x (parents_of clafers []) → ⊥
      none x i =
          let k = kept (has_child_in clafers []) (numbers_below (length clafers)) x i in
          let f = found (λ c. is_child clafers x c && is_one_of clafers [] c) (numbers_below (length clafers)) k.pass in
          true≢false (sym (and_right (is_child clafers x f.item) false f.pass))

  parent_kind_has : (ps : List ℕ) (ns : List Node) → IsSet clafers entries ps ns → HasKind (parent_kind ps) (meaning.Nodes ns)
  parent_kind_has [] ns s = tt
  parent_kind_has (p ∷ ps) ns s = s

  parent_has : (scopes : Scopes) → IsSound clafers scopes entries → (k : Option Kind) (v : Value) → HasKind k v
      → HasKind (parent_kind (parents_of clafers (clafers_of k))) (meaning.Nodes (parents clafers entries (nodes v)))
  parent_has scopes sound (Some (kinds.Nodes ks)) (meaning.Nodes ns) s = parent_kind_has (parents_of clafers ks) (parents clafers entries ns) (parents_set scopes sound ks ns s)
  parent_has scopes sound (Some (kinds.Nodes ks)) (meaning.Truth b) s = absurd s
  parent_has scopes sound (Some (kinds.Nodes ks)) (meaning.Integer b) s = absurd s
  parent_has scopes sound (Some (kinds.Numbers ks)) v s = subst (λ ps. HasKind (parent_kind ps) (meaning.Nodes (parents clafers entries (nodes v)))) (sym no_parents) tt
  parent_has scopes sound (Some kinds.Truth) v s = subst (λ ps. HasKind (parent_kind ps) (meaning.Nodes (parents clafers entries (nodes v)))) (sym no_parents) tt
  parent_has scopes sound (Some kinds.Integer) v s = subst (λ ps. HasKind (parent_kind ps) (meaning.Nodes (parents clafers entries (nodes v)))) (sym no_parents) tt
  parent_has scopes sound None v s = subst (λ ps. HasKind (parent_kind ps) (meaning.Nodes (parents clafers entries (nodes v)))) (sym no_parents) tt

  -- an entry with a node as its target refers to a clafer, which the target is-a
  record Refers (c : ℕ) (n : Node) : Type 0 where
    reference : Reference
    to : ℕ
    declares : reference_of clafers c ≡ Some reference
    leads_to : reference.to ≡ Some to
    is_one : is_a clafers n.clafer to ≡ true

  target_at : (t : Option Target) (n : Node) → option_and_then node_in t ≡ Some n → t ≡ Some (target.Node n)
  target_at None n h = (cc)
  target_at (Some (target.Int z)) n h = (cc)
  target_at (Some (target.Node m)) n h = (cc)

  instance_is : (c : ℕ) (n : Node) → has_node (nodes_of (instances clafers entries c)) n ≡ true → is_a clafers n.clafer c ≡ true
  instance_is c n h =
      let f = found (same_node n) (nodes_of (instances clafers entries c)) h in
      let im = image (λ (x : Entry). x.node) (instances clafers entries c) f.item f.in_list in
      let k = kept (λ x. is_a clafers x.node.clafer c) entries im.item im.in_list in
      subst (λ (m : Node). is_a clafers m.clafer c ≡ true) (im.same ∙ sym (same_equal n f.item f.pass)) k.pass

  refers_at : (scopes : Scopes) (c : ℕ) (n : Node) (r : Reference) (to : Option ℕ) → reference_of clafers c ≡ Some r → r.to ≡ to → refers clafers entries scopes to (target.Node n) ≡ true → Refers c n
  refers_at scopes c n r None e f h = absurd (true≢false (sym h))
  refers_at scopes c n r (Some d) e f h = record { reference = r; to = d; declares = e; leads_to = f; is_one = instance_is d n h }

  refers_by : (scopes : Scopes) (c : ℕ) (n : Node) (t : Option Target) (r : Option Reference) → t ≡ Some (target.Node n) → reference_of clafers c ≡ r
      → option_map_or (λ q. option_map_or (refers clafers entries scopes q.to) t false) r (is_none t) ≡ true → Refers c n
  refers_by scopes c n t None e f h = absurd (true≢false (sym (ap is_none (sym e) ∙ h)))
  refers_by scopes c n t (Some r) e f h = refers_at scopes c n r r.to f refl (ap (λ o. option_map_or (refers clafers entries scopes r.to) o false) (sym e) ∙ h)

  refers_of : (scopes : Scopes) (x : Entry) (n : Node) → list_all (meets_reference clafers entries scopes) entries ≡ true → In x entries → target_node x ≡ Some n → Refers x.node.clafer n
  refers_of scopes x n all i e =
      refers_by scopes x.node.clafer n x.target (reference_of clafers x.node.clafer) (target_at x.target n e) refl (all_in (meets_reference clafers entries scopes) entries x i all)

  target_from : (k d : ℕ) (r : Option Reference) → reference_of clafers k ≡ r → option_and_then (λ (q : Reference). q.to) r ≡ Some d → (q : Reference) × (reference_of clafers k ≡ Some q) × (q.to ≡ Some d)
  target_from k d None e h = (cc)
  target_from k d (Some q) e h = (q, e, h)

  some_same : {X : Type 0} (a b : X) → Some a ≡ Some b → a ≡ b
  some_same a b h = (cc)

  is_some_at : (o : Option ℕ) → is_some o ≡ true → (d : ℕ) × (o ≡ Some d)
  is_some_at None h = absurd (true≢false (sym h))
  is_some_at (Some d) h = (d, refl)

  in_filter_map : (f : ℕ → Option ℕ) (xs : List ℕ) (x y : ℕ) → In x xs → f x ≡ Some y → In y (filter_map f xs)
  in_filter_map f _ x y (first {xs = xs}) e = subst (λ o. In y (cons_option o (filter_map f xs))) (sym e) first
  in_filter_map f _ x y (later {y = z} {xs = xs} i) e = skip (f z) (in_filter_map f xs x y i e)
    where
      skip : (o : Option ℕ) → In y (filter_map f xs) → In y (cons_option o (filter_map f xs))
      skip None j = j
      skip (Some w) j = later j

  targets_set : (scopes : Scopes) → IsSound clafers scopes entries → (ks : List ℕ) (ns : List Node) → list_all (λ c. is_some (target_of clafers c)) ks ≡ true
      → IsSet clafers entries ks ns → IsSet clafers entries (filter_map (target_of clafers) ks) (targets clafers entries ns)
  targets_set scopes sound ks ns all s =
      set_where clafers entries (filter_map (target_of clafers) ks) (λ t. list_any (λ x. has_node ns x.node && option_map_or (same_node t.node) (target_node x) false) entries) sound.ordered one
    where
      one : (t : Entry) → In t entries → list_any (λ x. has_node ns x.node && option_map_or (same_node t.node) (target_node x) false) entries ≡ true → is_one_of clafers (filter_map (target_of clafers) ks) t.node.clafer ≡ true
      one t i h =
          let l = leads target_node ns t.node h in
          let r = refers_of scopes l.entry t.node sound.references l.there l.leads in
          let k = found (is_a clafers l.entry.node.clafer) ks (set_has ks ns l.entry.node s l.has) in
          let d = is_some_at (target_of clafers k.item) (all_in (λ c. is_some (target_of clafers c)) ks k.item k.in_list all) in
          let q = target_from k.item d.0 (reference_of clafers k.item) refl d.1 in
          let same = same_reference clafers l.entry.node.clafer k.item r.reference q.0 sound.single (closure_from_is_a clafers l.entry.node.clafer k.item k.pass) r.declares q.1 in
          let to : r.to ≡ d.0 = some_same r.to d.0 (sym r.leads_to ∙ ap (λ (z : Reference). z.to) same ∙ q.2) in
          any_in (is_a clafers t.node.clafer) (filter_map (target_of clafers) ks) d.0 (in_filter_map (target_of clafers) ks k.item d.0 k.in_list d.1) (subst (λ z. is_a clafers t.node.clafer z ≡ true) to r.is_one)

  nodes_or_targets : (scopes : Scopes) → IsSound clafers scopes entries → (ks : List ℕ) (ns : List Node) → IsSet clafers entries ks ns → (to_int all : Bool)
      → list_all (λ c. is_some (target_of clafers c)) ks ≡ all
      → HasKind (if to_int then Some (kinds.Numbers ks) else option_map (λ ts. kinds.Nodes ts) (if all then Some (filter_map (target_of clafers) ks) else None))
      (meaning.Nodes (dref clafers entries (if to_int then Some (kinds.Numbers ks) else option_map (λ ts. kinds.Nodes ts) (if all then Some (filter_map (target_of clafers) ks) else None)) ns))
  nodes_or_targets scopes sound ks ns s true all e = s
  nodes_or_targets scopes sound ks ns s false true e = targets_set scopes sound ks ns e s
  nodes_or_targets scopes sound ks ns s false false e = tt

  dref_has : (scopes : Scopes) → IsSound clafers scopes entries → (k : Option Kind) (v : Value) → HasKind k v
      → HasKind (dref_kind clafers k) (meaning.Nodes (dref clafers entries (dref_kind clafers k) (nodes v)))
  dref_has scopes sound (Some (kinds.Nodes ks)) (meaning.Nodes ns) s = nodes_or_targets scopes sound ks ns s (refer_to_int clafers ks) (list_all (λ c. is_some (target_of clafers c)) ks) refl
  dref_has scopes sound (Some (kinds.Nodes ks)) (meaning.Truth b) s = absurd s
  dref_has scopes sound (Some (kinds.Nodes ks)) (meaning.Integer b) s = absurd s
  dref_has scopes sound (Some (kinds.Numbers ks)) v s = tt
  dref_has scopes sound (Some kinds.Truth) v s = tt
  dref_has scopes sound (Some kinds.Integer) v s = tt
  dref_has scopes sound None v s = tt

  -- the value of an expression of nodes is a set of nodes of its kind
  pub value_has_kind : (scopes : Scopes) → IsSound clafers scopes entries → (t : Tree) (s : Situation) → IsPlace clafers entries s → HasKind (kind clafers t s.within) (value clafers entries t s)
  value_has_kind scopes sound (e.Literal _ n) s place = tt
  value_has_kind scopes sound (e.This _) s place = this_has s.within.this s.this place.this_node
  value_has_kind scopes sound (e.Variable _ i) s place = variable_has (from_end s.within.bound i) (from_end s.bound i) (place.variable i)
  value_has_kind scopes sound (e.Clafer _ c) s place = set_where clafers entries (c ∷ []) (λ x. is_a clafers x.node.clafer c) sound.ordered (λ x i h. or_left (is_a clafers x.node.clafer c) false h)
  value_has_kind scopes sound (e.Name _ _) s place = tt
  value_has_kind scopes sound (e.Join _ _ _) s place = tt
  value_has_kind scopes sound (e.Step _ of into follow) s place =
      let ns = meaning.through clafers entries follow (nodes (value clafers entries of s)) in
      set_where clafers entries into (λ x. is_one_of clafers into x.node.clafer && has_some ns x.parent) sound.ordered (λ x i h. and_left (is_one_of clafers into x.node.clafer) (has_some ns x.parent) h)
  value_has_kind scopes sound (e.Parent _ a) s place = parent_has scopes sound (kind clafers a s.within) (value clafers entries a s) (value_has_kind scopes sound a s place)
  value_has_kind scopes sound (e.Dref _ a) s place = dref_has scopes sound (kind clafers a s.within) (value clafers entries a s) (value_has_kind scopes sound a s place)
  value_has_kind scopes sound (e.Union _ a b) s place =
      union_has (kind clafers a s.within) (kind clafers b s.within) (value clafers entries a s) (value clafers entries b s) sound.ordered (value_has_kind scopes sound a s place) (value_has_kind scopes sound b s place)
  value_has_kind scopes sound (e.Minus _ a b) s place =
      left_has (kind clafers a s.within) (kind clafers b s.within) (value clafers entries a s) (λ n. not (has_node (nodes (value clafers entries b s)) n)) (value_has_kind scopes sound a s place)
  value_has_kind scopes sound (e.Meet _ a b) s place =
      left_has (kind clafers a s.within) (kind clafers b s.within) (value clafers entries a s) (has_node (nodes (value clafers entries b s))) (value_has_kind scopes sound a s place)
  value_has_kind scopes sound (e.If _ c a b) s place =
      if_has (kind clafers a s.within) (kind clafers b s.within) (value clafers entries a s) (value clafers entries b s) (is_true (value clafers entries c s)) (value_has_kind scopes sound a s place) (value_has_kind scopes sound b s place)
  value_has_kind scopes sound (e.Not _ _) s place = tt
  value_has_kind scopes sound (e.And _ _ _) s place = tt
  value_has_kind scopes sound (e.Or _ _ _) s place = tt
  value_has_kind scopes sound (e.Xor _ _ _) s place = tt
  value_has_kind scopes sound (e.Implies _ _ _) s place = tt
  value_has_kind scopes sound (e.Iff _ _ _) s place = tt
  value_has_kind scopes sound (e.Card _ _) s place = tt
  value_has_kind scopes sound (e.Sum _ _) s place = tt
  value_has_kind scopes sound (e.Neg _ _) s place = tt
  value_has_kind scopes sound (e.Add _ _ _) s place = tt
  value_has_kind scopes sound (e.Sub _ _ _) s place = tt
  value_has_kind scopes sound (e.Mul _ _ _) s place = tt
  value_has_kind scopes sound (e.Less _ _ _) s place = tt
  value_has_kind scopes sound (e.LessEqual _ _ _) s place = tt
  value_has_kind scopes sound (e.Greater _ _ _) s place = tt
  value_has_kind scopes sound (e.GreaterEqual _ _ _) s place = tt
  value_has_kind scopes sound (e.Equal _ a b) s place =
      compared_has (kind clafers a s.within) (kind clafers b s.within) (meaning.equal clafers entries (reading_of clafers (kind clafers a s.within) (kind clafers b s.within)) (value clafers entries a s) (value clafers entries b s))
  value_has_kind scopes sound (e.In _ a b) s place =
      compared_has (kind clafers a s.within) (kind clafers b s.within) (meaning.part clafers entries (reading_of clafers (kind clafers a s.within) (kind clafers b s.within)) (value clafers entries a s) (value clafers entries b s))
  value_has_kind scopes sound (e.Some _ _) s place = tt
  value_has_kind scopes sound (e.No _ _) s place = tt
  value_has_kind scopes sound (e.One _ _) s place = tt
  value_has_kind scopes sound (e.Lone _ _) s place = tt
  value_has_kind scopes sound (e.Quant _ _ _ _ _ _) s place = tt
