-- Parents and targets of the entries that bits tell.
use Rattle.std.proofs.Common.{◌≡◌, ◌≢◌, ℕ, zero, suc, ◌+◌, ◌<◌, ◌≤◌, Bool, true, false, not, cond, ◌&&◌, ◌||◌, List, [], ◌∷◌, length, map, get_or, Option, Some, None, refl, sym, ap, ◌∙◌, subst, arith, ◌⊎◌, inl, inr}
use Rattle.std.specs.Prelude.{slice_get, ◌==◌, is_some, is_none, ℤ}
use Rattle.std.specs.Option.{option_map_or, option_and_then}
use Rattle.std.specs.List.{filter, find, list_all, list_any, All, range_with_len, count_by}
use Rattle.std.proofs.lemmas.Bool.{true≢false}
use Rattle.std.proofs.lemmas.Bool.Decides.{eqb_tells}
use Rattle.std.proofs.lemmas.Grind.{common_steps}
use Rattle.std.proofs.lemmas.Map.Views.{any-filter_same}
use Rattle.bool_circuit.specs.Circuit.{entry}
use Rattle.clf_tree.specs.declared.model.Clafer.{Clafer}
use Rattle.clf_tree.specs.declared.model.Reference.{Reference}
use Rattle.clf_tree.specs.declared.instance.Node.{Node}
use Rattle.clf_tree.specs.declared.instance.Target.{Target}
use Rattle.clf_tree.specs.declared.instance.Target.TheVariants as target
use Rattle.clf_tree.specs.declared.instance.Entry.{Entry}
use Rattle.clf_tree.specs.declared.scopes.Scopes.{Scopes}
use Rattle.clf_tree.specs.Lists.{each_two, numbers_below, has}
use Rattle.clf_tree.specs.Hierarchy as h
use Rattle.clf_tree.specs.Hierarchy.{owners, parent_of, reference_of, refers_to_int, concrete_below, is_concrete, is_a}
use Rattle.clf_tree.specs.Nodes.{same_node, is_before, has_node, has_some, nodes_of, has_its_parent, fits_range}
use Rattle.clf_tree.specs.Shape.{instances, is_child_of, refers, meets_reference}
use Rattle.set_bits.specs.declared.layout.Edge.{Edge}
use Rattle.set_bits.specs.declared.layout.Layout.{Layout}
use Rattle.set_bits.specs.Fitting.{slot, slot_clafer, referred, Fits}
use Rattle.shown_instance.specs.Shown.{shown, entry_at, leads_to, is_taken, is_live, integer_at, target_of}
use Rattle.shown_instance.specs.Consistent.{has_taken, lead_from_live, are_single, are_edges, are_integers, is_consistent}
use Rattle.shown_instance.specs.Placed.{have_taken, lead_to_live, have_parents, have_targets}
use Rattle.shown_instance.proofs.Order.{both, together, same_nodes}
use Rattle.shown_instance.proofs.Adapting.{all_pass}
use Rattle.shown_instance.proofs.Telling.{slot_at}
use Rattle.shown_instance.proofs.Fitted.{slots_ascend}
use Rattle.shown_instance.proofs.Counts.{IsSound, found_has, children_counted}
use Rattle.shown_instance.proofs.Consistent.{shown_live, one_passes}
use Rattle.shown_instance.proofs.Sound.{single_count, list_from}
use Rattle.shown_instance.proofs.Hinge.{all_told, ranged}
use Rattle.shown_instance.proofs.Valued.{edges_near, leads_near, no_edge, int_refers_to_none, integer_where_referred}
use Rattle.shown_instance.proofs.Whole.{sound_edges, numbers_from, numbers_at}

-- ---- tests

pub same_truth : (a b : Bool) → (a ≡ true → b ≡ true) → (b ≡ true → a ≡ true) → a ≡ b
same_truth true true f g = refl
same_truth true false f g = sym (f refl)
same_truth false true f g = g refl
same_truth false false f g = refl

pub same_number : (a b : ℕ) → (a == b) ≡ true → a ≡ b
same_number a b t = grind (arith, common_steps)

itself : (n : ℕ) → (n == n) ≡ true
itself n = grind (arith, common_steps)

pub implied : (a b : Bool) → (not a || b) ≡ true → a ≡ true → b ≡ true
implied true b t u = t
implied false b t u = absurd (true≢false (sym u))

implies : (a b : Bool) → (a ≡ true → b ≡ true) → (not a || b) ≡ true
implies true b f = f refl
implies false b f = refl

-- what holds of all entries that are told holds of that of each live slot
told_each : (p : Entry → Bool) (g : ℕ → Entry) (l : ℕ → Bool) (a m i : ℕ) → list_all p (map g (filter l (range_with_len a m))) ≡ true → a ≤ i → i < a + m → l i ≡ true → p (g i) ≡ true
told_each p g l a zero i t low high u = absurd (omega (arith, low, high))
told_each p g l a (suc m) i t low high u = by (l a) refl (eqb_tells a i) t (λ more next. told_each p g l (a + 1) m i more next (omega (arith, high)) u)
  where
    rest : List Entry
    rest = map g (filter l (range_with_len (a + 1) m))

    by : (b : Bool) → l a ≡ b → (((a == i) ≡ true) × (a ≡ i)) ⊎ (((a == i) ≡ false) × (a ≢ i)) → list_all p (map g (cond b (a ∷ filter l (range_with_len (a + 1) m)) (filter l (range_with_len (a + 1) m)))) ≡ true
        → (list_all p rest ≡ true → a + 1 ≤ i → p (g i) ≡ true) → p (g i) ≡ true
    by true e (inl q) s more = subst (λ j. p (g j) ≡ true) q.1 (both (p (g a)) (list_all p rest) s).0
    by true e (inr q) s more = more (both (p (g a)) (list_all p rest) s).1 (omega (arith, low, q.1))
    by false e (inl q) s more = absurd (true≢false (sym u ∙ ap l (sym q.1) ∙ e))
    by false e (inr q) s more = more s (omega (arith, low, q.1))

-- ---- the edge that is taken

pub any_find : {X : Type 0} (p : X → Bool) (xs : List X) → list_any p xs ≡ is_some (find p xs)
any_find p [] = refl
any_find p (x ∷ xs) = by (p x) (any_find p xs)
  where
    by : (b : Bool) → list_any p xs ≡ is_some (find p xs) → (b || list_any p xs) ≡ is_some (cond b (Some x) (find p xs))
    by true rest = refl
    by false rest = rest

-- what is known of the edges of one kind
pub record AreRight (near : ℕ → List ℕ) (layout : Layout) (edges : List Edge) (bits : List Bool) : Type 0 where
  pub asc : each_two is_before layout.slots ≡ true
  pub sound : All (IsSound layout bits) edges
  pub single : (i : ℕ) → count_by (is_taken bits i) edges ≤ 1
  pub close : list_all (leads_near near layout.slots) edges ≡ true

-- the edge of a slot that is taken
record Takes (near : ℕ → List ℕ) (layout : Layout) (edges : List Edge) (bits : List Bool) (i : ℕ) : Type 0 where
  it : Edge
  leads : leads_to layout.slots edges bits i ≡ Some (slot layout.slots it.to)
  to_in : it.to < length layout.slots
  here : entry bits it.here ≡ true
  close : has (near (slot_clafer layout.slots i)) (slot_clafer layout.slots it.to) ≡ true

abbrev lead : List Node → Option Edge → Option Node
lead slots o = option_and_then (λ (x : Edge). slice_get slots x.to) o

takes : (near : ℕ → List ℕ) (layout : Layout) (edges : List Edge) (bits : List Bool) (i : ℕ) → AreRight near layout edges bits → (Q : Edge → Type 0) → All Q edges → has_taken edges bits i ≡ true → (t : Takes near layout edges bits i) × Q t.it
takes near layout edges bits i r Q all some = by (find (is_taken bits i) edges) refl
  where
    by : (o : Option Edge) → find (is_taken bits i) edges ≡ o → (t : Takes near layout edges bits i) × Q t.it
    by None e = absurd (true≢false (sym some ∙ any_find (is_taken bits i) edges ∙ ap is_some e))
    by (Some f) e =
        let w = found_has (is_taken bits i) (λ x. IsSound layout bits x × (leads_near near layout.slots x ≡ true) × Q x) edges f e (λ k d l. (r.sound k d l, all_pass (leads_near near layout.slots) edges r.close k d l, all k d l)) in
        let q = both (f.from == i) (entry bits f.here) w.0 in (
          record {
            it = f;
            leads = ap (lead layout.slots) e ∙ slot_at layout.slots f.to w.1.0.to_in;
            to_in = w.1.0.to_in;
            here = q.1;
            close = sym (ap (λ j. has (near (slot_clafer layout.slots j)) (slot_clafer layout.slots f.to)) (same_number f.from i q.0)) ∙ w.1.1;
          },
          w.1.2,
        )

get_same : {X : Type 0} (xs : List X) (j : ℕ) (d : X) → j < length xs → get_or xs j (get_or xs j d) ≡ get_or xs j d
get_same [] j d m = absurd (omega arith)
get_same (x ∷ xs) zero d m = refl
get_same (x ∷ xs) (suc j) d m = get_same xs j d (omega arith)

-- each edge whose bit is true is the one that is taken of its slot
leads_its_way : (near : ℕ → List ℕ) (layout : Layout) (edges : List Edge) (bits : List Bool) → AreRight near layout edges bits → (k : ℕ) (d : Edge) → k < length edges → entry bits (get_or edges k d).here ≡ true
    → leads_to layout.slots edges bits (get_or edges k d).from ≡ Some (slot layout.slots (get_or edges k d).to)
leads_its_way near layout edges bits r k d l t = by (find (is_taken bits e.from) edges) refl
  where
    e : Edge
    e = get_or edges k d

    pass : is_taken bits e.from e ≡ true
    pass = together (e.from == e.from) (entry bits e.here) (itself e.from) t

    by : (o : Option Edge) → find (is_taken bits e.from) edges ≡ o → leads_to layout.slots edges bits e.from ≡ Some (slot layout.slots e.to)
    by None n = absurd (true≢false (sym (any_there edges k l pass) ∙ any_find (is_taken bits e.from) edges ∙ ap is_some n))
      where
        any_there : (xs : List Edge) (j : ℕ) → j < length xs → is_taken bits e.from (get_or xs j d) ≡ true → list_any (is_taken bits e.from) xs ≡ true
        any_there [] j m p = absurd (omega arith)
        any_there (x ∷ xs) zero m p = ap (λ b. b || list_any (is_taken bits e.from) xs) p
        any_there (x ∷ xs) (suc j) m p = at (is_taken bits e.from x) (any_there xs j (omega arith) p)
          where
            at : (b : Bool) → list_any (is_taken bits e.from) xs ≡ true → (b || list_any (is_taken bits e.from) xs) ≡ true
            at true q = refl
            at false q = q
    by (Some f) s =
        let same : e ≡ f = one_passes (is_taken bits e.from) edges f e k (r.single e.from) s l (get_same edges k d l) pass in
        ap (lead layout.slots) s ∙ ap (λ (x : Edge). slice_get layout.slots x.to) (sym same) ∙ slot_at layout.slots e.to (r.sound k d l).to_in

-- ---- both kinds of edges

-- the nodes to which an entry of a clafer may be tied, where it has to be tied to one of them
record AreAllowed (near : ℕ → List ℕ) (asked : ℕ → Option ℕ) (allowed : ℕ → ℕ → List Node) (nodes : List Node) : Type 0 where
  none : (c : ℕ) → asked c ≡ None → near c ≡ []
  into : (c q : ℕ) (n : Node) → asked c ≡ Some q → has (near c) n.clafer ≡ true → has_node nodes n ≡ true → has_node (allowed c q) n ≡ true
  back : (c q : ℕ) (n : Node) → has_node (allowed c q) n ≡ true → has_node nodes n ≡ true

-- whether an entry of a clafer is tied as it has to be
abbrev is_tied_right : (ℕ → Option ℕ) → (ℕ → ℕ → List Node) → ℕ → Option Node → Bool
is_tied_right asked allowed c o = option_map_or (λ q. has_some (allowed c q) o) (asked c) (is_none o)

live_there : (layout : Layout) (bits : List Bool) (i : ℕ) → each_two is_before layout.slots ≡ true → i < length layout.slots → is_live layout bits i ≡ has_node (nodes_of (shown layout bits)) (slot layout.slots i)
live_there layout bits i asc l = shown_live layout bits i asc l

placed : (near : ℕ → List ℕ) (asked : ℕ → Option ℕ) (allowed : ℕ → ℕ → List Node) (layout : Layout) (edges : List Edge) (bits : List Bool) → AreRight near layout edges bits → AreAllowed near asked allowed (nodes_of (shown layout bits))
    → have_taken (λ c. is_some (asked c)) layout edges bits ≡ true → lead_to_live layout edges bits ≡ true → (i : ℕ) → i < length layout.slots → is_live layout bits i ≡ true → is_tied_right asked allowed (slot_clafer layout.slots i) (leads_to layout.slots edges bits i) ≡ true
placed near asked allowed layout edges bits r a have lead_on i l live = by (asked c) refl
  where
    c : ℕ
    c = slot_clafer layout.slots i

    by : (o : Option ℕ) → asked c ≡ o → is_tied_right asked allowed c (leads_to layout.slots edges bits i) ≡ true
    by None e =
        ap (λ o. option_map_or (λ q. has_some (allowed c q) (leads_to layout.slots edges bits i)) o (is_none (leads_to layout.slots edges bits i))) e
        ∙ ap (λ o. is_none (lead layout.slots o)) (no_edge near layout.slots edges bits i r.close (a.none c e))
    by (Some q) e =
        let some = implied (is_live layout bits i && is_some (asked c)) (has_taken edges bits i)
        (numbers_at (λ j. not (is_live layout bits j && is_some (asked (slot_clafer layout.slots j))) || has_taken edges bits j) 0 (length layout.slots) i have (omega arith) (omega (arith, l)))
        (together (is_live layout bits i) (is_some (asked c)) live (ap is_some e)) in
        let t = takes near layout edges bits i r (λ x. (not (entry bits x.here) || is_live layout bits x.to) ≡ true) (all_pass (λ x. not (entry bits x.here) || is_live layout bits x.to) edges lead_on) some in
        let alive : is_live layout bits t.0.it.to ≡ true = implied (entry bits t.0.it.here) (is_live layout bits t.0.it.to) t.1 t.0.here in
        ap (λ o. option_map_or (λ p. has_some (allowed c p) (leads_to layout.slots edges bits i)) o (is_none (leads_to layout.slots edges bits i))) e
        ∙ ap (has_some (allowed c q)) t.0.leads
        ∙ a.into c q (slot layout.slots t.0.it.to) e t.0.close (sym (live_there layout bits t.0.it.to r.asc t.0.to_in) ∙ alive)

unplaced : (near : ℕ → List ℕ) (asked : ℕ → Option ℕ) (allowed : ℕ → ℕ → List Node) (layout : Layout) (edges : List Edge) (bits : List Bool) → AreRight near layout edges bits → AreAllowed near asked allowed (nodes_of (shown layout bits))
    → ((i : ℕ) → i < length layout.slots → is_live layout bits i ≡ true → is_tied_right asked allowed (slot_clafer layout.slots i) (leads_to layout.slots edges bits i) ≡ true)
    → (have_taken (λ c. is_some (asked c)) layout edges bits && lead_to_live layout edges bits) ≡ true
unplaced near asked allowed layout edges bits r a right =
    together (have_taken (λ c. is_some (asked c)) layout edges bits) (lead_to_live layout edges bits)
    (numbers_from (λ j. not (is_live layout bits j && is_some (asked (slot_clafer layout.slots j))) || has_taken edges bits j) 0 (length layout.slots) (λ i low high.
    implies (is_live layout bits i && is_some (asked (slot_clafer layout.slots i))) (has_taken edges bits i) (λ t.
    let p = both (is_live layout bits i) (is_some (asked (slot_clafer layout.slots i))) t in
    has_one i (asked (slot_clafer layout.slots i)) refl p.1 (right i (omega (arith, high)) p.0) (find (is_taken bits i) edges) refl)))
    (list_from (λ e. not (entry bits e.here) || is_live layout bits e.to) edges (λ k d l.
    implies (entry bits (get_or edges k d).here) (is_live layout bits (get_or edges k d).to) (λ t.
    lands k d l t (asked (slot_clafer layout.slots (get_or edges k d).from)) refl)))
  where
    has_one : (i : ℕ) (o : Option ℕ) → asked (slot_clafer layout.slots i) ≡ o → is_some (asked (slot_clafer layout.slots i)) ≡ true → is_tied_right asked allowed (slot_clafer layout.slots i) (leads_to layout.slots edges bits i) ≡ true
        → (f : Option Edge) → find (is_taken bits i) edges ≡ f → has_taken edges bits i ≡ true
    has_one i None e s t f g = absurd (true≢false (sym s ∙ ap is_some e))
    has_one i (Some q) e s t (Some x) g = any_find (is_taken bits i) edges ∙ ap is_some g
    has_one i (Some q) e s t None g =
        absurd (true≢false (sym t ∙ ap (λ o. option_map_or (λ p. has_some (allowed (slot_clafer layout.slots i) p) (leads_to layout.slots edges bits i)) o (is_none (leads_to layout.slots edges bits i))) e
        ∙ ap (λ o. has_some (allowed (slot_clafer layout.slots i) q) (lead layout.slots o)) g))

    lands : (k : ℕ) (d : Edge) → k < length edges → entry bits (get_or edges k d).here ≡ true → (o : Option ℕ) → asked (slot_clafer layout.slots (get_or edges k d).from) ≡ o → is_live layout bits (get_or edges k d).to ≡ true
    lands k d l t o e =
        let x : Edge = get_or edges k d in
        let s = r.sound k d l in
        let fact : is_tied_right asked allowed (slot_clafer layout.slots x.from) (Some (slot layout.slots x.to)) ≡ true =
        ap (is_tied_right asked allowed (slot_clafer layout.slots x.from)) (sym (leads_its_way near layout edges bits r k d l t)) ∙ right x.from s.from_in (s.lives t) in
        live_there layout bits x.to r.asc s.to_in ∙ by x o e fact
      where
        by : (x : Edge) (o : Option ℕ) → asked (slot_clafer layout.slots x.from) ≡ o → is_tied_right asked allowed (slot_clafer layout.slots x.from) (Some (slot layout.slots x.to)) ≡ true → has_node (nodes_of (shown layout bits)) (slot layout.slots x.to) ≡ true
        by x None e f = absurd (true≢false (sym f ∙ ap (λ o. option_map_or (λ p. has_some (allowed (slot_clafer layout.slots x.from) p) (Some (slot layout.slots x.to))) o (is_none (Some (slot layout.slots x.to)))) e))
        by x (Some q) e f =
            a.back (slot_clafer layout.slots x.from) q (slot layout.slots x.to)
            (sym (ap (λ o. option_map_or (λ p. has_some (allowed (slot_clafer layout.slots x.from) p) (Some (slot layout.slots x.to))) o (is_none (Some (slot layout.slots x.to)))) e) ∙ f)

-- ---- parents

pub right_edges : (near : ℕ → List ℕ) (clafers : List Clafer) (scopes : Scopes) (layout : Layout) (edges : List Edge) (bits : List Bool) → Fits clafers scopes layout → All (IsSound layout bits) edges → are_single edges bits ≡ true → list_all (leads_near near layout.slots) edges ≡ true → AreRight near layout edges bits
right_edges near clafers scopes layout edges bits f sound single close = record {
  asc = ap (each_two is_before) f.slots ∙ slots_ascend clafers scopes;
  sound = sound;
  single = λ i. single_count bits i edges single;
  close = close;
}

has_kept : (t : Node → Bool) (nodes : List Node) (n : Node) → has_node (filter t nodes) n ≡ (t n && has_node nodes n)
has_kept t nodes n = any-filter_same (same_node n) t (t n) (λ m s. ap t (sym (same_nodes n m s))) nodes

owners_allowed : (clafers : List Clafer) (nodes : List Node) → AreAllowed (owners clafers) (parent_of clafers) (λ c q. filter (λ (m : Node). has (owners clafers c) m.clafer) nodes) nodes
owners_allowed clafers nodes = record {
  none = λ c e. ap (λ o. option_map_or (concrete_below clafers) o []) e;
  into = λ c q n e close there. has_kept (λ (m : Node). has (owners clafers c) m.clafer) nodes n ∙ together (has (owners clafers c) n.clafer) (has_node nodes n) close there;
  back = λ c q n t. (both (has (owners clafers c) n.clafer) (has_node nodes n) (sym (has_kept (λ (m : Node). has (owners clafers c) m.clafer) nodes n) ∙ t)).1;
}

pub parents_told : (clafers : List Clafer) (scopes : Scopes) (layout : Layout) (bits : List Bool) → Fits clafers scopes layout → is_consistent scopes layout bits ≡ true → have_parents clafers layout bits ≡ list_all (has_its_parent clafers (shown layout bits)) (shown layout bits)
parents_told clafers scopes layout bits f c =
    same_truth (have_parents clafers layout bits) (list_all (has_its_parent clafers (shown layout bits)) (shown layout bits))
    (λ t. let p = both (have_taken (λ k. is_some (parent_of clafers k)) layout layout.parents bits) (lead_to_live layout layout.parents bits) t in
    all_told (has_its_parent clafers (shown layout bits)) (entry_at layout bits) (is_live layout bits) 0 (length layout.slots) (λ i low high live. placed (owners clafers) (parent_of clafers) allowed layout layout.parents bits right (owners_allowed clafers nodes) p.0 p.1 i (omega (arith, high)) live))
    (λ t. unplaced (owners clafers) (parent_of clafers) allowed layout layout.parents bits right (owners_allowed clafers nodes)
    (λ i l live. told_each (has_its_parent clafers (shown layout bits)) (entry_at layout bits) (is_live layout bits) 0 (length layout.slots) i t (omega arith) (omega (arith, l)) live))
  where
    nodes : List Node
    nodes = nodes_of (shown layout bits)

    allowed : ℕ → ℕ → List Node
    allowed k q = filter (λ (m : Node). has (owners clafers k) m.clafer) nodes

    right : AreRight (owners clafers) layout layout.parents bits
    right =
        let whole = both (are_edges layout layout.parents bits && are_edges layout layout.targets bits) (are_integers scopes layout bits) c in
        let halves = both (are_edges layout layout.parents bits) (are_edges layout layout.targets bits) whole.0 in
        let p = both (lead_from_live layout layout.parents bits) (are_single layout.parents bits) halves.0 in
        right_edges (owners clafers) clafers scopes layout layout.parents bits f (sound_edges (owners clafers) layout layout.parents bits f.parents p.0) p.1 (edges_near (owners clafers) layout.slots layout.parents f.parents)

-- ---- targets

has_instance : (p : ℕ → Bool) (es : List Entry) (n : Node) → has_node (nodes_of (filter (λ (e : Entry). p e.node.clafer) es)) n ≡ (p n.clafer && has_node (nodes_of es) n)
has_instance p [] n = sym (none (p n.clafer))
  where
    none : (b : Bool) → (b && false) ≡ false
    none true = refl
    none false = refl
has_instance p (e ∷ es) n = by (p e.node.clafer) refl (same_node n e.node) refl (has_instance p es n)
  where
    kept : List Entry
    kept = filter (λ (x : Entry). p x.node.clafer) es

    by : (b : Bool) → p e.node.clafer ≡ b → (s : Bool) → same_node n e.node ≡ s → has_node (nodes_of kept) n ≡ (p n.clafer && has_node (nodes_of es) n)
        → has_node (nodes_of (cond b (e ∷ kept) kept)) n ≡ (p n.clafer && (same_node n e.node || has_node (nodes_of es) n))
    by true u true s rest =
        let mine : p n.clafer ≡ true = ap (λ (m : Node). p m.clafer) (same_nodes n e.node s) ∙ u in
        ap (λ b. b || has_node (nodes_of kept) n) s ∙ sym (ap (λ b. b && (same_node n e.node || has_node (nodes_of es) n)) mine ∙ ap (λ b. b || has_node (nodes_of es) n) s)
    by true u false s rest = ap (λ b. b || has_node (nodes_of kept) n) s ∙ rest ∙ sym (ap (λ b. p n.clafer && (b || has_node (nodes_of es) n)) s)
    by false u true s rest =
        let mine : p n.clafer ≡ false = ap (λ (m : Node). p m.clafer) (same_nodes n e.node s) ∙ u in
        rest ∙ ap (λ b. b && has_node (nodes_of es) n) mine ∙ sym (ap (λ b. b && (same_node n e.node || has_node (nodes_of es) n)) mine)
    by false u false s rest = rest ∙ sym (ap (λ b. p n.clafer && (b || has_node (nodes_of es) n)) s)

pub below_is : (clafers : List Clafer) (q d : ℕ) → has (concrete_below clafers q) d ≡ true → is_a clafers d q ≡ true
below_is clafers q d t =
    (both (is_concrete clafers d) (is_a clafers d q)
    (both (is_concrete clafers d && is_a clafers d q) (has (numbers_below (length clafers)) d)
    (sym (any-filter_same (λ y. d == y) (λ k. is_concrete clafers k && is_a clafers k q) (is_concrete clafers d && is_a clafers d q) (λ k s. ap (λ j. is_concrete clafers j && is_a clafers j q) (sym (same_number d k s))) (numbers_below (length clafers))) ∙ t)).0).1

targets_allowed : (clafers : List Clafer) (entries : List Entry) → AreAllowed (referred clafers) (h.target_of clafers) (λ c q. nodes_of (instances clafers entries q)) (nodes_of entries)
targets_allowed clafers entries = record {
  none = λ c e. ap (λ o. option_map_or (concrete_below clafers) o []) e;
  into = λ c q n e close there.
      has_instance (λ k. is_a clafers k q) entries n
      ∙ together (is_a clafers n.clafer q) (has_node (nodes_of entries) n) (below_is clafers q n.clafer (sym (ap (λ o. has (option_map_or (concrete_below clafers) o []) n.clafer) e) ∙ close)) there;
  back = λ c q n t. (both (is_a clafers n.clafer q) (has_node (nodes_of entries) n) (sym (has_instance (λ k. is_a clafers k q) entries n) ∙ t)).1;
}

-- an entry's target is right exactly where it is a right node, or an integer in its place
reference_met : (clafers : List Clafer) (scopes : Scopes) (layout : Layout) (bits : List Bool) (i : ℕ) → Fits clafers scopes layout → are_integers scopes layout bits ≡ true → i < length layout.slots → is_live layout bits i ≡ true
    → meets_reference clafers (shown layout bits) scopes (entry_at layout bits i) ≡ is_tied_right (h.target_of clafers) (λ c q. nodes_of (instances clafers (shown layout bits) q)) (slot_clafer layout.slots i) (leads_to layout.slots layout.targets bits i)
reference_met clafers scopes layout bits i f ints l live = by (reference_of clafers c) refl
  where
    c : ℕ
    c = slot_clafer layout.slots i

    node : Option Node
    node = leads_to layout.slots layout.targets bits i

    number : Option ℤ
    number = integer_at layout.values bits i

    allowed : ℕ → List Node
    allowed q = nodes_of (instances clafers (shown layout bits) q)

    meets : Option Reference → Option Target → Bool
    meets r t = option_map_or (λ (x : Reference). option_map_or (refers clafers (shown layout bits) scopes x.to) t false) r (is_none t)

    tied : Option ℕ → Option Node → Bool
    tied o n = option_map_or (λ q. has_some (allowed q) n) o (is_none n)

    tells : is_some number ≡ refers_to_int clafers c
    tells = integer_where_referred clafers scopes layout bits i f l

    none : (z : Option ℤ) → is_some z ≡ false → z ≡ None
    none None e = refl
    none (Some z) e = absurd (true≢false e)

    alone : (r : Option Reference) (n : Option Node) → r ≡ None → meets r (target_of n None) ≡ tied (option_and_then (λ (x : Reference). x.to) r) n
    alone r None e = rw e refl
    alone r (Some n) e = rw e refl

    a_node : (x : Reference) (q : ℕ) (n : Option Node) → x.to ≡ Some q → meets (Some x) (target_of n None) ≡ tied (Some q) n
    a_node x q None e = refl
    a_node x q (Some n) e = ap (λ o. refers clafers (shown layout bits) scopes o (target.Node n)) e

    an_integer : (x : Reference) (n : Option Node) (z : Option ℤ) → x.to ≡ None → n ≡ None → is_some z ≡ true → option_map_or (fits_range scopes) (target_of n z) true ≡ true → meets (Some x) (target_of n z) ≡ tied None n
    an_integer x (Some n) z e m s t = absurd (true≢false (ap is_some m))
    an_integer x None None e m s t = absurd (true≢false (sym s))
    an_integer x None (Some z) e m s t = ap (λ o. refers clafers (shown layout bits) scopes o (target.Int z)) e ∙ t

    by : (r : Option Reference) → reference_of clafers c ≡ r → meets (reference_of clafers c) (target_of node number) ≡ tied (option_and_then (λ (x : Reference). x.to) (reference_of clafers c)) node
    by None e =
        let nothing = none number (tells ∙ ap (λ o. option_map_or (λ (x : Reference). is_none x.to) o false) e) in
        ap (λ z. meets (reference_of clafers c) (target_of node z)) nothing ∙ alone (reference_of clafers c) node e
    by (Some x) e = to x.to refl
      where
        to : (o : Option ℕ) → x.to ≡ o → meets (reference_of clafers c) (target_of node number) ≡ tied (option_and_then (λ (y : Reference). y.to) (reference_of clafers c)) node
        to None s =
            let int : refers_to_int clafers c ≡ true = ap (λ o. option_map_or (λ (y : Reference). is_none y.to) o false) e ∙ ap is_none s in
            let edge : node ≡ None = ap (lead layout.slots) (no_edge (referred clafers) layout.slots layout.targets bits i (edges_near (referred clafers) layout.slots layout.targets f.targets) (int_refers_to_none clafers c int)) in
            ap (λ r. meets r (target_of node number)) e ∙ an_integer x node number s edge (tells ∙ int) (ranged scopes layout bits i ints live)
            ∙ sym (ap (λ r. tied (option_and_then (λ (y : Reference). y.to) r) node) e ∙ ap (λ o. tied o node) s)
        to (Some q) s =
            let nothing = none number (tells ∙ ap (λ o. option_map_or (λ (y : Reference). is_none y.to) o false) e ∙ ap is_none s) in
            ap (λ r. meets r (target_of node number)) e ∙ ap (λ z. meets (Some x) (target_of node z)) nothing ∙ a_node x q node s
            ∙ sym (ap (λ r. tied (option_and_then (λ (y : Reference). y.to) r) node) e ∙ ap (λ o. tied o node) s)

pub targets_told : (clafers : List Clafer) (scopes : Scopes) (layout : Layout) (bits : List Bool) → Fits clafers scopes layout → is_consistent scopes layout bits ≡ true → have_targets clafers layout bits ≡ list_all (meets_reference clafers (shown layout bits) scopes) (shown layout bits)
targets_told clafers scopes layout bits f c =
    same_truth (have_targets clafers layout bits) (list_all (meets_reference clafers (shown layout bits) scopes) (shown layout bits))
    (λ t. let p = both (have_taken (λ k. is_some (h.target_of clafers k)) layout layout.targets bits) (lead_to_live layout layout.targets bits) t in
    all_told (meets_reference clafers (shown layout bits) scopes) (entry_at layout bits) (is_live layout bits) 0 (length layout.slots) (λ i low high live.
    reference_met clafers scopes layout bits i f whole.1 (omega (arith, high)) live
    ∙ placed (referred clafers) (h.target_of clafers) allowed layout layout.targets bits right (targets_allowed clafers (shown layout bits)) p.0 p.1 i (omega (arith, high)) live))
    (λ t. unplaced (referred clafers) (h.target_of clafers) allowed layout layout.targets bits right (targets_allowed clafers (shown layout bits))
    (λ i l live. sym (reference_met clafers scopes layout bits i f whole.1 l live) ∙ told_each (meets_reference clafers (shown layout bits) scopes) (entry_at layout bits) (is_live layout bits) 0 (length layout.slots) i t (omega arith) (omega (arith, l)) live))
  where
    whole : ((are_edges layout layout.parents bits && are_edges layout layout.targets bits) ≡ true) × (are_integers scopes layout bits ≡ true)
    whole = both (are_edges layout layout.parents bits && are_edges layout layout.targets bits) (are_integers scopes layout bits) c

    allowed : ℕ → ℕ → List Node
    allowed k q = nodes_of (instances clafers (shown layout bits) q)

    right : AreRight (referred clafers) layout layout.targets bits
    right =
        let halves = both (are_edges layout layout.parents bits) (are_edges layout layout.targets bits) whole.0 in
        let p = both (lead_from_live layout layout.targets bits) (are_single layout.targets bits) halves.1 in
        right_edges (referred clafers) clafers scopes layout layout.targets bits f (sound_edges (referred clafers) layout layout.targets bits f.targets p.0) p.1 (edges_near (referred clafers) layout.slots layout.targets f.targets)

-- ---- how many entries there are

-- the entries below a slot are counted by the edges to it that are taken
pub children_told : (clafers : List Clafer) (scopes : Scopes) (layout : Layout) (bits : List Bool) (asked : ℕ → Bool) (s : ℕ) → Fits clafers scopes layout → is_consistent scopes layout bits ≡ true → s < length layout.slots
    → count_by (is_child_of (entry_at layout bits s)) (filter (λ (e : Entry). asked e.node.clafer) (shown layout bits)) ≡ count_by (λ (e : Edge). ((e.to == s) && asked (slot_clafer layout.slots e.from)) && entry bits e.here) layout.parents
children_told clafers scopes layout bits asked s f c l =
    let whole = both (are_edges layout layout.parents bits && are_edges layout layout.targets bits) (are_integers scopes layout bits) c in
    let halves = both (are_edges layout layout.parents bits) (are_edges layout layout.targets bits) whole.0 in
    let p = both (lead_from_live layout layout.parents bits) (are_single layout.parents bits) halves.0 in
    children_counted asked layout bits s (ap (each_two is_before) f.slots ∙ slots_ascend clafers scopes) l (sound_edges (owners clafers) layout layout.parents bits f.parents p.0) (λ i m. single_count bits i layout.parents p.1)
