-- Consistent bits show the instance that they tell.
use Rattle.std.proofs.Common.{◌≡◌, ◌≢◌, ℕ, zero, suc, ◌+◌, ◌<◌, ◌≤◌, Bool, true, false, cond, ◌||◌, List, [], ◌∷◌, length, map, get_or, Option, Some, None, refl, sym, ap, ◌∙◌, subst, arith, ◌⊎◌, inl, inr}
use Rattle.std.specs.Prelude.{slice_get, ◌==◌, unwrap_or, is_some}
use Rattle.std.specs.Option.{option_map_or, option_and_then}
use Rattle.std.specs.List.{filter, find, All, Contains, range_with_len, count_by}
use Rattle.std.proofs.lemmas.Bool.{true≢false}
use Rattle.std.proofs.lemmas.Bool.Decides.{eqb_tells}
use Rattle.std.proofs.lemmas.Grind.{common_steps}
use Rattle.bool_circuit.specs.Circuit.{entry}
use Rattle.clf_tree.specs.declared.instance.Node.{Node}
use Rattle.clf_tree.specs.declared.instance.Entry.{Entry}
use Rattle.clf_tree.specs.Lists.{each_two}
use Rattle.clf_tree.specs.Nodes.{same_node, is_before, entry_of, has_node, nodes_of}
use Rattle.set_bits.specs.declared.layout.Edge.{Edge}
use Rattle.set_bits.specs.declared.layout.Layout.{Layout}
use Rattle.set_bits.specs.Fitting.{slot}
use Rattle.set_bits.specs.Showing.{is_tied}
use Rattle.shown_instance.specs.Shown.{shown, entry_at, leads_to, is_taken, is_live}
use Rattle.shown_instance.proofs.Order.{both, together, same_itself}
use Rattle.shown_instance.proofs.Telling.{slot_at, find_some}
use Rattle.shown_instance.proofs.Counts.{same_slots, IsSound, found_has, count-cons}

-- ---- the entry of a slot

none_before : (slots : List Node) (g : ℕ → Entry) (l : ℕ → Bool) (i a m : ℕ) → each_two is_before slots ≡ true → ((j : ℕ) → (g j).node ≡ slot slots j) → i < a → a + m ≤ length slots → entry_of (map g (filter l (range_with_len a m))) (slot slots i) ≡ None
none_before slots g l i a zero asc n h t = refl
none_before slots g l i a (suc m) asc n h t = by (l a) (none_before slots g l i (a + 1) m asc n (omega arith) (omega arith))
  where
    by : (b : Bool) → entry_of (map g (filter l (range_with_len (a + 1) m))) (slot slots i) ≡ None → entry_of (map g (cond b (a ∷ filter l (range_with_len (a + 1) m)) (filter l (range_with_len (a + 1) m)))) (slot slots i) ≡ None
    by true rest =
        let differ : (a == i) ≡ false = grind (arith, common_steps) in
        let other : same_node (slot slots i) (g a).node ≡ false = ap (same_node (slot slots i)) (n a) ∙ same_slots slots a i asc (omega arith) (omega arith) ∙ differ in
        ap (λ b. cond b (Some (g a)) (entry_of (map g (filter l (range_with_len (a + 1) m))) (slot slots i))) other ∙ rest
    by false rest = rest

entry_in : (slots : List Node) (g : ℕ → Entry) (l : ℕ → Bool) (i a m : ℕ) → each_two is_before slots ≡ true → ((j : ℕ) → (g j).node ≡ slot slots j) → a ≤ i → i < a + m → a + m ≤ length slots
    → entry_of (map g (filter l (range_with_len a m))) (slot slots i) ≡ cond (l i) (Some (g i)) None
entry_in slots g l i a zero asc n h s t = absurd (omega arith)
entry_in slots g l i a (suc m) asc n h s t = by (l a) refl (eqb_tells a i) (λ q. entry_in slots g l i (a + 1) m asc n q (omega arith) (omega arith))
  where
    rest : Option Entry
    rest = entry_of (map g (filter l (range_with_len (a + 1) m))) (slot slots i)

    same : same_node (slot slots i) (g a).node ≡ (a == i)
    same = ap (same_node (slot slots i)) (n a) ∙ same_slots slots a i asc (omega arith) (omega arith)

    later : (a i : ℕ) → a ≤ i → a ≢ i → a + 1 ≤ i
    later a i h ne = grind (arith, common_steps)

    by : (b : Bool) → l a ≡ b → (((a == i) ≡ true) × (a ≡ i)) ⊎ (((a == i) ≡ false) × (a ≢ i)) → (a + 1 ≤ i → rest ≡ cond (l i) (Some (g i)) None)
        → entry_of (map g (cond b (a ∷ filter l (range_with_len (a + 1) m)) (filter l (range_with_len (a + 1) m)))) (slot slots i) ≡ cond (l i) (Some (g i)) None
    by true e (inl q) more = ap (λ b. cond b (Some (g a)) rest) (same ∙ q.0) ∙ ap (λ b. cond b (Some (g a)) None) (sym e) ∙ ap (λ j. cond (l j) (Some (g j)) None) q.1
    by true e (inr q) more = ap (λ b. cond b (Some (g a)) rest) (same ∙ q.0) ∙ more (later a i h q.1)
    by false e (inl q) more =
        let less : i < a + 1 = (let d = q.1 in omega (arith, d)) in
        none_before slots g l i (a + 1) m asc n less (omega arith) ∙ ap (λ b. cond b (Some (g a)) None) (sym e) ∙ ap (λ j. cond (l j) (Some (g j)) None) q.1
    by false e (inr q) more = more (later a i h q.1)

pub shown_entry : (layout : Layout) (bits : List Bool) (i : ℕ) → each_two is_before layout.slots ≡ true → i < length layout.slots → entry_of (shown layout bits) (slot layout.slots i) ≡ cond (is_live layout bits i) (Some (entry_at layout bits i)) None
shown_entry layout bits i asc h = entry_in layout.slots (entry_at layout bits) (is_live layout bits) i 0 (length layout.slots) asc (λ j. refl) (omega arith) (omega arith) (omega arith)

pub has_entry : (es : List Entry) (n : Node) → has_node (nodes_of es) n ≡ is_some (entry_of es n)
has_entry [] n = refl
has_entry (e ∷ es) n = by (same_node n e.node) (has_entry es n)
  where
    by : (b : Bool) → has_node (nodes_of es) n ≡ is_some (entry_of es n) → (b || has_node (nodes_of es) n) ≡ is_some (cond b (Some e) (entry_of es n))
    by true rest = refl
    by false rest = rest

-- the live slots are the entries
pub shown_live : (layout : Layout) (bits : List Bool) (i : ℕ) → each_two is_before layout.slots ≡ true → i < length layout.slots → is_live layout bits i ≡ has_node (nodes_of (shown layout bits)) (slot layout.slots i)
shown_live layout bits i asc h = sym (has_entry (shown layout bits) (slot layout.slots i) ∙ ap is_some (shown_entry layout bits i asc h) ∙ by (is_live layout bits i))
  where
    by : (b : Bool) → is_some (cond b (Some (entry_at layout bits i)) None) ≡ b
    by true = refl
    by false = refl

-- ---- the edges

counts_one : {X : Type 0} (p : X → Bool) (xs : List X) (x : X) (k : ℕ) → k < length xs → get_or xs k x ≡ x → p x ≡ true → 1 ≤ count_by p xs
counts_one p [] x k l e t = absurd (omega arith)
counts_one p (y ∷ ys) x zero l e t = let c : count_by p (y ∷ ys) ≡ 1 + count_by p ys = count-cons p y ys ∙ ap (λ b. cond b 1 0 + count_by p ys) (ap p e ∙ t) in omega (arith, c)
counts_one p (y ∷ ys) x (suc k) l e t = let c = count-cons p y ys in let r = counts_one p ys x k (omega arith) e t in omega (arith, c, r)

-- where at most one passes, each that passes is the first
pub one_passes : {X : Type 0} (p : X → Bool) (xs : List X) (f x : X) (k : ℕ) → count_by p xs ≤ 1 → find p xs ≡ Some f → k < length xs → get_or xs k x ≡ x → p x ≡ true → x ≡ f
one_passes p [] f x k c h l e t = absurd (omega arith)
one_passes p (y ∷ ys) f x zero c h l e t = ap (λ o. unwrap_or o x) (sym (ap (λ b. cond b (Some y) (find p ys)) (ap p e ∙ t) ∙ ap Some e) ∙ h)
one_passes p (y ∷ ys) f x (suc k) c h l e t = by (p y) refl (one_passes p ys f x k)
  where
    some : 1 ≤ count_by p ys
    some = counts_one p ys x k (omega arith) e t

    by : (b : Bool) → p y ≡ b → (count_by p ys ≤ 1 → find p ys ≡ Some f → k < length ys → get_or ys k x ≡ x → p x ≡ true → x ≡ f) → x ≡ f
    by true s rest = let d : count_by p (y ∷ ys) ≡ 1 + count_by p ys = count-cons p y ys ∙ ap (λ b. cond b 1 0 + count_by p ys) s in absurd (omega (arith, d, some, c))
    by false s rest =
        let d : count_by p (y ∷ ys) ≡ 0 + count_by p ys = count-cons p y ys ∙ ap (λ b. cond b 1 0 + count_by p ys) s in
        rest (omega (arith, d, c)) (sym (ap (λ b. cond b (Some y) (find p ys)) s) ∙ h) (omega arith) e t

-- no two edges have the same ends
abbrev pub AreOnce : List Edge → Type 0
AreOnce edges = (e f : Edge) → Contains edges e → Contains edges f → e.from ≡ f.from → e.to ≡ f.to → e ≡ f

-- the edge of each slot that is taken is the one that the shown entries have
pub edge_tied : (layout : Layout) (edges : List Edge) (bits : List Bool) (of : Node → Option Node) (e : Edge) → each_two is_before layout.slots ≡ true → All (IsSound layout bits) edges → AreOnce edges
    → count_by (is_taken bits e.from) edges ≤ 1 → of (slot layout.slots e.from) ≡ cond (is_live layout bits e.from) (leads_to layout.slots edges bits e.from) None → Contains edges e
    → entry bits e.here ≡ is_tied of layout.slots e
edge_tied layout edges bits of e asc sound once single ofs (k, l, at) = by (entry bits e.here) refl ∙ sym (ap (λ o. option_map_or (same_node (slot layout.slots e.to)) o false) ofs)
  where
    mine : IsSound layout bits e
    mine = subst (IsSound layout bits) at (sound k e l)

    itself : (n : ℕ) → (n == n) ≡ true
    itself n = grind (arith, common_steps)

    same_number : (a b : ℕ) → (a == b) ≡ true → a ≡ b
    same_number a b h = grind (arith, common_steps)

    through : Option Edge → Option Node
    through o = option_and_then (λ (x : Edge). slice_get layout.slots x.to) o

    tells : Bool → Option Edge → Bool
    tells b o = option_map_or (same_node (slot layout.slots e.to)) (cond b (through o) None) false

    no : (b : Bool) → tells b None ≡ false
    no true = refl
    no false = refl

    other : (f : Edge) → find (is_taken bits e.from) edges ≡ Some f → entry bits e.here ≡ false → (b : Bool) → tells b (Some f) ≡ false
    other f t z false = refl
    other f t z true =
        let w = found_has (is_taken bits e.from) (λ x. IsSound layout bits x × Contains edges x) edges f t (λ j d m. (sound j d m, (j, m, get_same edges j d m))) in
        let q = both (f.from == e.from) (entry bits f.here) w.0 in
        ap (λ o. option_map_or (same_node (slot layout.slots e.to)) o false) (slot_at layout.slots f.to w.1.0.to_in) ∙ same_slots layout.slots f.to e.to asc w.1.0.to_in mine.to_in
        ∙ apart (f.to == e.to) refl q w.1.1
      where
        get_same : {X : Type 0} (xs : List X) (j : ℕ) (d : X) → j < length xs → get_or xs j (get_or xs j d) ≡ get_or xs j d
        get_same [] j d m = absurd (omega arith)
        get_same (x ∷ xs) zero d m = refl
        get_same (x ∷ xs) (suc j) d m = get_same xs j d (omega arith)

        apart : (b : Bool) → (f.to == e.to) ≡ b → ((f.from == e.from) ≡ true) × (entry bits f.here ≡ true) → Contains edges f → (f.to == e.to) ≡ false
        apart false h q c = h
        apart true h q c =
            let same : f ≡ e = once f e c (k, l, at) (same_number f.from e.from q.0) (same_number f.to e.to h) in
            absurd (true≢false (sym q.1 ∙ ap (λ (x : Edge). entry bits x.here) same ∙ z))

    by : (b : Bool) → entry bits e.here ≡ b → entry bits e.here ≡ tells (is_live layout bits e.from) (find (is_taken bits e.from) edges)
    by true t =
        let pass : is_taken bits e.from e ≡ true = together (e.from == e.from) (entry bits e.here) (itself e.from) t in
        let f = find_some (is_taken bits e.from) (IsSound layout bits) edges e k l at pass sound in
        let same : e ≡ f.it = one_passes (is_taken bits e.from) edges f.it e k single f.found l at pass in
        t ∙ sym (ap (λ b. tells b (find (is_taken bits e.from) edges)) (mine.lives t) ∙ ap (tells true) (f.found ∙ ap Some (sym same))
        ∙ ap (λ o. option_map_or (same_node (slot layout.slots e.to)) o false) (slot_at layout.slots e.to mine.to_in) ∙ same_itself (slot layout.slots e.to))
    by false t = t ∙ sym (pick (find (is_taken bits e.from) edges) refl)
      where
        pick : (o : Option Edge) → find (is_taken bits e.from) edges ≡ o → tells (is_live layout bits e.from) (find (is_taken bits e.from) edges) ≡ false
        pick None s = ap (tells (is_live layout bits e.from)) s ∙ no (is_live layout bits e.from)
        pick (Some f) s = ap (tells (is_live layout bits e.from)) s ∙ other f s t (is_live layout bits e.from)
