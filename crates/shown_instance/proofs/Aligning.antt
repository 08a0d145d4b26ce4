-- Ordered entries side by side with a longer ordered list of nodes.
use Rattle.std.proofs.Common.{◌≡◌, Bool, true, false, cond, ◌||◌, List, [], ◌∷◌, map, Some, None, refl, sym, ap, ◌∙◌}
use Rattle.std.specs.List.{list_all}
use Rattle.std.proofs.lemmas.Bool.{true≢false}
use Rattle.clf_tree.specs.declared.model.Clafer.{Clafer}
use Rattle.clf_tree.specs.declared.instance.Node.{Node}
use Rattle.clf_tree.specs.declared.instance.Entry.{Entry}
use Rattle.clf_tree.specs.declared.scopes.Scopes.{Scopes}
use Rattle.clf_tree.specs.Lists.{each_two}
use Rattle.clf_tree.specs.Nodes.{same_node, is_before, has_node, entry_of, is_ordered, is_within}
use Rattle.set_bits.specs.declared.layout.Layout.{Layout}
use Rattle.set_bits.specs.Fitting.{Fits}
use Rattle.shown_instance.specs.Packed.{aligned}
use Rattle.shown_instance.proofs.Order.{both, together, same_nodes, same_itself, after_differs}
use Rattle.shown_instance.proofs.Merging.{later_in, before_member, before_all, not_there}
use Rattle.shown_instance.proofs.Fitted.{slots_ascend, entries_inside}

others_same : (e : Entry) (es : List Entry) (xs : List Node) → list_all (is_before e.node) xs ≡ true → map (entry_of (e ∷ es)) xs ≡ map (entry_of es) xs
others_same e es [] h = refl
others_same e es (y ∷ ys) h =
    let p = both (is_before e.node y) (list_all (is_before e.node) ys) h in
    ap (λ b. cond b (Some e) (entry_of es y) ∷ map (entry_of (e ∷ es)) ys) (after_differs e.node y p.0)
    ∙ ap (λ os. entry_of es y ∷ os) (others_same e es ys p.1)

turned : (m n : Node) (b : Bool) → same_node m n ≡ b → same_node n m ≡ b
turned m n true h = ap (λ x. same_node n x) (same_nodes m n h) ∙ same_itself n
turned m n false h = by (same_node n m) refl
  where
    by : (b : Bool) → same_node n m ≡ b → same_node n m ≡ false
    by false e = e
    by true e = absurd (true≢false (sym (sym h ∙ ap (λ x. same_node m x) (same_nodes n m e) ∙ same_itself m)))

found : (es : List Entry) (xs : List Node) → each_two is_before xs ≡ true → is_ordered es ≡ true → list_all (λ (e : Entry). has_node xs e.node) es ≡ true → aligned xs es ≡ map (entry_of es) xs
found es [] a o h = refl
found [] (x ∷ xs) a o h = ap (λ os. None ∷ os) (found [] xs (both (list_all (is_before x) xs) (each_two is_before xs) a).1 refl refl)
found (e ∷ es) (x ∷ xs) a o h = by (same_node x e.node) refl (found es xs (both (list_all (is_before x) xs) (each_two is_before xs) a).1) (found (e ∷ es) xs (both (list_all (is_before x) xs) (each_two is_before xs) a).1 o)
  where
    p : (list_all (is_before x) xs ≡ true) × (each_two is_before xs ≡ true)
    p = both (list_all (is_before x) xs) (each_two is_before xs) a

    q : (list_all (λ (y : Entry). is_before e.node y.node) es ≡ true) × (is_ordered es ≡ true)
    q = both (list_all (λ (y : Entry). is_before e.node y.node) es) (is_ordered es) o

    r : (has_node (x ∷ xs) e.node ≡ true) × (list_all (λ (y : Entry). has_node (x ∷ xs) y.node) es ≡ true)
    r = both (has_node (x ∷ xs) e.node) (list_all (λ (y : Entry). has_node (x ∷ xs) y.node) es) h

    by : (b : Bool) → same_node x e.node ≡ b → (is_ordered es ≡ true → list_all (λ (y : Entry). has_node xs y.node) es ≡ true → aligned xs es ≡ map (entry_of es) xs)
        → (list_all (λ (y : Entry). has_node xs y.node) (e ∷ es) ≡ true → aligned xs (e ∷ es) ≡ map (entry_of (e ∷ es)) xs)
        → cond (same_node x e.node) (Some e ∷ aligned xs es) (None ∷ aligned xs (e ∷ es)) ≡ cond (same_node x e.node) (Some e) (entry_of es x) ∷ map (entry_of (e ∷ es)) xs
    by true s less more =
        let i : e.node ≡ x = sym (same_nodes x e.node s) in
        let ahead : list_all (λ (y : Entry). is_before x y.node) es ≡ true = ap (λ (n : Node). list_all (λ (y : Entry). is_before n y.node) es) (sym i) ∙ q.0 in
        let after : list_all (is_before e.node) xs ≡ true = ap (λ n. list_all (is_before n) xs) i ∙ p.0 in
        rw s (ap (λ os. Some e ∷ os) (less q.1 (later_in x xs es ahead r.1) ∙ sym (others_same e es xs after)))
    by false s less more =
        let mine : has_node xs e.node ≡ true = sym (ap (λ t. t || has_node xs e.node) (turned x e.node false s)) ∙ r.0 in
        let ahead : is_before x e.node ≡ true = before_member x xs e.node p.0 mine in
        let all : list_all (λ (y : Entry). is_before x y.node) es ≡ true = before_all x e.node es ahead q.0 in
        rw s (ap (λ o. o ∷ aligned xs (e ∷ es)) (sym (not_there x es all)) ∙ ap (λ os. entry_of es x ∷ os) (more (together (has_node xs e.node) (list_all (λ (y : Entry). has_node xs y.node) es) mine (later_in x xs es all r.1))))

pub aligned_found : (clafers : List Clafer) (scopes : Scopes) (layout : Layout) (entries : List Entry) → Fits clafers scopes layout → is_within clafers scopes entries ≡ true → is_ordered entries ≡ true → aligned layout.slots entries ≡ map (entry_of entries) layout.slots
aligned_found clafers scopes layout entries f within ordered =
    found entries layout.slots (ap (each_two is_before) f.slots ∙ slots_ascend clafers scopes) ordered
    (ap (λ slots. list_all (λ (e : Entry). has_node slots e.node) entries) f.slots ∙ entries_inside clafers scopes entries within)
