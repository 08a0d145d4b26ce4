-- Ordered entries are what they say of a longer ordered list of nodes.
use Rattle.std.proofs.Common.{◌≡◌, Bool, true, false, cond, ◌||◌, List, [], ◌∷◌, Some, None, refl, sym, ap, ◌∙◌}
use Rattle.std.specs.List.{filter_map, cons_option, list_all}
use Rattle.std.proofs.lemmas.Bool.{true≢false}
use Rattle.clf_tree.specs.declared.instance.Node.{Node}
use Rattle.clf_tree.specs.declared.instance.Entry.{Entry}
use Rattle.clf_tree.specs.Lists.{each_two}
use Rattle.clf_tree.specs.Nodes.{same_node, is_before, has_node, entry_of, is_ordered}
use Rattle.shown_instance.proofs.Order.{both, together, same_nodes, same_itself, before_trans, before_differs, after_differs}

pub rest_same : (e : Entry) (es : List Entry) (xs : List Node) → list_all (is_before e.node) xs ≡ true → filter_map (entry_of (e ∷ es)) xs ≡ filter_map (entry_of es) xs
rest_same e es [] h = refl
rest_same e es (y ∷ ys) h =
    let p = both (is_before e.node y) (list_all (is_before e.node) ys) h in
    ap (λ b. cons_option (cond b (Some e) (entry_of es y)) (filter_map (entry_of (e ∷ es)) ys)) (after_differs e.node y p.0)
    ∙ ap (cons_option (entry_of es y)) (rest_same e es ys p.1)

pub later_in : (x : Node) (xs : List Node) (es : List Entry) → list_all (λ (e : Entry). is_before x e.node) es ≡ true → list_all (λ (e : Entry). has_node (x ∷ xs) e.node) es ≡ true → list_all (λ (e : Entry). has_node xs e.node) es ≡ true
later_in x xs [] b h = refl
later_in x xs (e ∷ es) b h =
    let p = both (is_before x e.node) (list_all (λ (e : Entry). is_before x e.node) es) b in
    let q = both (has_node (x ∷ xs) e.node) (list_all (λ (e : Entry). has_node (x ∷ xs) e.node) es) h in
    together (has_node xs e.node) (list_all (λ (e : Entry). has_node xs e.node) es) (sym (ap (λ t. t || has_node xs e.node) (after_differs x e.node p.0)) ∙ q.0) (later_in x xs es p.1 q.1)

pub not_there : (x : Node) (es : List Entry) → list_all (λ (e : Entry). is_before x e.node) es ≡ true → entry_of es x ≡ None
not_there x [] h = refl
not_there x (e ∷ es) h =
    let p = both (is_before x e.node) (list_all (λ (e : Entry). is_before x e.node) es) h in
    ap (λ b. cond b (Some e) (entry_of es x)) (before_differs x e.node p.0) ∙ not_there x es p.1

pub before_member : (x : Node) (xs : List Node) (n : Node) → list_all (is_before x) xs ≡ true → has_node xs n ≡ true → is_before x n ≡ true
before_member x [] n h m = absurd (true≢false (sym m))
before_member x (y ∷ ys) n h m = by (same_node n y) refl (before_member x ys n (both (is_before x y) (list_all (is_before x) ys) h).1)
  where
    by : (b : Bool) → same_node n y ≡ b → (has_node ys n ≡ true → is_before x n ≡ true) → is_before x n ≡ true
    by true e rest = ap (is_before x) (same_nodes n y e) ∙ (both (is_before x y) (list_all (is_before x) ys) h).0
    by false e rest = rest (sym (ap (λ t. t || has_node ys n) e) ∙ m)

pub before_all : (x y : Node) (es : List Entry) → is_before x y ≡ true → list_all (λ (e : Entry). is_before y e.node) es ≡ true → list_all (λ (e : Entry). is_before x e.node) es ≡ true
before_all x y [] h b = refl
before_all x y (e ∷ es) h b =
    let p = both (is_before y e.node) (list_all (λ (e : Entry). is_before y e.node) es) b in
    together (is_before x e.node) (list_all (λ (e : Entry). is_before x e.node) es) (before_trans x y e.node h p.0) (before_all x y es h p.1)

pub merged : (es : List Entry) (xs : List Node) → each_two is_before xs ≡ true → is_ordered es ≡ true → list_all (λ (e : Entry). has_node xs e.node) es ≡ true → filter_map (entry_of es) xs ≡ es
merged [] [] a o h = refl
merged [] (x ∷ xs) a o h = merged [] xs (both (list_all (is_before x) xs) (each_two is_before xs) a).1 refl refl
merged (e ∷ es) [] a o h = absurd (true≢false (sym h))
merged (e ∷ es) (x ∷ xs) a o h = by (same_node e.node x) refl (merged es xs (both (list_all (is_before x) xs) (each_two is_before xs) a).1) (merged (e ∷ es) xs (both (list_all (is_before x) xs) (each_two is_before xs) a).1 o)
  where
    p : (list_all (is_before x) xs ≡ true) × (each_two is_before xs ≡ true)
    p = both (list_all (is_before x) xs) (each_two is_before xs) a

    q : (list_all (λ (y : Entry). is_before e.node y.node) es ≡ true) × (is_ordered es ≡ true)
    q = both (list_all (λ (y : Entry). is_before e.node y.node) es) (is_ordered es) o

    r : (has_node (x ∷ xs) e.node ≡ true) × (list_all (λ (y : Entry). has_node (x ∷ xs) y.node) es ≡ true)
    r = both (has_node (x ∷ xs) e.node) (list_all (λ (y : Entry). has_node (x ∷ xs) y.node) es) h

    by : (b : Bool) → same_node e.node x ≡ b → (is_ordered es ≡ true → list_all (λ (y : Entry). has_node xs y.node) es ≡ true → filter_map (entry_of es) xs ≡ es)
        → (list_all (λ (y : Entry). has_node xs y.node) (e ∷ es) ≡ true → filter_map (entry_of (e ∷ es)) xs ≡ e ∷ es) → filter_map (entry_of (e ∷ es)) (x ∷ xs) ≡ e ∷ es
    by true s less more =
        let i : e.node ≡ x = same_nodes e.node x s in
        let here : same_node x e.node ≡ true = ap (λ n. same_node n e.node) (sym i) ∙ same_itself e.node in
        let ahead : list_all (λ (y : Entry). is_before x y.node) es ≡ true = ap (λ (n : Node). list_all (λ (y : Entry). is_before n y.node) es) (sym i) ∙ q.0 in
        let after : list_all (is_before e.node) xs ≡ true = ap (λ n. list_all (is_before n) xs) i ∙ p.0 in
        ap (λ b. cons_option (cond b (Some e) (entry_of es x)) (filter_map (entry_of (e ∷ es)) xs)) here
        ∙ ap (λ ys. e ∷ ys) (rest_same e es xs after ∙ less q.1 (later_in x xs es ahead r.1))
    by false s less more =
        let mine : has_node xs e.node ≡ true = sym (ap (λ t. t || has_node xs e.node) s) ∙ r.0 in
        let ahead : is_before x e.node ≡ true = before_member x xs e.node p.0 mine in
        let all : list_all (λ (y : Entry). is_before x y.node) es ≡ true = before_all x e.node es ahead q.0 in
        ap (λ b. cons_option (cond b (Some e) (entry_of es x)) (filter_map (entry_of (e ∷ es)) xs)) (before_differs x e.node ahead)
        ∙ ap (λ o. cons_option o (filter_map (entry_of (e ∷ es)) xs)) (not_there x es all)
        ∙ more (together (has_node xs e.node) (list_all (λ (y : Entry). has_node xs y.node) es) mine (later_in x xs es all r.1))
