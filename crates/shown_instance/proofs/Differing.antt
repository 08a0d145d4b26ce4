-- Targets of the entries that bits tell, where references are of set kind.
use Rattle.std.proofs.Common.{◌≡◌, ◌≢◌, ℕ, zero, suc, ◌+◌, ◌<◌, ◌≤◌, Bool, true, false, not, cond, ◌&&◌, ◌||◌, List, [], ◌∷◌, length, map, get_or, Option, Some, None, refl, sym, ap, ◌∙◌, subst, arith, ◌⊎◌, inl, inr}
use Rattle.std.specs.Prelude.{slice_get, ◌==◌, is_some, is_none, nat_lt, nat_le, ℤ}
use Rattle.std.specs.Ordering.{int_eq}
use Rattle.std.specs.Option.{option_map_or, option_and_then}
use Rattle.std.specs.List.{filter, find, list_all, list_any, range_with_len, count_by}
use Rattle.std.proofs.lemmas.Bool.{true≢false}
use Rattle.std.proofs.lemmas.Bool.Decides.{eqb_tells, nat_tests}
use Rattle.std.proofs.lemmas.Grind.{common_steps}
use Rattle.std.proofs.lemmas.Option.{slice_get_within}
use Rattle.bool_circuit.specs.Circuit.{entry}
use Rattle.integer_bits.specs.Numbers.{integer_of}
use Rattle.clf_tree.specs.declared.model.Clafer.{Clafer}
use Rattle.clf_tree.specs.declared.model.Reference.{Reference}
use Rattle.clf_tree.specs.declared.instance.Node.{Node}
use Rattle.clf_tree.specs.declared.instance.Target.TheVariants as target
use Rattle.clf_tree.specs.declared.instance.Entry.{Entry}
use Rattle.clf_tree.specs.declared.scopes.Scopes.{Scopes}
use Rattle.clf_tree.specs.Lists.{each_two, numbers_below, has}
use Rattle.clf_tree.specs.Hierarchy as h
use Rattle.clf_tree.specs.Hierarchy.{owners, parent_of, reference_of, refers_to_int, concrete_below, is_a, way_up}
use Rattle.clf_tree.specs.Nodes.{same_node}
use Rattle.clf_tree.specs.Shape.{allows, is_set, same_target, same_option, differ}
use Rattle.set_bits.specs.declared.layout.Edge.{Edge}
use Rattle.set_bits.specs.declared.layout.SlotBits.{SlotBits}
use Rattle.set_bits.specs.declared.layout.Layout.{Layout}
use Rattle.set_bits.specs.Fitting.{slot, slot_clafer, referred, Fits}
use Rattle.set_bits.specs.Showing.{value_bits}
use Rattle.shown_instance.specs.Shown.{shown, entry_at, leads_to, is_taken, is_live, is_at, integer_at, target_of}
use Rattle.shown_instance.specs.Consistent.{has_taken, lead_from_live, are_single, are_edges, are_integers, is_consistent}
use Rattle.shown_instance.specs.Placed.{have_taken, lead_to_live, have_parents, have_targets}
use Rattle.shown_instance.specs.Bounds.{children_below, have_times, have_group, have_bounds}
use Rattle.shown_instance.specs.Distinct.{leads_there, lead_together, allows_two, tells_apart, are_compared, targets_differ, integers_differ, have_sets}
use Rattle.shown_instance.proofs.Order.{both, together}
use Rattle.shown_instance.proofs.Adapting.{all_pass, any_passes}
use Rattle.shown_instance.proofs.Telling.{slot_at}
use Rattle.shown_instance.proofs.Fitted.{values_inside}
use Rattle.shown_instance.proofs.Once.{each_two-map, two_at}
use Rattle.shown_instance.proofs.Counts.{IsSound, found_has, same_slots, count-cons}
use Rattle.shown_instance.proofs.Whole.{numbers_at, sound_edges}
use Rattle.shown_instance.proofs.Valued.{edges_near, leads_near, no_edge, int_refers_to_none, integer_where_referred, own_integer, numbers_ascend, some_any}
use Rattle.shown_instance.proofs.Placing.{same_truth, same_number, implied, any_find, AreRight, right_edges, below_is}

-- ---- each two items

pub each_from : (t : ℕ → ℕ → Bool) (a m : ℕ) → ((i j : ℕ) → a ≤ i → i < j → j < a + m → t i j ≡ true) → each_two t (range_with_len a m) ≡ true
each_from t a zero f = refl
each_from t a (suc m) f =
    together (list_all (t a) (range_with_len (a + 1) m)) (each_two t (range_with_len (a + 1) m)) (all_from (a + 1) m (λ j low high. f a j (omega arith) (omega (arith, low)) (omega (arith, high))))
    (each_from t (a + 1) m (λ i j low less high. f i j (omega (arith, low)) less (omega (arith, high))))
  where
    all_from : (b k : ℕ) → ((j : ℕ) → b ≤ j → j < b + k → t a j ≡ true) → list_all (t a) (range_with_len b k) ≡ true
    all_from b zero g = refl
    all_from b (suc k) g = together (t a b) (list_all (t a) (range_with_len (b + 1) k)) (g b (omega arith) (omega arith)) (all_from (b + 1) k (λ j low high. g j (omega (arith, low)) (omega (arith, high))))

pub each_at : (t : ℕ → ℕ → Bool) (a m i j : ℕ) → each_two t (range_with_len a m) ≡ true → a ≤ i → i < j → j < a + m → t i j ≡ true
each_at t a zero i j e low less high = absurd (omega (arith, low, less, high))
each_at t a (suc m) i j e low less high = by (eqb_tells a i) (λ next. each_at t (a + 1) m i j p.1 next less (omega (arith, high)))
  where
    p : (list_all (t a) (range_with_len (a + 1) m) ≡ true) × (each_two t (range_with_len (a + 1) m) ≡ true)
    p = both (list_all (t a) (range_with_len (a + 1) m)) (each_two t (range_with_len (a + 1) m)) e

    later : (a i : ℕ) → a ≤ i → a ≢ i → a + 1 ≤ i
    later a i h ne = grind (arith, common_steps)

    by : (((a == i) ≡ true) × (a ≡ i)) ⊎ (((a == i) ≡ false) × (a ≢ i)) → (a + 1 ≤ i → t i j ≡ true) → t i j ≡ true
    by (inl q) more = let s = q.1 in subst (λ k. t k j ≡ true) s (numbers_at (t a) (a + 1) m j p.0 (omega (arith, s, less)) (omega (arith, high)))
    by (inr q) more = more (later a i low q.1)

pub two_from : {X : Type 0} (t : X → X → Bool) (xs : List X) → ((k l : ℕ) (d : X) → k < l → l < length xs → t (get_or xs k d) (get_or xs l d) ≡ true) → each_two t xs ≡ true
two_from t [] f = refl
two_from t (x ∷ xs) f =
    together (list_all (t x) xs) (each_two t xs) (all_of xs (λ l d less. f 0 (suc l) d (omega arith) (omega (arith, less))))
    (two_from t xs (λ k l d less high. f (suc k) (suc l) d (omega (arith, less)) (omega (arith, high))))
  where
    all_of : (ys : List _) → ((l : ℕ) (d : _) → l < length ys → t x (get_or ys l d) ≡ true) → list_all (t x) ys ≡ true
    all_of [] g = refl
    all_of (y ∷ ys) g = together (t x y) (list_all (t x) ys) (g 0 y (omega arith)) (all_of ys (λ l d less. g (suc l) d (omega (arith, less))))

-- what holds of each two entries that are told holds of those of each two live slots
told_all : (q : Entry → Bool) (g : ℕ → Entry) (l : ℕ → Bool) (xs : List ℕ) → list_all q (map g (filter l xs)) ≡ list_all (λ j. not (l j) || q (g j)) xs
told_all q g l [] = refl
told_all q g l (x ∷ xs) = by (l x) (told_all q g l xs)
  where
    by : (b : Bool) → list_all q (map g (filter l xs)) ≡ list_all (λ j. not (l j) || q (g j)) xs → list_all q (map g (cond b (x ∷ filter l xs) (filter l xs))) ≡ ((not b || q (g x)) && list_all (λ j. not (l j) || q (g j)) xs)
    by true rest = ap (λ b. q (g x) && b) rest
    by false rest = rest

all_free : (xs : List ℕ) → list_all (λ (j : ℕ). true) xs ≡ true
all_free [] = refl
all_free (x ∷ xs) = all_free xs

pub told_two : (t : Entry → Entry → Bool) (g : ℕ → Entry) (l : ℕ → Bool) (xs : List ℕ) → each_two t (map g (filter l xs)) ≡ each_two (λ i j. not (l i && l j) || t (g i) (g j)) xs
told_two t g l [] = refl
told_two t g l (x ∷ xs) = by (l x) (told_two t g l xs)
  where
    rest : Bool
    rest = each_two (λ i j. not (l i && l j) || t (g i) (g j)) xs

    by : (b : Bool) → each_two t (map g (filter l xs)) ≡ rest → each_two t (map g (cond b (x ∷ filter l xs) (filter l xs))) ≡ (list_all (λ j. not (b && l j) || t (g x) (g j)) xs && rest)
    by true more = ap (λ b. b && each_two t (map g (filter l xs))) (told_all (t (g x)) g l xs) ∙ ap (λ b. list_all (λ j. not (l j) || t (g x) (g j)) xs && b) more
    by false more = more ∙ ap (λ b. b && rest) (sym (all_free xs))

-- ---- where taken edges lead

any_none : {X : Type 0} (p q : X → Bool) (xs : List X) → count_by p xs ≡ 0 → list_any (λ x. p x && q x) xs ≡ false
any_none p q [] h = refl
any_none p q (x ∷ xs) h = by (p x) refl (any_none p q xs)
  where
    by : (b : Bool) → p x ≡ b → (count_by p xs ≡ 0 → list_any (λ y. p y && q y) xs ≡ false) → ((p x && q x) || list_any (λ y. p y && q y) xs) ≡ false
    by true t rest = let c = count-cons p x xs ∙ ap (λ b. cond b 1 0 + count_by p xs) t in absurd (omega (arith, c, h))
    by false t rest = let c = count-cons p x xs ∙ ap (λ b. cond b 1 0 + count_by p xs) t in ap (λ b. (b && q x) || list_any (λ y. p y && q y) xs) t ∙ rest (omega (arith, c, h))

-- where one item at most passes, what holds of some that passes holds of it
any_one : {X : Type 0} (p q : X → Bool) (xs : List X) (f : X) → count_by p xs ≤ 1 → find p xs ≡ Some f → list_any (λ x. p x && q x) xs ≡ q f
any_one p q [] f c h = absurd (true≢false (sym (ap (λ o. option_map_or (λ y. true) o false) h)))
any_one p q (x ∷ xs) f c h = by (p x) refl (any_one p q xs f)
  where
    or_false : (b : Bool) → (b || false) ≡ b
    or_false true = refl
    or_false false = refl

    by : (b : Bool) → p x ≡ b → (count_by p xs ≤ 1 → find p xs ≡ Some f → list_any (λ y. p y && q y) xs ≡ q f) → ((p x && q x) || list_any (λ y. p y && q y) xs) ≡ q f
    by true t rest =
        let n = count-cons p x xs ∙ ap (λ b. cond b 1 0 + count_by p xs) t in
        let same : x ≡ f = ap (λ o. option_map_or (λ y. y) o x) (sym (ap (λ b. cond b (Some x) (find p xs)) t) ∙ h) in
        ap (λ b. (b && q x) || list_any (λ y. p y && q y) xs) t ∙ ap (λ b. q x || b) (any_none p q xs (omega (arith, n, c))) ∙ or_false (q x) ∙ ap q same
    by false t rest =
        let n = count-cons p x xs ∙ ap (λ b. cond b 1 0 + count_by p xs) t in
        ap (λ b. (b && q x) || list_any (λ y. p y && q y) xs) t ∙ rest (omega (arith, n, c)) (sym (ap (λ b. cond b (Some x) (find p xs)) t) ∙ h)

abbrev lead : List Node → Option Edge → Option Node
lead slots o = option_and_then (λ (x : Edge). slice_get slots x.to) o

-- two slots of which an edge is taken are tied to one node exactly where these lead to one slot
tied_alike : (near : ℕ → List ℕ) (layout : Layout) (edges : List Edge) (bits : List Bool) → AreRight near layout edges bits → (i j : ℕ) → has_taken edges bits i ≡ true → has_taken edges bits j ≡ true
    → same_option same_node (leads_to layout.slots edges bits i) (leads_to layout.slots edges bits j) ≡ lead_together edges bits i j
tied_alike near layout edges bits r i j here there = by (find (is_taken bits i) edges) (find (is_taken bits j) edges) refl refl
  where
    by : (o p : Option Edge) → find (is_taken bits i) edges ≡ o → find (is_taken bits j) edges ≡ p → same_option same_node (leads_to layout.slots edges bits i) (leads_to layout.slots edges bits j) ≡ lead_together edges bits i j
    by None p e f = absurd (true≢false (sym here ∙ any_find (is_taken bits i) edges ∙ ap is_some e))
    by (Some x) None e f = absurd (true≢false (sym there ∙ any_find (is_taken bits j) edges ∙ ap is_some f))
    by (Some x) (Some y) e f =
        let u = (found_has (is_taken bits i) (IsSound layout bits) edges x e r.sound).1 in
        let w = (found_has (is_taken bits j) (IsSound layout bits) edges y f r.sound).1 in
        ap (λ o. same_option same_node (lead layout.slots o) (leads_to layout.slots edges bits j)) e ∙ ap (λ o. same_option same_node (lead layout.slots (Some x)) (lead layout.slots o)) f
        ∙ ap (λ o. same_option same_node o (slice_get layout.slots y.to)) (slot_at layout.slots x.to u.to_in) ∙ ap (λ o. same_option same_node (Some (slot layout.slots x.to)) o) (slot_at layout.slots y.to w.to_in)
        ∙ same_slots layout.slots y.to x.to r.asc w.to_in u.to_in
        ∙ sym (any_one (is_taken bits i) (λ z. leads_there edges bits j z.to) edges x (r.single i) e ∙ any_one (is_taken bits j) (λ z. z.to == x.to) edges y (r.single j) f)

-- an edge by which a slot is tied to the same node as another one
taken_from_live : (near : ℕ → List ℕ) (layout : Layout) (edges : List Edge) (bits : List Bool) → AreRight near layout edges bits → (i : ℕ) → has_taken edges bits i ≡ true → is_live layout bits i ≡ true
taken_from_live near layout edges bits r i h =
    let t = any_passes (is_taken bits i) edges h in
    let s : IsSound layout bits t.it = subst (IsSound layout bits) t.there (r.sound t.place t.it t.within) in
    let q = both (t.it.from == i) (entry bits t.it.here) t.passes in
    subst (λ k. is_live layout bits k ≡ true) (same_number t.it.from i q.0) (s.lives q.1)

any_weaker : {X : Type 0} (p q : X → Bool) (xs : List X) → ((x : X) → p x ≡ true → q x ≡ true) → list_any p xs ≡ true → list_any q xs ≡ true
any_weaker p q [] f h = absurd (true≢false (sym h))
any_weaker p q (x ∷ xs) f h = by (p x) refl (any_weaker p q xs f)
  where
    right : (b : Bool) → (b || true) ≡ true
    right true = refl
    right false = refl

    by : (b : Bool) → p x ≡ b → (list_any p xs ≡ true → list_any q xs ≡ true) → (q x || list_any q xs) ≡ true
    by true t rest = ap (λ b. b || list_any q xs) (f x t)
    by false t rest = ap (λ b. q x || b) (rest (sym (ap (λ b. b || list_any p xs) t) ∙ h)) ∙ right (q x)

first_tied : (edges : List Edge) (bits : List Bool) (i j : ℕ) → lead_together edges bits i j ≡ true → has_taken edges bits i ≡ true
first_tied edges bits i j h = any_weaker (λ e. is_taken bits i e && leads_there edges bits j e.to) (is_taken bits i) edges (λ e t. (both (is_taken bits i e) (leads_there edges bits j e.to) t).0) h

second_tied : (edges : List Edge) (bits : List Bool) (i j : ℕ) → lead_together edges bits i j ≡ true → has_taken edges bits j ≡ true
second_tied edges bits i j h =
    let t = any_passes (λ e. is_taken bits i e && leads_there edges bits j e.to) edges h in
    any_weaker (λ e. is_taken bits j e && (e.to == t.it.to)) (is_taken bits j) edges (λ e u. (both (is_taken bits j e) (e.to == t.it.to) u).0) (both (is_taken bits i t.it) (leads_there edges bits j t.it.to) t.passes).1

-- ---- two instances below one parent

counts_some : {X : Type 0} (p : X → Bool) (xs : List X) → list_any p xs ≡ true → 1 ≤ count_by p xs
counts_some p [] h = absurd (true≢false (sym h))
counts_some p (x ∷ xs) h = let c = count-cons p x xs in by (p x) refl c (counts_some p xs)
  where
    by : (b : Bool) → p x ≡ b → count_by p (x ∷ xs) ≡ cond (p x) 1 0 + count_by p xs → (list_any p xs ≡ true → 1 ≤ count_by p xs) → 1 ≤ count_by p (x ∷ xs)
    by true t c rest = let d = c ∙ ap (λ b. cond b 1 0 + count_by p xs) t in omega (arith, d)
    by false t c rest = let d = c ∙ ap (λ b. cond b 1 0 + count_by p xs) t in let r = rest (sym (ap (λ b. b || list_any p xs) t) ∙ h) in omega (arith, d, r)

counts_both : {X : Type 0} (p q r : X → Bool) (xs : List X) → ((x : X) → p x ≡ true → r x ≡ true) → ((x : X) → q x ≡ true → r x ≡ true) → ((x : X) → p x ≡ true → q x ≡ true → ⊥) → count_by p xs + count_by q xs ≤ count_by r xs
counts_both p q r [] f g apart = omega arith
counts_both p q r (x ∷ xs) f g apart =
    let a = count-cons p x xs in
    let b = count-cons q x xs in
    let c = count-cons r x xs in
    let d = counts_both p q r xs f g apart in
    let e = at (p x) (q x) (r x) (f x) (g x) (apart x) in
    omega (arith, a, b, c, d, e)
  where
    at : (a b c : Bool) → (a ≡ true → c ≡ true) → (b ≡ true → c ≡ true) → (a ≡ true → b ≡ true → ⊥) → cond a 1 0 + cond b 1 0 ≤ cond c 1 0
    at true true c f g n = absurd (n refl refl)
    at true false true f g n = omega arith
    at true false false f g n = absurd (true≢false (sym (f refl)))
    at false true true f g n = omega arith
    at false true false f g n = absurd (true≢false (sym (g refl)))
    at false false true f g n = omega arith
    at false false false f g n = omega arith

itself : (n : ℕ) → (n == n) ≡ true
itself n = grind (arith, common_steps)

is_a_itself : (clafers : List Clafer) (c : ℕ) → is_a clafers c c ≡ true
is_a_itself clafers c = on_way (length clafers)
  where
    on_way : (n : ℕ) → has (way_up clafers n c) c ≡ true
    on_way zero = ap (λ b. b || false) (itself c)
    on_way (suc n) = ap (λ b. b || has (option_map_or (way_up clafers n) (h.super_of clafers c) []) c) (itself c)

-- two slots of a clafer that lead to one slot are two of its children
two_children : (clafers : List Clafer) (layout : Layout) (bits : List Bool) (c i j s : ℕ) → i < j → slot_clafer layout.slots i ≡ c → slot_clafer layout.slots j ≡ c → leads_there layout.parents bits i s ≡ true → leads_there layout.parents bits j s ≡ true
    → 2 ≤ children_below layout bits (λ d. is_a clafers d c) s
two_children clafers layout bits c i j s less ci cj here there =
    let a = counts_some (λ (e : Edge). is_taken bits i e && (e.to == s)) layout.parents here in
    let b = counts_some (λ (e : Edge). is_taken bits j e && (e.to == s)) layout.parents there in
    let d = counts_both (λ (e : Edge). is_taken bits i e && (e.to == s)) (λ (e : Edge). is_taken bits j e && (e.to == s)) (λ (e : Edge). ((e.to == s) && is_a clafers (slot_clafer layout.slots e.from) c) && entry bits e.here) layout.parents
    (λ e t. child i e ci t) (λ e t. child j e cj t) (λ e t u. apart e t u) in
    omega (arith, a, b, d)
  where
    child : (k : ℕ) (e : Edge) → slot_clafer layout.slots k ≡ c → (is_taken bits k e && (e.to == s)) ≡ true → (((e.to == s) && is_a clafers (slot_clafer layout.slots e.from) c) && entry bits e.here) ≡ true
    child k e ck t =
        let p = both (is_taken bits k e) (e.to == s) t in
        let q = both (e.from == k) (entry bits e.here) p.0 in
        together ((e.to == s) && is_a clafers (slot_clafer layout.slots e.from) c) (entry bits e.here)
        (together (e.to == s) (is_a clafers (slot_clafer layout.slots e.from) c) p.1 (ap (λ d. is_a clafers d c) (ap (slot_clafer layout.slots) (same_number e.from k q.0) ∙ ck) ∙ is_a_itself clafers c)) q.1

    apart : (e : Edge) → (is_taken bits i e && (e.to == s)) ≡ true → (is_taken bits j e && (e.to == s)) ≡ true → ⊥
    apart e t u =
        let p = same_number e.from i (both (e.from == i) (entry bits e.here) (both (is_taken bits i e) (e.to == s) t).0).0 in
        let q = same_number e.from j (both (e.from == j) (entry bits e.here) (both (is_taken bits j e) (e.to == s) u).0).0 in
        omega (arith, less, p, q)

-- ---- the whole

-- what is known of the bits
record AreTold (clafers : List Clafer) (scopes : Scopes) (layout : Layout) (bits : List Bool) : Type 0 where
  fits : Fits clafers scopes layout
  parents : AreRight (owners clafers) layout layout.parents bits
  targets : AreRight (referred clafers) layout layout.targets bits
  has_parents : have_taken (λ c. is_some (parent_of clafers c)) layout layout.parents bits ≡ true
  live_parents : lead_to_live layout layout.parents bits ≡ true
  has_targets : have_taken (λ c. is_some (h.target_of clafers c)) layout layout.targets bits ≡ true
  bounds : have_bounds clafers layout bits ≡ true

tied_where_asked : (asks : ℕ → Bool) (layout : Layout) (edges : List Edge) (bits : List Bool) (i : ℕ) → have_taken asks layout edges bits ≡ true → i < length layout.slots → is_live layout bits i ≡ true → asks (slot_clafer layout.slots i) ≡ true → has_taken edges bits i ≡ true
tied_where_asked asks layout edges bits i have l live asked =
    implied (is_live layout bits i && asks (slot_clafer layout.slots i)) (has_taken edges bits i)
    (numbers_at (λ j. not (is_live layout bits j && asks (slot_clafer layout.slots j)) || has_taken edges bits j) 0 (length layout.slots) i have (omega arith) (omega (arith, l)))
    (together (is_live layout bits i) (asks (slot_clafer layout.slots i)) live asked)

-- two live slots of one clafer have one parent, or none, exactly where they are of no nested clafer or lead to one slot
parents_alike : (clafers : List Clafer) (scopes : Scopes) (layout : Layout) (bits : List Bool) → AreTold clafers scopes layout bits → (i j : ℕ) → i < length layout.slots → j < length layout.slots → is_live layout bits i ≡ true → is_live layout bits j ≡ true
    → slot_clafer layout.slots j ≡ slot_clafer layout.slots i
    → same_option same_node (leads_to layout.slots layout.parents bits i) (leads_to layout.slots layout.parents bits j) ≡ (is_none (parent_of clafers (slot_clafer layout.slots i)) || lead_together layout.parents bits i j)
parents_alike clafers scopes layout bits k i j hi hj li lj same = by (parent_of clafers (slot_clafer layout.slots i)) refl
  where
    c : ℕ
    c = slot_clafer layout.slots i

    by : (o : Option ℕ) → parent_of clafers c ≡ o → same_option same_node (leads_to layout.slots layout.parents bits i) (leads_to layout.slots layout.parents bits j) ≡ (is_none (parent_of clafers c) || lead_together layout.parents bits i j)
    by None e =
        let alone = ap (λ o. option_map_or (concrete_below clafers) o []) e in
        let one = no_edge (owners clafers) layout.slots layout.parents bits i k.parents.close alone in
        let two = no_edge (owners clafers) layout.slots layout.parents bits j k.parents.close (ap (owners clafers) same ∙ alone) in
        ap (λ o. same_option same_node (lead layout.slots o) (leads_to layout.slots layout.parents bits j)) one ∙ ap (λ o. same_option same_node None (lead layout.slots o)) two
        ∙ sym (ap (λ o. is_none o || lead_together layout.parents bits i j) e)
    by (Some q) e =
        let nested = ap is_some e in
        tied_alike (owners clafers) layout layout.parents bits k.parents i j
        (tied_where_asked (λ d. is_some (parent_of clafers d)) layout layout.parents bits i k.has_parents hi li nested)
        (tied_where_asked (λ d. is_some (parent_of clafers d)) layout layout.parents bits j k.has_parents hj lj (ap (λ d. is_some (parent_of clafers d)) same ∙ nested))
        ∙ sym (ap (λ o. is_none o || lead_together layout.parents bits i j) e)

or_true : (b : Bool) → (b || true) ≡ true
or_true true = refl
or_true false = refl

pub any_there : {X : Type 0} (p : X → Bool) (xs : List X) (x : X) (n : ℕ) → n < length xs → get_or xs n x ≡ x → p x ≡ true → list_any p xs ≡ true
any_there p [] x n m g h = absurd (omega (arith, m))
any_there p (y ∷ ys) x zero m g h = ap (λ b. b || list_any p ys) (ap p g ∙ h)
any_there p (y ∷ ys) x (suc n) m g h = ap (λ b. p y || b) (any_there p ys x n (omega (arith, m)) g h) ∙ or_true (p y)

-- a nested clafer of which two slots lead to one slot allows for two
allowed_two : (clafers : List Clafer) (scopes : Scopes) (layout : Layout) (bits : List Bool) → AreTold clafers scopes layout bits → (i j : ℕ) → i < j → j < length layout.slots → slot_clafer layout.slots j ≡ slot_clafer layout.slots i
    → (is_none (parent_of clafers (slot_clafer layout.slots i)) || lead_together layout.parents bits i j) ≡ true
    → option_map_or (λ (x : Clafer). is_none x.parent || allows_two x.times) (slice_get clafers (slot_clafer layout.slots i)) true ≡ true
allowed_two clafers scopes layout bits k i j less hj same alike = by (slice_get clafers c) refl
  where
    c : ℕ
    c = slot_clafer layout.slots i

    high_one : (low n : ℕ) (o : Option ℕ) → (nat_le low n && option_map_or (λ high. nat_le n high) o true) ≡ true → 2 ≤ n → option_map_or (λ high. nat_lt 1 high) o true ≡ true
    high_one low n None t two = refl
    high_one low n (Some high) t two = above n high (both (nat_le low n) (nat_le n high) t).1 two
      where
        above : (n high : ℕ) → nat_le n high ≡ true → 2 ≤ n → nat_lt 1 high ≡ true
        above n high t two = grind (arith, nat_tests)

    nested : (x : Clafer) (p : ℕ) → slice_get clafers c ≡ Some x → x.parent ≡ Some p → lead_together layout.parents bits i j ≡ true → allows_two x.times ≡ true
    nested x p e q joined =
        let t = any_passes (λ (d : Edge). is_taken bits i d && leads_there layout.parents bits j d.to) layout.parents joined in
        let f : Edge = t.it in
        let pass = both (is_taken bits i f) (leads_there layout.parents bits j f.to) t.passes in
        let taken = both (f.from == i) (entry bits f.here) pass.0 in
        let sound : IsSound layout bits f = subst (IsSound layout bits) t.there (k.parents.sound t.place f t.within) in
        let live : is_live layout bits f.to ≡ true = implied (entry bits f.here) (is_live layout bits f.to) (subst (λ (d : Edge). (not (entry bits d.here) || is_live layout bits d.to) ≡ true) t.there (all_pass (λ (d : Edge). not (entry bits d.here) || is_live layout bits d.to) layout.parents k.live_parents t.place f t.within)) taken.1 in
        let close : has (owners clafers (slot_clafer layout.slots f.from)) (slot_clafer layout.slots f.to) ≡ true = subst (λ (d : Edge). leads_near (owners clafers) layout.slots d ≡ true) t.there (all_pass (leads_near (owners clafers) layout.slots) layout.parents k.parents.close t.place f t.within) in
        let of_parent : parent_of clafers c ≡ Some p = ap (option_and_then (λ (y : Clafer). y.parent)) e ∙ q in
        let kind : is_a clafers (slot_clafer layout.slots f.to) p ≡ true =
        below_is clafers p (slot_clafer layout.slots f.to) (sym (ap (λ n. has (owners clafers (slot_clafer layout.slots n)) (slot_clafer layout.slots f.to)) (same_number f.from i taken.0) ∙ ap (λ o. has (option_map_or (concrete_below clafers) o []) (slot_clafer layout.slots f.to)) of_parent) ∙ close) in
        let mine : leads_there layout.parents bits i f.to ≡ true = any_there (λ (d : Edge). is_taken bits i d && (d.to == f.to)) layout.parents f t.place t.within t.there (together (is_taken bits i f) (f.to == f.to) pass.0 (itself f.to)) in
        let two = two_children clafers layout bits c i j f.to less refl same mine pass.1 in
        let met = numbers_at (λ d. option_map_or (λ y. have_times clafers layout bits d y && have_group clafers layout bits d y) (slice_get clafers d) true) 0 (length clafers) c k.bounds (omega arith) (let w = slice_get_within clafers c x e in omega (arith, w)) in
        let times = (both (have_times clafers layout bits c x) (have_group clafers layout bits c x) (sym (ap (λ o. option_map_or (λ y. have_times clafers layout bits c y && have_group clafers layout bits c y) o true) e) ∙ met)).0 in
        let below = sym (ap (λ o. option_map_or (λ p. list_all (λ s. not (is_live layout bits s && is_a clafers (slot_clafer layout.slots s) p) || allows x.times (children_below layout bits (λ d. is_a clafers d c) s)) (numbers_below (length layout.slots))) o (allows x.times (live_count x))) q) ∙ times in
        let here = implied (is_live layout bits f.to && is_a clafers (slot_clafer layout.slots f.to) p) (allows x.times (children_below layout bits (λ d. is_a clafers d c) f.to))
        (numbers_at (λ s. not (is_live layout bits s && is_a clafers (slot_clafer layout.slots s) p) || allows x.times (children_below layout bits (λ d. is_a clafers d c) s)) 0 (length layout.slots) f.to below (omega arith) (let w = sound.to_in in omega (arith, w)))
        (together (is_live layout bits f.to) (is_a clafers (slot_clafer layout.slots f.to) p) live kind) in
        high_one x.times.low (children_below layout bits (λ d. is_a clafers d c) f.to) x.times.high here two
      where
        live_count : Clafer → ℕ
        live_count y = count_by (λ s. is_live layout bits s && is_a clafers (slot_clafer layout.slots s) c) (numbers_below (length layout.slots))

    by : (o : Option Clafer) → slice_get clafers c ≡ o → option_map_or (λ (x : Clafer). is_none x.parent || allows_two x.times) (slice_get clafers c) true ≡ true
    by None e = ap (λ o. option_map_or (λ (x : Clafer). is_none x.parent || allows_two x.times) o true) e
    by (Some x) e = ap (λ o. option_map_or (λ (x : Clafer). is_none x.parent || allows_two x.times) o true) e ∙ at x.parent refl
      where
        at : (o : Option ℕ) → x.parent ≡ o → (is_none x.parent || allows_two x.times) ≡ true
        at None q = ap (λ o. is_none o || allows_two x.times) q
        at (Some p) q =
            ap (λ o. is_none o || allows_two x.times) q
            ∙ nested x p e q (sym (ap (λ o. is_none o || lead_together layout.parents bits i j) (ap (option_and_then (λ (y : Clafer). y.parent)) e ∙ q)) ∙ alike)

-- ---- what two slots refer to

nodes_alike : (a b : Option Node) (y z : Option ℤ) → is_some a ≡ true → is_some b ≡ true → same_option same_target (target_of a y) (target_of b z) ≡ same_option same_node a b
nodes_alike None b y z p q = absurd (true≢false (sym p))
nodes_alike (Some m) None y z p q = absurd (true≢false (sym q))
nodes_alike (Some m) (Some n) y z p q = refl

leads_somewhere : (near : ℕ → List ℕ) (layout : Layout) (edges : List Edge) (bits : List Bool) → AreRight near layout edges bits → (i : ℕ) → has_taken edges bits i ≡ true → is_some (leads_to layout.slots edges bits i) ≡ true
leads_somewhere near layout edges bits r i h = by (find (is_taken bits i) edges) refl
  where
    by : (o : Option Edge) → find (is_taken bits i) edges ≡ o → is_some (leads_to layout.slots edges bits i) ≡ true
    by None e = absurd (true≢false (sym h ∙ any_find (is_taken bits i) edges ∙ ap is_some e))
    by (Some x) e =
        let u = (found_has (is_taken bits i) (IsSound layout bits) edges x e r.sound).1 in
        ap (λ o. is_some (lead layout.slots o)) e ∙ ap is_some (slot_at layout.slots x.to u.to_in)

-- two slots of which an edge is taken refer to one node exactly where these lead to one slot
targets_alike : (clafers : List Clafer) (scopes : Scopes) (layout : Layout) (bits : List Bool) → AreTold clafers scopes layout bits → (i j : ℕ) → has_taken layout.targets bits i ≡ true → has_taken layout.targets bits j ≡ true
    → same_option same_target (entry_at layout bits i).target (entry_at layout bits j).target ≡ lead_together layout.targets bits i j
targets_alike clafers scopes layout bits k i j here there =
    nodes_alike (leads_to layout.slots layout.targets bits i) (leads_to layout.slots layout.targets bits j) (integer_at layout.values bits i) (integer_at layout.values bits j)
    (leads_somewhere (referred clafers) layout layout.targets bits k.targets i here) (leads_somewhere (referred clafers) layout layout.targets bits k.targets j there)
    ∙ tied_alike (referred clafers) layout layout.targets bits k.targets i j here there

-- the target of a slot with an integer
integer_target : (clafers : List Clafer) (scopes : Scopes) (layout : Layout) (bits : List Bool) → AreTold clafers scopes layout bits → (i : ℕ) (z : ℤ) → refers_to_int clafers (slot_clafer layout.slots i) ≡ true → integer_at layout.values bits i ≡ Some z
    → (entry_at layout bits i).target ≡ Some (target.Int z)
integer_target clafers scopes layout bits k i z int e =
    ap (λ o. target_of (lead layout.slots o) (integer_at layout.values bits i)) (no_edge (referred clafers) layout.slots layout.targets bits i k.targets.close (int_refers_to_none clafers (slot_clafer layout.slots i) int))
    ∙ ap (target_of None) e

-- ---- both ways

ascending : (clafers : List Clafer) (scopes : Scopes) (layout : Layout) → Fits clafers scopes layout → each_two (λ (v w : SlotBits). nat_lt v.slot w.slot) layout.values ≡ true
ascending clafers scopes layout f = sym (each_two-map nat_lt (λ (v : SlotBits). v.slot) layout.values) ∙ ap (each_two nat_lt) f.values ∙ numbers_ascend (λ i. refers_to_int clafers (slot_clafer layout.slots i)) 0 (length layout.slots)

less : (a b : ℕ) → nat_lt a b ≡ true → a < b
less a b h = grind (arith, nat_tests)

-- the integer of a slot
record HasInteger (layout : Layout) (bits : List Bool) (i : ℕ) : Type 0 where
  it : SlotBits
  place : ℕ
  within : place < length layout.values
  there : get_or layout.values place it ≡ it
  slot_is : it.slot ≡ i
  value : integer_at layout.values bits i ≡ Some (integer_of (value_bits bits it))

has_integer : (clafers : List Clafer) (scopes : Scopes) (layout : Layout) (bits : List Bool) → Fits clafers scopes layout → (i : ℕ) → i < length layout.slots → refers_to_int clafers (slot_clafer layout.slots i) ≡ true → HasInteger layout bits i
has_integer clafers scopes layout bits f i l int =
    let p = any_passes (is_at i) layout.values (sym (some_any (is_at i) (λ (v : SlotBits). integer_of (value_bits bits v)) layout.values) ∙ integer_where_referred clafers scopes layout bits i f l ∙ int) in
    let at : p.it.slot ≡ i = same_number p.it.slot i p.passes in
    record {
      it = p.it;
      place = p.place;
      within = p.within;
      there = p.there;
      slot_is = at;
      value = ap (integer_at layout.values bits) (sym at) ∙ subst (λ (v : SlotBits). integer_at layout.values bits v.slot ≡ Some (integer_of (value_bits bits v))) p.there (own_integer clafers scopes layout bits f p.place p.it p.within);
    }

-- two slots of a clafer that refers to integers have one target exactly where their integers are equal
integers_alike : (clafers : List Clafer) (scopes : Scopes) (layout : Layout) (bits : List Bool) → AreTold clafers scopes layout bits → (i j : ℕ) (y z : ℤ) → refers_to_int clafers (slot_clafer layout.slots i) ≡ true → slot_clafer layout.slots j ≡ slot_clafer layout.slots i
    → integer_at layout.values bits i ≡ Some y → integer_at layout.values bits j ≡ Some z → same_option same_target (entry_at layout bits i).target (entry_at layout bits j).target ≡ int_eq y z
integers_alike clafers scopes layout bits k i j y z int same e f =
    ap (λ o. same_option same_target o (entry_at layout bits j).target) (integer_target clafers scopes layout bits k i y int e)
    ∙ ap (λ o. same_option same_target (Some (target.Int y)) o) (integer_target clafers scopes layout bits k j z (ap (refers_to_int clafers) same ∙ int) f)

place_before : (values : List SlotBits) (v w : SlotBits) (k l : ℕ) → each_two (λ (x y : SlotBits). nat_lt x.slot y.slot) values ≡ true → k < length values → l < length values → get_or values k v ≡ v → get_or values l w ≡ w → v.slot < w.slot → k < l
place_before values v w k l asc m n e f before = by (nat_lt k l) refl (eqb_tells k l)
  where
    greater : (k l : ℕ) → nat_lt k l ≡ false → k ≢ l → l < k
    greater k l h ne = grind (arith, nat_tests, common_steps)

    same_item : (xs : List SlotBits) (i : ℕ) (c d : SlotBits) → i < length xs → get_or xs i c ≡ get_or xs i d
    same_item [] i c d h = absurd (omega (arith, h))
    same_item (x ∷ xs) zero c d h = refl
    same_item (x ∷ xs) (suc i) c d h = same_item xs i c d (omega (arith, h))

    by : (b : Bool) → nat_lt k l ≡ b → (((k == l) ≡ true) × (k ≡ l)) ⊎ (((k == l) ≡ false) × (k ≢ l)) → k < l
    by true t s = less k l t
    by false t (inl s) =
        let same : v ≡ w = sym e ∙ ap (λ i. get_or values i v) s.1 ∙ same_item values l v w n ∙ f in
        let slots : v.slot ≡ w.slot = ap (λ (x : SlotBits). x.slot) same in
        absurd (omega (arith, slots, before))
    by false t (inr s) =
        let back : nat_lt (get_or values l w).slot (get_or values k v).slot ≡ true = two_at (λ (x y : SlotBits). nat_lt x.slot y.slot) values l k w v asc (greater k l t s.1) m in
        let turned : w.slot < v.slot = less w.slot v.slot (sym (ap (λ (x : SlotBits). nat_lt x.slot (get_or values k v).slot) f ∙ ap (λ (x : SlotBits). nat_lt w.slot x.slot) e) ∙ back) in
        absurd (omega (arith, turned, before))

-- the parts of what may not be
record Collide (clafers : List Clafer) (layout : Layout) (bits : List Bool) (i j : ℕ) : Type 0 where
  same : slot_clafer layout.slots j ≡ slot_clafer layout.slots i
  parents : same_option same_node (leads_to layout.slots layout.parents bits i) (leads_to layout.slots layout.parents bits j) ≡ true
  kind : is_set clafers [] (slot_clafer layout.slots i) ≡ true
  targets : same_option same_target (entry_at layout bits i).target (entry_at layout bits j).target ≡ true

pub not_so : (b : Bool) → (b ≡ true → ⊥) → not b ≡ true
not_so true f = absurd (f refl)
not_so false f = refl

pub so_not : (b : Bool) → not b ≡ true → b ≡ true → ⊥
so_not true h t = true≢false (sym h)
so_not false h t = true≢false (sym t)

differing : (clafers : List Clafer) (layout : Layout) (bits : List Bool) (i j : ℕ) → (Collide clafers layout bits i j → ⊥) → differ clafers (shown layout bits) (entry_at layout bits i) (entry_at layout bits j) ≡ true
differing clafers layout bits i j f =
    not_so (a && b && c && d) (λ t.
    let p = both (a && b && c) d t in
    let q = both (a && b) c p.0 in
    let r = both a b q.0 in
    f (record { same = sym (same_number (slot_clafer layout.slots i) (slot_clafer layout.slots j) r.0); parents = r.1; kind = q.1; targets = p.1 }))
  where
    a : Bool
    a = slot_clafer layout.slots i == slot_clafer layout.slots j

    b : Bool
    b = same_option same_node (leads_to layout.slots layout.parents bits i) (leads_to layout.slots layout.parents bits j)

    c : Bool
    c = is_set clafers [] (slot_clafer layout.slots i)

    d : Bool
    d = same_option same_target (entry_at layout bits i).target (entry_at layout bits j).target

colliding : (clafers : List Clafer) (layout : Layout) (bits : List Bool) (i j : ℕ) → Collide clafers layout bits i j → differ clafers (shown layout bits) (entry_at layout bits i) (entry_at layout bits j) ≡ true → ⊥
colliding clafers layout bits i j f h = so_not (a && b && c && d) h (together (a && b && c) d (together (a && b) c (together a b (ap (λ n. slot_clafer layout.slots i == n) f.same ∙ itself (slot_clafer layout.slots i)) f.parents) f.kind) f.targets)
  where
    a : Bool
    a = slot_clafer layout.slots i == slot_clafer layout.slots j

    b : Bool
    b = same_option same_node (leads_to layout.slots layout.parents bits i) (leads_to layout.slots layout.parents bits j)

    c : Bool
    c = is_set clafers [] (slot_clafer layout.slots i)

    d : Bool
    d = same_option same_target (entry_at layout bits i).target (entry_at layout bits j).target

-- slots that collide are compared
compared : (clafers : List Clafer) (scopes : Scopes) (layout : Layout) (bits : List Bool) → AreTold clafers scopes layout bits → (i j : ℕ) → i < j → j < length layout.slots → is_live layout bits i ≡ true → is_live layout bits j ≡ true → Collide clafers layout bits i j → are_compared clafers layout bits i j ≡ true
compared clafers scopes layout bits k i j before hj li lj f =
    together ((slot_clafer layout.slots i == slot_clafer layout.slots j) && tells_apart clafers (slot_clafer layout.slots i)) (is_none (parent_of clafers (slot_clafer layout.slots i)) || lead_together layout.parents bits i j)
    (together (slot_clafer layout.slots i == slot_clafer layout.slots j) (tells_apart clafers (slot_clafer layout.slots i)) (ap (λ n. slot_clafer layout.slots i == n) f.same ∙ itself (slot_clafer layout.slots i))
    (together (is_set clafers [] (slot_clafer layout.slots i)) (option_map_or (λ (x : Clafer). is_none x.parent || allows_two x.times) (slice_get clafers (slot_clafer layout.slots i)) true) f.kind (allowed_two clafers scopes layout bits k i j before hj f.same beside)))
    beside
  where
    beside : (is_none (parent_of clafers (slot_clafer layout.slots i)) || lead_together layout.parents bits i j) ≡ true
    beside = sym (parents_alike clafers scopes layout bits k i j (omega (arith, before, hj)) hj li lj f.same) ∙ f.parents

-- and slots that are compared have one parent or none
record Compared (clafers : List Clafer) (layout : Layout) (bits : List Bool) (i j : ℕ) : Type 0 where
  same : slot_clafer layout.slots j ≡ slot_clafer layout.slots i
  kind : is_set clafers [] (slot_clafer layout.slots i) ≡ true
  beside : (is_none (parent_of clafers (slot_clafer layout.slots i)) || lead_together layout.parents bits i j) ≡ true

comparing : (clafers : List Clafer) (layout : Layout) (bits : List Bool) (i j : ℕ) → are_compared clafers layout bits i j ≡ true → Compared clafers layout bits i j
comparing clafers layout bits i j h =
    let p = both ((slot_clafer layout.slots i == slot_clafer layout.slots j) && tells_apart clafers (slot_clafer layout.slots i)) (is_none (parent_of clafers (slot_clafer layout.slots i)) || lead_together layout.parents bits i j) h in
    let q = both (slot_clafer layout.slots i == slot_clafer layout.slots j) (tells_apart clafers (slot_clafer layout.slots i)) p.0 in
    record {
      same = sym (same_number (slot_clafer layout.slots i) (slot_clafer layout.slots j) q.0);
      kind = (both (is_set clafers [] (slot_clafer layout.slots i)) (option_map_or (λ (x : Clafer). is_none x.parent || allows_two x.times) (slice_get clafers (slot_clafer layout.slots i)) true) q.1).0;
      beside = p.1;
    }

-- where sets are had, no two slots collide
none_collide : (clafers : List Clafer) (scopes : Scopes) (layout : Layout) (bits : List Bool) → AreTold clafers scopes layout bits → have_sets clafers layout bits ≡ true → (i j : ℕ) → i < j → j < length layout.slots → is_live layout bits i ≡ true → is_live layout bits j ≡ true → Collide clafers layout bits i j → ⊥
none_collide clafers scopes layout bits k sets i j before hj li lj f = by (reference_of clafers c) refl
  where
    c : ℕ
    c = slot_clafer layout.slots i

    hi : i < length layout.slots
    hi = omega (arith, before, hj)

    p : (each_two (targets_differ clafers layout bits) (numbers_below (length layout.slots)) ≡ true) × (each_two (integers_differ clafers layout bits) layout.values ≡ true)
    p = both (each_two (targets_differ clafers layout bits) (numbers_below (length layout.slots))) (each_two (integers_differ clafers layout bits) layout.values) sets

    near : are_compared clafers layout bits i j ≡ true
    near = compared clafers scopes layout bits k i j before hj li lj f

    to_node : (q : ℕ) → h.target_of clafers c ≡ Some q → ⊥
    to_node q e =
        let one = tied_where_asked (λ d. is_some (h.target_of clafers d)) layout layout.targets bits i k.has_targets hi li (ap is_some e) in
        let two = tied_where_asked (λ d. is_some (h.target_of clafers d)) layout layout.targets bits j k.has_targets hj lj (ap (λ d. is_some (h.target_of clafers d)) f.same ∙ ap is_some e) in
        so_not (are_compared clafers layout bits i j && lead_together layout.targets bits i j) (each_at (targets_differ clafers layout bits) 0 (length layout.slots) i j p.0 (omega arith) before (omega (arith, hj)))
        (together (are_compared clafers layout bits i j) (lead_together layout.targets bits i j) near (sym (targets_alike clafers scopes layout bits k i j one two) ∙ f.targets))

    to_integer : refers_to_int clafers c ≡ true → ⊥
    to_integer int =
        let u = has_integer clafers scopes layout bits k.fits i hi int in
        let w = has_integer clafers scopes layout bits k.fits j hj (ap (refers_to_int clafers) f.same ∙ int) in
        let a = u.slot_is in
        let b = w.slot_is in
        let first : u.place < w.place = place_before layout.values u.it w.it u.place w.place (ascending clafers scopes layout k.fits) u.within w.within u.there w.there (omega (arith, a, b, before)) in
        let apart : integers_differ clafers layout bits (get_or layout.values u.place u.it) (get_or layout.values w.place w.it) ≡ true = two_at (integers_differ clafers layout bits) layout.values u.place w.place u.it w.it p.1 first w.within in
        let here : integers_differ clafers layout bits u.it w.it ≡ true = sym (ap (λ v. integers_differ clafers layout bits v (get_or layout.values w.place w.it)) u.there ∙ ap (integers_differ clafers layout bits u.it) w.there) ∙ apart in
        so_not (are_compared clafers layout bits u.it.slot w.it.slot && (is_live layout bits u.it.slot && is_live layout bits w.it.slot) && int_eq (integer_of (value_bits bits u.it)) (integer_of (value_bits bits w.it))) here
        (together (are_compared clafers layout bits u.it.slot w.it.slot && (is_live layout bits u.it.slot && is_live layout bits w.it.slot)) (int_eq (integer_of (value_bits bits u.it)) (integer_of (value_bits bits w.it)))
        (together (are_compared clafers layout bits u.it.slot w.it.slot) (is_live layout bits u.it.slot && is_live layout bits w.it.slot)
        (ap (λ n. are_compared clafers layout bits n w.it.slot) a ∙ ap (are_compared clafers layout bits i) b ∙ near)
        (together (is_live layout bits u.it.slot) (is_live layout bits w.it.slot) (ap (is_live layout bits) a ∙ li) (ap (is_live layout bits) b ∙ lj)))
        (sym (integers_alike clafers scopes layout bits k i j (integer_of (value_bits bits u.it)) (integer_of (value_bits bits w.it)) int f.same u.value w.value) ∙ f.targets))

    by : (o : Option Reference) → reference_of clafers c ≡ o → ⊥
    by None e = true≢false (sym f.kind ∙ ap (λ o. option_map_or (λ (r : Reference). not r.bag) o false) e)
    by (Some r) e = to r.to refl
      where
        to : (o : Option ℕ) → r.to ≡ o → ⊥
        to None s = to_integer (ap (λ o. option_map_or (λ (x : Reference). is_none x.to) o false) e ∙ ap is_none s)
        to (Some q) s = to_node q (ap (option_and_then (λ (x : Reference). x.to)) e ∙ s)

-- whether two live slots have different entries
abbrev differ_at : List Clafer → Layout → List Bool → ℕ → ℕ → Bool
differ_at clafers layout bits i j = not (is_live layout bits i && is_live layout bits j) || differ clafers (shown layout bits) (entry_at layout bits i) (entry_at layout bits j)

pub implies : (a b : Bool) → (a ≡ true → b ≡ true) → (not a || b) ≡ true
implies true b f = f refl
implies false b f = refl

have_targets_apart : (clafers : List Clafer) (scopes : Scopes) (layout : Layout) (bits : List Bool) → AreTold clafers scopes layout bits → (i j : ℕ) → i < j → j < length layout.slots → differ_at clafers layout bits i j ≡ true → targets_differ clafers layout bits i j ≡ true
have_targets_apart clafers scopes layout bits k i j before hj apart =
    not_so (are_compared clafers layout bits i j && lead_together layout.targets bits i j) (λ t.
    let p = both (are_compared clafers layout bits i j) (lead_together layout.targets bits i j) t in
    let m = comparing clafers layout bits i j p.0 in
    let one = first_tied layout.targets bits i j p.1 in
    let two = second_tied layout.targets bits i j p.1 in
    let li = taken_from_live (referred clafers) layout layout.targets bits k.targets i one in
    let lj = taken_from_live (referred clafers) layout layout.targets bits k.targets j two in
    colliding clafers layout bits i j (record {
      same = m.same;
      parents = parents_alike clafers scopes layout bits k i j (omega (arith, before, hj)) hj li lj m.same ∙ m.beside;
      kind = m.kind;
      targets = targets_alike clafers scopes layout bits k i j one two ∙ p.1;
    }) (implied (is_live layout bits i && is_live layout bits j) (differ clafers (shown layout bits) (entry_at layout bits i) (entry_at layout bits j)) apart (together (is_live layout bits i) (is_live layout bits j) li lj)))

have_integers_apart : (clafers : List Clafer) (scopes : Scopes) (layout : Layout) (bits : List Bool) → AreTold clafers scopes layout bits → (v w : SlotBits) → v.slot < w.slot → w.slot < length layout.slots
    → integer_at layout.values bits v.slot ≡ Some (integer_of (value_bits bits v)) → integer_at layout.values bits w.slot ≡ Some (integer_of (value_bits bits w)) → differ_at clafers layout bits v.slot w.slot ≡ true → integers_differ clafers layout bits v w ≡ true
have_integers_apart clafers scopes layout bits k v w before hw ev ew apart =
    not_so (are_compared clafers layout bits v.slot w.slot && (is_live layout bits v.slot && is_live layout bits w.slot) && int_eq (integer_of (value_bits bits v)) (integer_of (value_bits bits w))) (λ t.
    let p = both (are_compared clafers layout bits v.slot w.slot && (is_live layout bits v.slot && is_live layout bits w.slot)) (int_eq (integer_of (value_bits bits v)) (integer_of (value_bits bits w))) t in
    let q = both (are_compared clafers layout bits v.slot w.slot) (is_live layout bits v.slot && is_live layout bits w.slot) p.0 in
    let l = both (is_live layout bits v.slot) (is_live layout bits w.slot) q.1 in
    let m = comparing clafers layout bits v.slot w.slot q.0 in
    let hv : v.slot < length layout.slots = omega (arith, before, hw) in
    let int : refers_to_int clafers (slot_clafer layout.slots v.slot) ≡ true = sym (integer_where_referred clafers scopes layout bits v.slot k.fits hv) ∙ ap is_some ev in
    colliding clafers layout bits v.slot w.slot (record {
      same = m.same;
      parents = parents_alike clafers scopes layout bits k v.slot w.slot hv hw l.0 l.1 m.same ∙ m.beside;
      kind = m.kind;
      targets = integers_alike clafers scopes layout bits k v.slot w.slot (integer_of (value_bits bits v)) (integer_of (value_bits bits w)) int m.same ev ew ∙ p.1;
    }) (implied (is_live layout bits v.slot && is_live layout bits w.slot) (differ clafers (shown layout bits) (entry_at layout bits v.slot) (entry_at layout bits w.slot)) apart q.1))

pub sets_told : (clafers : List Clafer) (scopes : Scopes) (layout : Layout) (bits : List Bool) → Fits clafers scopes layout → is_consistent scopes layout bits ≡ true → have_parents clafers layout bits ≡ true → have_targets clafers layout bits ≡ true → have_bounds clafers layout bits ≡ true
    → have_sets clafers layout bits ≡ each_two (differ clafers (shown layout bits)) (shown layout bits)
sets_told clafers scopes layout bits f c ps ts bs =
    same_truth (have_sets clafers layout bits) (each_two (differ_at clafers layout bits) (numbers_below (length layout.slots)))
    (λ t. each_from (differ_at clafers layout bits) 0 (length layout.slots) (λ i j low before high.
    implies (is_live layout bits i && is_live layout bits j) (differ clafers (shown layout bits) (entry_at layout bits i) (entry_at layout bits j)) (λ u.
    let l = both (is_live layout bits i) (is_live layout bits j) u in
    differing clafers layout bits i j (none_collide clafers scopes layout bits told t i j before (omega (arith, high)) l.0 l.1))))
    (λ t. together (each_two (targets_differ clafers layout bits) (numbers_below (length layout.slots))) (each_two (integers_differ clafers layout bits) layout.values)
    (each_from (targets_differ clafers layout bits) 0 (length layout.slots) (λ i j low before high. have_targets_apart clafers scopes layout bits told i j before (omega (arith, high)) (each_at (differ_at clafers layout bits) 0 (length layout.slots) i j t low before high)))
    (two_from (integers_differ clafers layout bits) layout.values (λ k l d before high.
    let m : k < length layout.values = omega (arith, before, high) in
    let v : SlotBits = get_or layout.values k d in
    let w : SlotBits = get_or layout.values l d in
    let rising : v.slot < w.slot = less v.slot w.slot (two_at (λ (x y : SlotBits). nat_lt x.slot y.slot) layout.values k l d d (ascending clafers scopes layout f) before high) in
    let inside : w.slot < length layout.slots = less w.slot (length layout.slots) (all_pass (λ (x : SlotBits). nat_lt x.slot (length layout.slots)) layout.values (values_inside clafers layout.slots layout.values f.values) l d high) in
    have_integers_apart clafers scopes layout bits told v w rising inside (own_integer clafers scopes layout bits f k d m) (own_integer clafers scopes layout bits f l d high)
    (each_at (differ_at clafers layout bits) 0 (length layout.slots) v.slot w.slot t (omega arith) rising (omega (arith, inside))))))
    ∙ sym (told_two (differ clafers (shown layout bits)) (entry_at layout bits) (is_live layout bits) (numbers_below (length layout.slots)))
  where
    whole : ((are_edges layout layout.parents bits && are_edges layout layout.targets bits) ≡ true) × (are_integers scopes layout bits ≡ true)
    whole = both (are_edges layout layout.parents bits && are_edges layout layout.targets bits) (are_integers scopes layout bits) c

    halves : (are_edges layout layout.parents bits ≡ true) × (are_edges layout layout.targets bits ≡ true)
    halves = both (are_edges layout layout.parents bits) (are_edges layout layout.targets bits) whole.0

    told : AreTold clafers scopes layout bits
    told =
        let p = both (lead_from_live layout layout.parents bits) (are_single layout.parents bits) halves.0 in
        let q = both (lead_from_live layout layout.targets bits) (are_single layout.targets bits) halves.1 in
        let has = both (have_taken (λ k. is_some (parent_of clafers k)) layout layout.parents bits) (lead_to_live layout layout.parents bits) ps in
        let refer = both (have_taken (λ k. is_some (h.target_of clafers k)) layout layout.targets bits) (lead_to_live layout layout.targets bits) ts in
        record {
          fits = f;
          parents = right_edges (owners clafers) clafers scopes layout layout.parents bits f (sound_edges (owners clafers) layout layout.parents bits f.parents p.0) p.1 (edges_near (owners clafers) layout.slots layout.parents f.parents);
          targets = right_edges (referred clafers) clafers scopes layout layout.targets bits f (sound_edges (referred clafers) layout layout.targets bits f.targets q.0) q.1 (edges_near (referred clafers) layout.slots layout.targets f.targets);
          has_parents = has.0;
          live_parents = has.1;
          has_targets = refer.0;
          bounds = bs;
        }
