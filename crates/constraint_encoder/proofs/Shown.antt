-- What is told at bits that show an instance is a test of its nodes, and live bound slots are of their own clafers.
use Rattle.std.proofs.Common.{◌≡◌, ℕ, zero, suc, ◌+◌, ◌<◌, ◌≤◌, ◌≢◌, ◌⊎◌, inl, inr, Bool, true, false, cond, ◌&&◌}
use Rattle.std.proofs.Common.{◌||◌, List, [], ◌∷◌, length, map, refl, ap, ◌∙◌, arith}
use Rattle.std.specs.Prelude.{◌==◌, nat_lt}
use Rattle.std.specs.List.{list_all, list_any, filter, range_with_len}
use Rattle.std.proofs.lemmas.Bool.Decides.{eqb_tells, nat_tests}
use Rattle.std.proofs.lemmas.List.{length-map}
use Rattle.clf_tree.specs.declared.model.Clafer.{Clafer}
use Rattle.clf_tree.specs.declared.scopes.Scopes.{Scopes}
use Rattle.clf_tree.specs.Lists.{each_pair, each_two, has, numbers_below}
use Rattle.clf_tree.specs.Nodes.{has_node, is_before, same_node}
use Rattle.set_bits.specs.declared.layout.Layout.{Layout}
use Rattle.set_bits.specs.Fitting.{Fits, slot, slot_clafer}
use Rattle.shown_instance.specs.Shown.{is_live}
use Rattle.shown_instance.proofs.Counts.{same_slots}
use Rattle.shown_instance.proofs.Fitted.{slots_ascend}
use Rattle.shown_instance.proofs.Order.{both, together}
use Rattle.told_constraints.specs.Told.{is_listed, members}
use Rattle.told_constraints.specs.Standing.{clafers_at, nodes_at}

-- ---- one slot among those that pass a test

or_false : (b : Bool) → (b || false) ≡ b
or_false true = refl
or_false false = refl

and_false : (b : Bool) → (b && false) ≡ false
and_false true = refl
and_false false = refl

and_true : (b : Bool) → (b && true) ≡ b
and_true true = refl
and_true false = refl

apart : (i s : ℕ) → s < i → (i == s) ≡ false
apart i s l = grind (arith, nat_tests)

itself : (s : ℕ) → (s == s) ≡ true
itself s = grind (arith, nat_tests)

any_map : {X Y : Type 0} (q : Y → Bool) (f : X → Y) (xs : List X) → list_any q (map f xs) ≡ list_any (λ x. q (f x)) xs
any_map q f [] = refl
any_map q f (x ∷ xs) = ap (λ b. q (f x) || b) (any_map q f xs)

any_filter : {X : Type 0} (q p : X → Bool) (xs : List X) → list_any q (filter p xs) ≡ list_any (λ x. p x && q x) xs
any_filter q p [] = refl
any_filter q p (x ∷ xs) = by (p x) (any_filter q p xs)
  where
    by : (b : Bool) → list_any q (filter p xs) ≡ list_any (λ y. p y && q y) xs →
        list_any q (cond b (x ∷ filter p xs) (filter p xs)) ≡ ((b && q x) || list_any (λ y. p y && q y) xs)
    by true e = ap (λ d. q x || d) e
    by false e = e

none_before : (t : ℕ → Bool) (n a k s : ℕ) → ((i : ℕ) → i < n → (i == s) ≡ false → t i ≡ false) → s < a → a + k ≤ n →
    list_any t (range_with_len a k) ≡ false
none_before t n a zero s h l m = refl
none_before t n a (suc k) s h l m =
    ap (λ b. b || list_any t (range_with_len (a + 1) k)) (h a (omega (arith, m)) (apart a s l))
    ∙ none_before t n (a + 1) k s h (omega (arith, l)) (omega (arith, m))

one_slot : (t : ℕ → Bool) (n a k s : ℕ) → ((i : ℕ) → i < n → (i == s) ≡ false → t i ≡ false) → a ≤ s → s < a + k →
    a + k ≤ n → list_any t (range_with_len a k) ≡ t s
one_slot t n a zero s h l g m = absurd (omega (arith, l, g))
one_slot t n a (suc k) s h l g m = by (eqb_tells a s) (one_slot t n (a + 1) k s h)
  where
    by : (((a == s) ≡ true) × (a ≡ s)) ⊎ (((a == s) ≡ false) × (a ≢ s)) →
        (a + 1 ≤ s → s < (a + 1) + k → (a + 1) + k ≤ n → list_any t (range_with_len (a + 1) k) ≡ t s) →
        (t a || list_any t (range_with_len (a + 1) k)) ≡ t s
    by (inl e) rest =
        ap (λ b. t a || b) (none_before t n (a + 1) k s h (let d = e.1 in omega arith) (omega (arith, m)))
        ∙ or_false (t a) ∙ ap t e.1
    by (inr e) rest = ap (λ b. b || list_any t (range_with_len (a + 1) k)) (h a (omega (arith, m)) e.0)
        ∙ rest (let d = e.1 in omega arith) (omega (arith, g)) (omega (arith, m))

-- a slot is in a set where its node is one of the nodes of the set
pub node_told : (clafers : List Clafer) (scopes : Scopes) (layout : Layout) (p : ℕ → Bool) (s : ℕ) →
    Fits clafers scopes layout → s < length layout.slots →
    has_node (nodes_at layout (members layout p)) (slot layout.slots s) ≡ p s
unfolding members
node_told clafers scopes layout p s f l =
    any_map (same_node (slot layout.slots s)) (slot layout.slots) (filter p (numbers_below (length layout.slots)))
    ∙ any_filter same p (numbers_below (length layout.slots))
    ∙ one_slot (λ i. p i && same i) (length layout.slots) 0 (length layout.slots) s
    (λ i m d. ap (λ b. p i && b) (is_same i m ∙ d) ∙ and_false (p i)) (omega arith) (omega (arith, l)) (omega arith)
    ∙ ap (λ b. p s && b) (is_same s l ∙ itself s) ∙ and_true (p s)
  where
    same : ℕ → Bool
    same i = same_node (slot layout.slots s) (slot layout.slots i)

    is_same : (i : ℕ) → i < length layout.slots → same_node (slot layout.slots s) (slot layout.slots i) ≡ (i == s)
    is_same i m = same_slots layout.slots i s (ap (each_two is_before) f.slots ∙ slots_ascend clafers scopes) m l

-- ---- bound slots

pub as_many_clafers : (layout : Layout) (slots : List ℕ) → length (clafers_at layout slots) ≡ length slots
as_many_clafers layout slots = length-map slots (λ s. slot_clafer layout.slots s ∷ [])

pub live_slots_stand : (layout : Layout) (bits : List Bool) (slots : List ℕ) →
    list_all (λ s. nat_lt s (length layout.slots) && is_live layout bits s) slots ≡ true →
    each_pair (λ ks s. is_listed layout ks s && is_live layout bits s) (clafers_at layout slots) slots ≡ true
unfolding is_listed
live_slots_stand layout bits [] h = refl
live_slots_stand layout bits (s ∷ slots) h =
    let p =
    both (nat_lt s (length layout.slots) && is_live layout bits s)
    (list_all (λ s. nat_lt s (length layout.slots) && is_live layout bits s) slots) h in
    let q = both (nat_lt s (length layout.slots)) (is_live layout bits s) p.0 in
    together (is_listed layout (slot_clafer layout.slots s ∷ []) s && is_live layout bits s)
    (each_pair (λ ks s. is_listed layout ks s && is_live layout bits s) (clafers_at layout slots) slots)
    (together (is_listed layout (slot_clafer layout.slots s ∷ []) s) (is_live layout bits s)
    (together (nat_lt s (length layout.slots)) (has (slot_clafer layout.slots s ∷ []) (slot_clafer layout.slots s))
    q.0 (ap (λ b. b || false) (itself (slot_clafer layout.slots s)))) q.1)
    (live_slots_stand layout bits slots p.1)
