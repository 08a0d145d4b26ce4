-- All nodes of some clafers.
use Rattle.std.proofs.Common.{◌≡◌, ◌≢◌, ℕ, zero, suc, ◌+◌, ◌<◌, ◌≤◌, Bool, true, false, cond, ◌&&◌, ◌||◌, ◌⊎◌, inl, inr, List, [], ◌∷◌, ◌++◌, length, Option, Some, None, refl, sym, ap, ◌∙◌, subst, arith, append-nil}
use Rattle.std.specs.Prelude.{nat_eq, nat_lt, slice_get, not}
use Rattle.std.specs.Option.{option_map_or}
use Rattle.std.specs.List.{All, filter, flat_map, list_any, list_all, range_with_len}
use Rattle.std.proofs.lemmas.Bool.{true≢false, eqb-true}
use Rattle.std.proofs.lemmas.Bool.Decides.{nat_tests, eqb_tells}
use Rattle.std.proofs.lemmas.Grind.{common_steps}
use Rattle.std.proofs.lemmas.List.Elements.{All-append, All-nil}
use Rattle.std.proofs.lemmas.List.Folds.{list_any-append, list_all-append}
use Rattle.std.proofs.lemmas.Option.{get_or_from_slice_get, slice_get_within}
use Rattle.bool_circuit.specs.declared.gate.Wire.{Wire}
use Rattle.bool_circuit.specs.declared.gate.Gate.{Gate}
use Rattle.bool_circuit.specs.Circuit.{wire_value, entry, IsWireOf}
use Rattle.clf_tree.specs.declared.model.Clafer.{Clafer}
use Rattle.clf_tree.specs.declared.instance.Node.{Node}
use Rattle.clf_tree.specs.declared.scopes.Scopes.{Scopes}
use Rattle.clf_tree.specs.Lists.{has, each_two}
use Rattle.clf_tree.specs.Nodes.{is_before}
use Rattle.set_bits.specs.declared.sets.Member.{Member}
use Rattle.set_bits.specs.declared.layout.Layout.{Layout}
use Rattle.set_bits.specs.Fitting.{Fits, slot_clafer}
use Rattle.set_bits.specs.Merging.{members_at}
use Rattle.set_bits.specs.Sets.{is_in, is_here, has_slot, AscendFrom, IsSetOf}
use Rattle.set_bits.proofs.Combining.{is_in-append, is_in-members}
use Rattle.shape_encoder.specs.Reading.{IsBit, IsLaid}
use Rattle.shown_instance.specs.Shown.{is_live}
use Rattle.shown_instance.proofs.Fitted.{slots_ascend}
use Rattle.shown_instance.proofs.Order.{both, together}
use Rattle.told_constraints.specs.Told.{all_slots, is_listed}
use Rattle.node_encoder.specs.Leaves.{own_members, members_of, IsOneSlot}
use Rattle.node_encoder.specs.Listing.{AreListed}
use Rattle.node_encoder.proofs.Cutting.{each_passes}

-- ---- one slot

itself : (n : ℕ) → nat_eq n n ≡ true
itself n = grind (arith, nat_tests)

pub one_slot_is : (gates : List Gate) (s : ℕ) (w : Wire) (set : List Member) → IsWireOf gates w → ((bits : List Bool) → wire_value gates w bits ≡ true) → set ≡ [] ++ record { slot = s; here = w } ∷ [] → IsOneSlot gates s set
one_slot_is gates s w set in_gates on e = subst (IsOneSlot gates s) (sym e) (record {
  is_set = record { ascending = (omega arith, tt); wires = All-one in_gates };
  value = λ bits t. ap (λ b. (nat_eq s t && b) || false) (on bits) ∙ plain (nat_eq s t);
  slots = λ layout ks h. together (is_listed layout ks s) true h refl;
})
  where
    plain : (b : Bool) → ((b && true) || false) ≡ b
    plain true = refl
    plain false = refl

    All-one : IsWireOf gates w → All (λ (m : Member). IsWireOf gates m.here) (record { slot = s; here = w } ∷ [])
    All-one h zero d l = h
    All-one h (suc k) d l = absurd (omega (arith, l))

-- the value of a bound node, where its slot is listed, where it isn't, and where there is none
pub bound_listed : (layout : Layout) (ks : List ℕ) (t s : ℕ) → is_listed layout ks t ≡ true → nat_eq t s ≡ (is_listed layout ks s && nat_eq s t)
bound_listed layout ks t s h = by (eqb_tells t s)
  where
    swapped : (a b : ℕ) → nat_eq a b ≡ nat_eq b a
    swapped a b = grind (arith, nat_tests)

    none : (b : Bool) → false ≡ (b && false)
    none true = refl
    none false = refl

    by : ((nat_eq t s ≡ true) × (t ≡ s)) ⊎ ((nat_eq t s ≡ false) × (t ≢ s)) → nat_eq t s ≡ (is_listed layout ks s && nat_eq s t)
    by (inl e) = e.0 ∙ sym (ap (λ b. b && nat_eq s t) (sym (ap (is_listed layout ks) e.1) ∙ h) ∙ swapped s t ∙ e.0)
    by (inr e) = e.0 ∙ none (is_listed layout ks s) ∙ ap (λ b. is_listed layout ks s && b) (sym e.0 ∙ swapped t s)

pub bound_unlisted : (layout : Layout) (ks : List ℕ) (t s : ℕ) → is_listed layout ks t ≡ false → false ≡ (is_listed layout ks s && nat_eq s t)
bound_unlisted layout ks t s h = by (eqb_tells s t)
  where
    none : (b : Bool) → false ≡ (b && false)
    none true = refl
    none false = refl

    by : ((nat_eq s t ≡ true) × (s ≡ t)) ⊎ ((nat_eq s t ≡ false) × (s ≢ t)) → false ≡ (is_listed layout ks s && nat_eq s t)
    by (inl e) = sym (ap (λ b. b && nat_eq s t) (ap (is_listed layout ks) e.1 ∙ h))
    by (inr e) = none (is_listed layout ks s) ∙ ap (λ b. is_listed layout ks s && b) (sym e.0)

pub nothing_bound : (b : Bool) → false ≡ (b && false)
nothing_bound true = refl
nothing_bound false = refl

-- ---- slots on their own wires

holds : List ℕ → ℕ → Bool
holds xs t = list_any (λ s. nat_eq s t) xs

abbrev slots_of : Layout → ℕ → List ℕ
slots_of layout k = filter (λ s. nat_eq (slot_clafer layout.slots s) k) (all_slots layout)

abbrev own : Layout → List ℕ → List Member
own layout xs = flat_map (own_members layout) xs

own_value : (gates : List Gate) (layout : Layout) (bits : List Bool) (xs : List ℕ) (t : ℕ) → is_in gates (own layout xs) t bits ≡ (holds xs t && is_here gates (slice_get layout.live t) bits)
unfolding holds
own_value gates layout bits [] t = refl
own_value gates layout bits (s ∷ ss) t =
    is_in-append gates (own_members layout s) (own layout ss) t bits
    ∙ ap (λ b. b || is_in gates (own layout ss) t bits) (is_in-members gates s (slice_get layout.live s) t bits ∙ here (eqb_tells s t))
    ∙ ap (λ b. (nat_eq s t && is_here gates (slice_get layout.live t) bits) || b) (own_value gates layout bits ss t)
    ∙ spread (nat_eq s t) (list_any (λ s. nat_eq s t) ss) (is_here gates (slice_get layout.live t) bits)
  where
    here : ((nat_eq s t ≡ true) × (s ≡ t)) ⊎ ((nat_eq s t ≡ false) × (s ≢ t)) → (nat_eq s t && is_here gates (slice_get layout.live s) bits) ≡ (nat_eq s t && is_here gates (slice_get layout.live t) bits)
    here (inl e) = ap (λ k. nat_eq s t && is_here gates (slice_get layout.live k) bits) e.1
    here (inr e) = ap (λ b. b && is_here gates (slice_get layout.live s) bits) e.0 ∙ sym (ap (λ b. b && is_here gates (slice_get layout.live t) bits) e.0)

    spread : (a b c : Bool) → ((a && c) || (b && c)) ≡ ((a || b) && c)
    spread true true true = refl
    spread true true false = refl
    spread true false true = refl
    spread true false false = refl
    spread false b c = refl

own_slots : (layout : Layout) (xs : List ℕ) (t : ℕ) → has_slot (own layout xs) t ≡ true → holds xs t ≡ true
unfolding holds
own_slots layout [] t h = h
own_slots layout (s ∷ ss) t h = by (slice_get layout.live s) h (own_slots layout ss t)
  where
    or_true : (a b : Bool) → b ≡ true → (a || b) ≡ true
    or_true true b h = refl
    or_true false b h = h

    either : (a b c : Bool) → (a || b) ≡ true → (b ≡ true → c ≡ true) → (a || c) ≡ true
    either true b c h f = refl
    either false b c h f = f h

    by : (o : Option Wire) → has_slot (members_at s o ++ own layout ss) t ≡ true → (has_slot (own layout ss) t ≡ true → list_any (λ s. nat_eq s t) ss ≡ true) → (nat_eq s t || list_any (λ s. nat_eq s t) ss) ≡ true
    by None h rest = or_true (nat_eq s t) (list_any (λ s. nat_eq s t) ss) (rest h)
    by (Some w) h rest = either (nat_eq s t) (has_slot (own layout ss) t) (list_any (λ s. nat_eq s t) ss) h rest

pub own_wire_is : (layout : Layout) (s : ℕ) (w : Wire) (set new : List Member) → slice_get layout.live s ≡ Some w → new ≡ set ++ record { slot = s; here = w } ∷ [] → new ≡ set ++ own_members layout s
own_wire_is layout s w set new e n = n ∙ sym (ap (λ o. set ++ members_at s o) e)

pub no_wire : (layout : Layout) (s : ℕ) (set : List Member) → slice_get layout.live s ≡ None → set ≡ set ++ own_members layout s
no_wire layout s set e = sym (ap (λ o. set ++ members_at s o) e ∙ append-nil set)

-- ---- which slots a clafer has

ranged : (p : ℕ → Bool) (t a n : ℕ) → holds (filter p (range_with_len a n)) t ≡ ((not (nat_lt t a) && nat_lt t (a + n)) && p t)
unfolding holds
ranged p t a zero = outside t a (p t)
  where
    outside : (t a : ℕ) (b : Bool) → false ≡ ((not (nat_lt t a) && nat_lt t (a + 0)) && b)
    outside t a b = sym (ap (λ c. c && b) (empty t a))
      where
        empty : (t a : ℕ) → (not (nat_lt t a) && nat_lt t (a + 0)) ≡ false
        empty t a = grind (arith, nat_tests, common_steps)
ranged p t a (suc n) = by (p a) refl (eqb_tells a t) (ranged p t (a + 1) n)
  where
    rest : Bool
    rest = list_any (λ s. nat_eq s t) (filter p (range_with_len (a + 1) n))

    at_first : (t a n : ℕ) → a ≡ t → (not (nat_lt t a) && nat_lt t (a + suc n)) ≡ true
    at_first t a n e = grind (arith, nat_tests, common_steps)

    past_first : (t a n : ℕ) → a ≡ t → (not (nat_lt t (a + 1)) && nat_lt t ((a + 1) + n)) ≡ false
    past_first t a n e = grind (arith, nat_tests, common_steps)

    same : (t a n : ℕ) → (a ≡ t → ⊥) → (not (nat_lt t (a + 1)) && nat_lt t ((a + 1) + n)) ≡ (not (nat_lt t a) && nat_lt t (a + suc n))
    same t a n e = grind (arith, nat_tests, common_steps)

    by : (b : Bool) → p a ≡ b → ((nat_eq a t ≡ true) × (a ≡ t)) ⊎ ((nat_eq a t ≡ false) × (a ≢ t)) → rest ≡ ((not (nat_lt t (a + 1)) && nat_lt t ((a + 1) + n)) && p t)
        → list_any (λ s. nat_eq s t) (cond b (a ∷ filter p (range_with_len (a + 1) n)) (filter p (range_with_len (a + 1) n))) ≡ ((not (nat_lt t a) && nat_lt t (a + suc n)) && p t)
    by true e (inl f) r = ap (λ b. b || rest) f.0 ∙ sym (ap (λ b. b && p t) (at_first t a n f.1) ∙ sym (ap p f.1) ∙ e)
    by true e (inr f) r = ap (λ b. b || rest) f.0 ∙ r ∙ ap (λ b. b && p t) (same t a n f.1)
    by false e (inl f) r = r ∙ ap (λ b. b && p t) (past_first t a n f.1) ∙ sym (ap (λ b. b && p t) (at_first t a n f.1) ∙ sym (ap p f.1) ∙ e)
    by false e (inr f) r = r ∙ ap (λ b. b && p t) (same t a n f.1)

row_holds : (layout : Layout) (k t : ℕ) → holds (slots_of layout k) t ≡ (nat_lt t (length layout.slots) && nat_eq (slot_clafer layout.slots t) k)
row_holds layout k t = ranged (λ s. nat_eq (slot_clafer layout.slots s) k) t 0 (length layout.slots) ∙ ap (λ b. b && nat_eq (slot_clafer layout.slots t) k) (from_0 t (length layout.slots))
  where
    from_0 : (t n : ℕ) → (not (nat_lt t 0) && nat_lt t (0 + n)) ≡ nat_lt t n
    from_0 t n = grind (arith, nat_tests, common_steps)

rows_hold : (layout : Layout) (ks : List ℕ) (t : ℕ) → holds (flat_map (slots_of layout) ks) t ≡ is_listed layout ks t
unfolding holds is_listed
rows_hold layout [] t = none (nat_lt t (length layout.slots))
  where
    none : (b : Bool) → false ≡ (b && false)
    none true = refl
    none false = refl
rows_hold layout (k ∷ ks) t =
    list_any-append (λ s. nat_eq s t) (slots_of layout k) (flat_map (slots_of layout) ks)
    ∙ ap (λ b. b || list_any (λ s. nat_eq s t) (flat_map (slots_of layout) ks)) (row_holds layout k t)
    ∙ ap (λ b. (nat_lt t (length layout.slots) && nat_eq (slot_clafer layout.slots t) k) || b) (rows_hold layout ks t)
    ∙ spread (nat_lt t (length layout.slots)) (nat_eq (slot_clafer layout.slots t) k) (has ks (slot_clafer layout.slots t))
  where
    spread : (a b c : Bool) → ((a && b) || (a && c)) ≡ (a && (b || c))
    spread true b c = refl
    spread false b c = refl

-- ---- they ascend

-- numbers, each below all behind it
abbrev numbers_ascend : List ℕ → Bool
numbers_ascend xs = each_two nat_lt xs

each_two-append : (xs ys : List ℕ) → numbers_ascend xs ≡ true → numbers_ascend ys ≡ true → list_all (λ x. list_all (nat_lt x) ys) xs ≡ true → numbers_ascend (xs ++ ys) ≡ true
each_two-append [] ys p q r = q
each_two-append (x ∷ xs) ys p q r =
    let a = both (list_all (nat_lt x) xs) (each_two nat_lt xs) p in
    let b = both (list_all (nat_lt x) ys) (list_all (λ y. list_all (nat_lt y) ys) xs) r in
    together (list_all (nat_lt x) (xs ++ ys)) (each_two nat_lt (xs ++ ys)) (list_all-append (nat_lt x) xs ys ∙ together (list_all (nat_lt x) xs) (list_all (nat_lt x) ys) a.0 b.0) (each_two-append xs ys a.1 q b.1)

-- a test that each number of a list passes
each_held : (p : ℕ → Bool) (xs : List ℕ) → ((t : ℕ) → holds xs t ≡ true → p t ≡ true) → list_all p xs ≡ true
unfolding holds
each_held p [] h = refl
each_held p (x ∷ xs) h = together (p x) (list_all p xs) (h x (ap (λ b. b || list_any (λ s. nat_eq s x) xs) (itself x))) (each_held p xs (λ t k. h t (or_true (nat_eq x t) (list_any (λ s. nat_eq s t) xs) k)))
  where
    or_true : (a b : Bool) → b ≡ true → (a || b) ≡ true
    or_true true b h = refl
    or_true false b h = h

filter_ascends : (p : ℕ → Bool) (a n : ℕ) → numbers_ascend (filter p (range_with_len a n)) ≡ true
filter_ascends p a zero = refl
filter_ascends p a (suc n) = by (p a) (filter_ascends p (a + 1) n)
  where
    rest : List ℕ
    rest = filter p (range_with_len (a + 1) n)

    above : (t a n : ℕ) (b : Bool) → ((not (nat_lt t (a + 1)) && nat_lt t ((a + 1) + n)) && b) ≡ true → nat_lt a t ≡ true
    above t a n b h = more (both (not (nat_lt t (a + 1))) (nat_lt t ((a + 1) + n)) (both (not (nat_lt t (a + 1)) && nat_lt t ((a + 1) + n)) b h).0).0
      where
        more : not (nat_lt t (a + 1)) ≡ true → nat_lt a t ≡ true
        more h = grind (arith, nat_tests, common_steps)

    by : (b : Bool) → numbers_ascend rest ≡ true → numbers_ascend (cond b (a ∷ rest) rest) ≡ true
    by true r = together (list_all (nat_lt a) rest) (each_two nat_lt rest) (each_held (nat_lt a) rest (λ t h. above t a n (p t) (sym (ranged p t (a + 1) n) ∙ h))) r
    by false r = r

slot_ascends : (slots : List Node) (i j : ℕ) → each_two is_before slots ≡ true → i < j → j < length slots → slot_clafer slots i ≤ slot_clafer slots j
slot_ascends [] i j h l m = absurd (omega (arith, m))
slot_ascends (x ∷ xs) zero zero h l m = absurd (omega (arith, l))
slot_ascends (x ∷ xs) zero (suc j) h l m = first xs j (both (list_all (is_before x) xs) (each_two is_before xs) h).0 (omega (arith, m))
  where
    least : (y : Node) → is_before x y ≡ true → x.clafer ≤ y.clafer
    least y e = grind (arith, nat_tests, common_steps)

    first : (ys : List Node) (j : ℕ) → list_all (is_before x) ys ≡ true → j < length ys → x.clafer ≤ slot_clafer ys j
    first [] j e m = absurd (omega (arith, m))
    first (y ∷ ys) zero e m = least y (both (is_before x y) (list_all (is_before x) ys) e).0
    first (y ∷ ys) (suc j) e m = first ys j (both (is_before x y) (list_all (is_before x) ys) e).1 (omega (arith, m))
slot_ascends (x ∷ xs) (suc i) zero h l m = absurd (omega (arith, l))
slot_ascends (x ∷ xs) (suc i) (suc j) h l m = slot_ascends xs i j (both (list_all (is_before x) xs) (each_two is_before xs) h).1 (omega (arith, l)) (omega (arith, m))

-- a slot of an earlier clafer stands before that of a later one
earlier : (slots : List Node) (i j : ℕ) → each_two is_before slots ≡ true → i < length slots → slot_clafer slots i < slot_clafer slots j → nat_lt i j ≡ true
earlier slots i j h l c = by (nat_lt j i) refl (eqb_tells i j)
  where
    less : (a b : ℕ) → nat_lt a b ≡ true → a < b
    less a b e = grind (arith, nat_tests)

    left : (i j : ℕ) → nat_lt j i ≡ false → i ≢ j → nat_lt i j ≡ true
    left i j e n = grind (arith, nat_tests, common_steps)

    by : (b : Bool) → nat_lt j i ≡ b → ((nat_eq i j ≡ true) × (i ≡ j)) ⊎ ((nat_eq i j ≡ false) × (i ≢ j)) → nat_lt i j ≡ true
    by true e f = absurd (let o = slot_ascends slots j i h (less j i e) l in omega (arith, o, c))
    by false e (inl f) = absurd (let o : slot_clafer slots i ≡ slot_clafer slots j = ap (slot_clafer slots) f.1 in omega (arith, o, c))
    by false e (inr f) = left i j e f.1

listed_has : (layout : Layout) (ks : List ℕ) (j : ℕ) → is_listed layout ks j ≡ true → has ks (slot_clafer layout.slots j) ≡ true
unfolding is_listed
listed_has layout ks j h = (both (nat_lt j (length layout.slots)) (has ks (slot_clafer layout.slots j)) h).1

rows_ascend : (layout : Layout) (ks : List ℕ) → each_two is_before layout.slots ≡ true → each_two nat_lt ks ≡ true → numbers_ascend (flat_map (slots_of layout) ks) ≡ true
rows_ascend layout [] h k = refl
rows_ascend layout (k ∷ ks) h e =
    let p = both (list_all (nat_lt k) ks) (each_two nat_lt ks) e in
    each_two-append (slots_of layout k) (flat_map (slots_of layout) ks) (filter_ascends (λ s. nat_eq (slot_clafer layout.slots s) k) 0 (length layout.slots)) (rows_ascend layout ks h p.1)
    (each_held (λ i. list_all (nat_lt i) (flat_map (slots_of layout) ks)) (slots_of layout k) (λ i a. each_held (nat_lt i) (flat_map (slots_of layout) ks) (λ j b. between i j p.0 (sym (row_holds layout k i) ∙ a) (sym (rows_hold layout ks j) ∙ b))))
  where
    less : (a b : ℕ) → nat_lt a b ≡ true → a < b
    less a b e = grind (arith, nat_tests)

    later : (xs : List ℕ) (c : ℕ) → list_all (nat_lt k) xs ≡ true → has xs c ≡ true → k < c
    later [] c h g = absurd (true≢false (sym g))
    later (x ∷ xs) c h g = by (eqb_tells c x) (later xs c (both (nat_lt k x) (list_all (nat_lt k) xs) h).1)
      where
        by : ((nat_eq c x ≡ true) × (c ≡ x)) ⊎ ((nat_eq c x ≡ false) × (c ≢ x)) → (has xs c ≡ true → k < c) → k < c
        by (inl f) rest = subst (λ y. k < y) (sym f.1) (less k x (both (nat_lt k x) (list_all (nat_lt k) xs) h).0)
        by (inr f) rest = rest (sym (ap (λ b. b || has xs c) f.0) ∙ g)

    between : (i j : ℕ) → list_all (nat_lt k) ks ≡ true → (nat_lt i (length layout.slots) && nat_eq (slot_clafer layout.slots i) k) ≡ true → is_listed layout ks j ≡ true → nat_lt i j ≡ true
    between i j p a b =
        let q = both (nat_lt i (length layout.slots)) (nat_eq (slot_clafer layout.slots i) k) a in
        let same : slot_clafer layout.slots i ≡ k = eqb-true (slot_clafer layout.slots i) k q.1 in
        let above = later ks (slot_clafer layout.slots j) p (listed_has layout ks j b) in
        earlier layout.slots i j h (less i (length layout.slots) q.0) (omega (arith, same, above))

-- ---- they make a set

own_ascends : (layout : Layout) (n : ℕ) (xs : List ℕ) → list_all (λ x. not (nat_lt x n)) xs ≡ true → numbers_ascend xs ≡ true → AscendFrom n (own layout xs)
own_ascends layout n [] h k = tt
own_ascends layout n (x ∷ xs) h k = by (slice_get layout.live x) (own_ascends layout (x + 1) xs (all_above xs q.0) q.1) (own_ascends layout n xs p.1 q.1)
  where
    p : (not (nat_lt x n) ≡ true) × (list_all (λ y. not (nat_lt y n)) xs ≡ true)
    p = both (not (nat_lt x n)) (list_all (λ y. not (nat_lt y n)) xs) h

    q : (list_all (nat_lt x) xs ≡ true) × (each_two nat_lt xs ≡ true)
    q = both (list_all (nat_lt x) xs) (each_two nat_lt xs) k

    next : (x y : ℕ) → nat_lt x y ≡ true → not (nat_lt y (x + 1)) ≡ true
    next x y e = grind (arith, nat_tests, common_steps)

    least : (x n : ℕ) → not (nat_lt x n) ≡ true → n ≤ x
    least x n e = grind (arith, nat_tests, common_steps)

    all_above : (ys : List ℕ) → list_all (nat_lt x) ys ≡ true → list_all (λ y. not (nat_lt y (x + 1))) ys ≡ true
    all_above [] e = refl
    all_above (y ∷ ys) e =
        let r = both (nat_lt x y) (list_all (nat_lt x) ys) e in
        together (not (nat_lt y (x + 1))) (list_all (λ z. not (nat_lt z (x + 1))) ys) (next x y r.0) (all_above ys r.1)

    by : (o : Option Wire) → AscendFrom (x + 1) (own layout xs) → AscendFrom n (own layout xs) → AscendFrom n (members_at x o ++ own layout xs)
    by None a b = b
    by (Some w) a b = (least x n p.0, a)

own_wires : (gates : List Gate) (layout : Layout) (xs : List ℕ) → All (IsBit gates) layout.live → All (λ m. IsWireOf gates m.here) (own layout xs)
own_wires gates layout [] h = All-nil (λ (m : Member). IsWireOf gates m.here)
own_wires gates layout (x ∷ xs) h = All-append (λ (m : Member). IsWireOf gates m.here) (own_members layout x) (own layout xs) (by (slice_get layout.live x) refl) (own_wires gates layout xs h)
  where
    wire : (w : Wire) → slice_get layout.live x ≡ Some w → IsWireOf gates w
    wire w e = subst (IsWireOf gates) (get_or_from_slice_get layout.live x w w e) (h x w (slice_get_within layout.live x w e)).wire

    single : (w : Wire) → IsWireOf gates w → All (λ (m : Member). IsWireOf gates m.here) (record { slot = x; here = w } ∷ [])
    single w h zero d l = h
    single w h (suc k) d l = absurd (omega (arith, l))

    by : (o : Option Wire) → slice_get layout.live x ≡ o → All (λ (m : Member). IsWireOf gates m.here) (members_at x o)
    by None e = All-nil (λ (m : Member). IsWireOf gates m.here)
    by (Some w) e = single w (wire w e)

live_value : (gates : List Gate) (layout : Layout) (bits : List Bool) (t : ℕ) → All (IsBit gates) layout.live → is_here gates (slice_get layout.live t) bits ≡ is_live layout bits t
live_value gates layout bits t h = by (slice_get layout.live t) refl
  where
    by : (o : Option Wire) → slice_get layout.live t ≡ o → is_here gates o bits ≡ option_map_or (entry bits) o false
    by None e = refl
    by (Some w) e = subst (λ v. wire_value gates v bits ≡ entry bits v) (get_or_from_slice_get layout.live t w w e) ((h t w (slice_get_within layout.live t w e)).value bits)

same_members : (layout : Layout) (ks : List ℕ) → flat_map (members_of layout) ks ≡ own layout (flat_map (slots_of layout) ks)
same_members layout [] = refl
same_members layout (k ∷ ks) = ap (λ xs. members_of layout k ++ xs) (same_members layout ks) ∙ sym (flat-append (slots_of layout k) (flat_map (slots_of layout) ks))
  where
    assoc : (xs ys zs : List Member) → (xs ++ ys) ++ zs ≡ xs ++ (ys ++ zs)
    assoc [] ys zs = refl
    assoc (x ∷ xs) ys zs = ap (λ us. x ∷ us) (assoc xs ys zs)

    flat-append : (xs ys : List ℕ) → own layout (xs ++ ys) ≡ own layout xs ++ own layout ys
    flat-append [] ys = refl
    flat-append (x ∷ xs) ys = ap (λ us. own_members layout x ++ us) (flat-append xs ys) ∙ sym (assoc (own_members layout x) (own layout xs) (own layout ys))

pub every_set : (clafers : List Clafer) (scopes : Scopes) (layout : Layout) (ks : List ℕ) (set : List Member) → Fits clafers scopes layout → each_two nat_lt ks ≡ true → set ≡ flat_map (members_of layout) ks
    → (gates : List Gate) → IsLaid gates layout → IsSetOf gates set
every_set clafers scopes layout ks set fit k e gates laid = subst (IsSetOf gates) (sym (e ∙ same_members layout ks)) (record {
  ascending = own_ascends layout 0 (flat_map (slots_of layout) ks) (each_held (λ x. not (nat_lt x 0)) (flat_map (slots_of layout) ks) (λ t h. least t)) (rows_ascend layout ks (ap (each_two is_before) fit.slots ∙ slots_ascend clafers scopes) k);
  wires = own_wires gates layout (flat_map (slots_of layout) ks) laid.live;
})
  where
    least : (t : ℕ) → not (nat_lt t 0) ≡ true
    least t = grind (arith, nat_tests, common_steps)

pub every_listed : (layout : Layout) (ks : List ℕ) (set : List Member) → set ≡ flat_map (members_of layout) ks → AreListed layout ks set
every_listed layout ks set e = subst (AreListed layout ks) (sym (e ∙ same_members layout ks)) (each_passes (is_listed layout ks) (own layout (flat_map (slots_of layout) ks)) (λ t h. sym (rows_hold layout ks t) ∙ own_slots layout (flat_map (slots_of layout) ks) t h))

pub every_value : (layout : Layout) (ks : List ℕ) (set : List Member) → set ≡ flat_map (members_of layout) ks
    → (gates : List Gate) → IsLaid gates layout → (bits : List Bool) (s : ℕ) → is_in gates set s bits ≡ (is_listed layout ks s && is_live layout bits s)
every_value layout ks set e gates laid bits s =
    ap (λ xs. is_in gates xs s bits) (e ∙ same_members layout ks) ∙ own_value gates layout bits (flat_map (slots_of layout) ks) s
    ∙ ap (λ b. b && is_here gates (slice_get layout.live s) bits) (rows_hold layout ks s) ∙ ap (λ b. is_listed layout ks s && b) (live_value gates layout bits s laid.live)
