-- Slots of some clafers are no more than the nodes that the clafers can have.
use Rattle.std.proofs.Common.{◌≡◌, ◌≢◌, ℕ, zero, suc, ◌+◌, ◌<◌, ◌≤◌, Bool, true, false, cond, ◌&&◌, ◌||◌, ◌⊎◌, inl, inr, List, [], ◌∷◌, ◌++◌, length, map, refl, sym, ap, ◌∙◌, subst, arith}
use Rattle.std.specs.Prelude.{◌==◌, nat_lt, slice_index_or}
use Rattle.std.specs.List.{flat_map, list_all, range_with_len, count_by}
use Rattle.std.proofs.lemmas.Bool.Decides.{nat_tests, eqb_tells}
use Rattle.std.proofs.lemmas.Grind.{common_steps}
use Rattle.std.proofs.lemmas.List.Sums.{sum_by-cons}
use Rattle.clf_tree.specs.declared.model.Clafer.{Clafer}
use Rattle.clf_tree.specs.declared.instance.Node.{Node}
use Rattle.clf_tree.specs.declared.scopes.Scopes.{Scopes}
use Rattle.clf_tree.specs.Lists.{numbers_below, has}
use Rattle.clf_tree.specs.Nodes.{scope_of}
use Rattle.set_bits.specs.declared.sets.Member.{Member}
use Rattle.set_bits.specs.declared.layout.Layout.{Layout}
use Rattle.set_bits.specs.Fitting.{Fits, nodes_below, nodes_within, slot_clafer}
use Rattle.set_bits.specs.Sets.{AscendFrom}
use Rattle.shown_instance.proofs.Counts.{count-cons, count-map}
use Rattle.shown_instance.proofs.Order.{both, together}
use Rattle.told_constraints.specs.Told.{all_slots, is_listed}
use Rattle.node_encoder.specs.Listing.{room, AreBelow, AreListed}

-- ---- numbers that ascend

-- the numbers ascend, from a on and below b
abbrev pub AscendWithin : ℕ → ℕ → List ℕ → Type 0
AscendWithin a b [] = Unit {0}
AscendWithin a b (x ∷ xs) = (a ≤ x) × (x < b) × AscendWithin (x + 1) b xs

-- numbers that ascend and pass a test are no more than all that pass
pub ascending_few : (p : ℕ → Bool) (n a b : ℕ) (xs : List ℕ) → a + n ≡ b → AscendWithin a b xs → list_all p xs ≡ true → length xs ≤ count_by p (range_with_len a n)
ascending_few p n a b [] e h t = omega arith
ascending_few p zero a b (x ∷ xs) e h t = let l = h.0 in let m = h.1 in absurd (omega (arith, l, m, e))
ascending_few p (suc n) a b (x ∷ xs) e h t = by (eqb_tells x a) (ascending_few p n (a + 1) b)
  where
    here : p x ≡ true
    here = (both (p x) (list_all p xs) t).0

    there : list_all p xs ≡ true
    there = (both (p x) (list_all p xs) t).1

    by : (((x == a) ≡ true) × (x ≡ a)) ⊎ (((x == a) ≡ false) × (x ≢ a)) → ((ys : List ℕ) → (a + 1) + n ≡ b → AscendWithin (a + 1) b ys → list_all p ys ≡ true → length ys ≤ count_by p (range_with_len (a + 1) n))
        → length (x ∷ xs) ≤ count_by p (range_with_len a (suc n))
    by (inl f) rest =
        let r = rest xs (omega (arith, e)) (subst (λ k. AscendWithin (k + 1) b xs) f.1 h.2) there in
        let c : count_by p (a ∷ range_with_len (a + 1) n) ≡ 1 + count_by p (range_with_len (a + 1) n) = count-cons p a (range_with_len (a + 1) n) ∙ ap (λ c. cond c 1 0 + count_by p (range_with_len (a + 1) n)) (sym (ap p f.1) ∙ here) in
        omega (arith, r, c)
    by (inr f) rest =
        let ne = f.1 in
        let l = h.0 in
        let above : a + 1 ≤ x = more x a l ne in
        let r = rest (x ∷ xs) (omega (arith, e)) (above, h.1, h.2) t in
        let c = count-cons p a (range_with_len (a + 1) n) in
        let d = some (p a) in
        omega (arith, r, c, d)
      where
        more : (k a : ℕ) → a ≤ k → k ≢ a → a + 1 ≤ k
        more k a h ne = grind (arith, common_steps)

        some : (b : Bool) → 0 ≤ cond b 1 0
        some b = omega arith

-- ---- counts

-- a test that comes to one of two is passed by no more than both are
count-either : {X : Type 0} (p q r : X → Bool) (xs : List X) → ((x : X) → cond (p x) 1 0 ≤ cond (q x) 1 0 + cond (r x) 1 0) → count_by p xs ≤ count_by q xs + count_by r xs
count-either p q r [] h = omega arith
count-either p q r (x ∷ xs) h =
    let a = count-cons p x xs in
    let b = count-cons q x xs in
    let c = count-cons r x xs in
    let d = count-either p q r xs h in
    let e = h x in
    omega (arith, a, b, c, d, e)

count-none : {X : Type 0} (p : X → Bool) (xs : List X) → ((x : X) → p x ≡ false) → count_by p xs ≡ 0
count-none p [] h = refl
count-none p (x ∷ xs) h = count-cons p x xs ∙ ap (λ b. cond b 1 0 + count_by p xs) (h x) ∙ (let r = count-none p xs h in omega (arith, r))

count_shifted : (h : ℕ → Bool) (a n : ℕ) → count_by h (range_with_len (a + 1) n) ≡ count_by (λ i. h (suc i)) (range_with_len a n)
count_shifted h a zero = refl
count_shifted h a (suc n) =
    let e : a + 1 ≡ suc a = omega arith in
    count-cons h (a + 1) (range_with_len ((a + 1) + 1) n) ∙ ap (λ k. cond (h k) 1 0 + count_by h (range_with_len ((a + 1) + 1) n)) e
    ∙ ap (λ k. cond (h (suc a)) 1 0 + k) (count_shifted h (a + 1) n) ∙ sym (count-cons (λ i. h (suc i)) a (range_with_len (a + 1) n))

-- a count over the places of a list
count-places : {X : Type 0} (p : X → Bool) (d : X) (xs : List X) → count_by (λ i. p (slice_index_or xs i d)) (numbers_below (length xs)) ≡ count_by p xs
count-places p d [] = refl
count-places p d (x ∷ xs) =
    count-cons (λ i. p (slice_index_or (x ∷ xs) i d)) 0 (range_with_len 1 (length xs))
    ∙ ap (λ k. cond (p x) 1 0 + k) (count_shifted (λ i. p (slice_index_or (x ∷ xs) i d)) 0 (length xs) ∙ count-places p d xs)
    ∙ sym (count-cons p x xs)

-- ---- the slots of a clafer

count-append : {X : Type 0} (p : X → Bool) (xs ys : List X) → count_by p (xs ++ ys) ≡ count_by p xs + count_by p ys
count-append p [] ys = omega arith
count-append p (x ∷ xs) ys =
    let a = count-cons p x (xs ++ ys) in
    let b = count-cons p x xs in
    let c = count-append p xs ys in
    omega (arith, a, b, c)

own_nodes : (k : ℕ) (f : ℕ → ℕ) (c : ℕ) → count_by (λ (x : Node). x.clafer == k) (nodes_below c (f c)) ≤ cond (c == k) (f k) 0
own_nodes k f c = by (eqb_tells c k)
  where
    most : (b : Bool) → cond b 1 0 ≤ 1
    most true = omega arith
    most false = omega arith

    same : (n m : ℕ) → (c == k) ≡ true → count_by (λ (j : ℕ). c == k) (range_with_len n m) ≤ m
    same n zero h = omega arith
    same n (suc m) h = let a = count-cons (λ (j : ℕ). c == k) n (range_with_len (n + 1) m) in let b = most (c == k) in let r = same (n + 1) m h in omega (arith, a, b, r)

    by : (((c == k) ≡ true) × (c ≡ k)) ⊎ (((c == k) ≡ false) × (c ≢ k)) → count_by (λ (x : Node). x.clafer == k) (nodes_below c (f c)) ≤ cond (c == k) (f k) 0
    by (inl e) =
        let a = count-map (λ (x : Node). x.clafer == k) (λ j. record { clafer = c; number = j }) (numbers_below (f c)) in
        let b = same 0 (f c) e.0 in
        let g : f c ≡ f k = ap f e.1 in
        let t : cond (c == k) (f k) 0 ≡ f k = ap (λ x. cond x (f k) 0) e.0 in
        omega (arith, a, b, g, t)
    by (inr e) =
        let a = count-map (λ (x : Node). x.clafer == k) (λ j. record { clafer = c; number = j }) (numbers_below (f c)) in
        let b = count-none (λ (j : ℕ). c == k) (numbers_below (f c)) (λ j. e.0) in
        omega (arith, a, b)

own_from : (k : ℕ) (f : ℕ → ℕ) (a n : ℕ) → count_by (λ (x : Node). x.clafer == k) (flat_map (λ c. nodes_below c (f c)) (range_with_len a n)) ≤ cond (nat_lt k a) 0 (f k)
own_from k f a zero = omega arith
own_from k f a (suc n) =
    let c = count-append (λ (x : Node). x.clafer == k) (nodes_below a (f a)) (flat_map (λ c. nodes_below c (f c)) (range_with_len (a + 1) n)) in
    let h = own_nodes k f a in
    let r = own_from k f (a + 1) n in
    let t = by (eqb_tells a k) in
    omega (arith, c, h, r, t)
  where
    before : (k a : ℕ) → a ≡ k → (nat_lt k (a + 1) ≡ true) × (nat_lt k a ≡ false)
    before k a e = (grind (arith, nat_tests, common_steps), grind (arith, nat_tests, common_steps))

    apart : (k a : ℕ) → a ≢ k → nat_lt k (a + 1) ≡ nat_lt k a
    apart k a e = grind (arith, nat_tests, common_steps)

    by : (((a == k) ≡ true) × (a ≡ k)) ⊎ (((a == k) ≡ false) × (a ≢ k)) → cond (a == k) (f k) 0 + cond (nat_lt k (a + 1)) 0 (f k) ≤ cond (nat_lt k a) 0 (f k)
    by (inl e) =
        let b = before k a e.1 in
        let x : cond (a == k) (f k) 0 ≡ f k = ap (λ y. cond y (f k) 0) e.0 in
        let y : cond (nat_lt k (a + 1)) 0 (f k) ≡ 0 = ap (λ y. cond y 0 (f k)) b.0 in
        let z : cond (nat_lt k a) 0 (f k) ≡ f k = ap (λ y. cond y 0 (f k)) b.1 in
        omega (arith, x, y, z)
    by (inr e) =
        let x : cond (a == k) (f k) 0 ≡ 0 = ap (λ y. cond y (f k) 0) e.0 in
        let y : cond (nat_lt k (a + 1)) 0 (f k) ≡ cond (nat_lt k a) 0 (f k) = ap (λ y. cond y 0 (f k)) (apart k a e.1) in
        omega (arith, x, y)

-- a clafer has no more slots than its scope says
own_slots : (clafers : List Clafer) (scopes : Scopes) (layout : Layout) → Fits clafers scopes layout → (k : ℕ) → count_by (λ s. slot_clafer layout.slots s == k) (all_slots layout) ≤ scope_of scopes k
own_slots clafers scopes layout fit k =
    let a = count-places (λ (x : Node). x.clafer == k) (record { clafer = 0; number = 0 }) layout.slots in
    let b : count_by (λ (x : Node). x.clafer == k) layout.slots ≡ count_by (λ (x : Node). x.clafer == k) (nodes_within clafers scopes) = ap (count_by (λ (x : Node). x.clafer == k)) fit.slots in
    let c : count_by (λ (x : Node). x.clafer == k) (nodes_within clafers scopes) ≤ cond (nat_lt k 0) 0 (scope_of scopes k) = own_from k (scope_of scopes) 0 (length clafers) in
    let d : cond (nat_lt k 0) 0 (scope_of scopes k) ≤ scope_of scopes k = less (nat_lt k 0) in
    omega (arith, a, b, c, d)
  where
    less : (b : Bool) → cond b 0 (scope_of scopes k) ≤ scope_of scopes k
    less true = omega arith
    less false = omega arith

-- some clafers have no more slots than their scopes say
pub listed_few : (clafers : List Clafer) (scopes : Scopes) (layout : Layout) (ks : List ℕ) → Fits clafers scopes layout → count_by (is_listed layout ks) (all_slots layout) ≤ room scopes ks
unfolding is_listed
listed_few clafers scopes layout [] fit = let z = count-none (is_listed layout []) (all_slots layout) (λ s. none (nat_lt s (length layout.slots))) in omega (arith, z)
  where
    none : (b : Bool) → (b && false) ≡ false
    none true = refl
    none false = refl
listed_few clafers scopes layout (k ∷ ks) fit =
    let a = count-either (is_listed layout (k ∷ ks)) (λ s. slot_clafer layout.slots s == k) (is_listed layout ks) (all_slots layout) (λ s. either (nat_lt s (length layout.slots)) (slot_clafer layout.slots s == k) (has ks (slot_clafer layout.slots s))) in
    let b = own_slots clafers scopes layout fit k in
    let c = listed_few clafers scopes layout ks fit in
    let d : room scopes (k ∷ ks) ≡ scope_of scopes k + room scopes ks = sum_by-cons (λ n. n) (scope_of scopes k) (map (scope_of scopes) ks) in
    omega (arith, a, b, c, d)
  where
    either : (a b c : Bool) → cond (a && (b || c)) 1 0 ≤ cond b 1 0 + cond (a && c) 1 0
    either true true c = omega arith
    either true false c = omega arith
    either false b c = omega arith

-- ---- sets of listed slots

listed_below : (layout : Layout) (ks : List ℕ) (s : ℕ) → is_listed layout ks s ≡ true → nat_lt s (length layout.slots) ≡ true
unfolding is_listed
listed_below layout ks s h = (both (nat_lt s (length layout.slots)) (has ks (slot_clafer layout.slots s)) h).0

pub listed_there : (layout : Layout) (ks : List ℕ) (set : List Member) → AreListed layout ks set → AreBelow (length layout.slots) set
listed_there layout ks [] h = refl
listed_there layout ks (m ∷ ms) h =
    let p = both (is_listed layout ks m.slot) (list_all (λ (x : Member). is_listed layout ks x.slot) ms) h in
    together (nat_lt m.slot (length layout.slots)) (list_all (λ (x : Member). nat_lt x.slot (length layout.slots)) ms) (listed_below layout ks m.slot p.0) (listed_there layout ks ms p.1)

-- the slots of members below b ascend
pub slots_within : (a b : ℕ) (set : List Member) → AscendFrom a set → AreBelow b set → AscendWithin a b (map (λ m. m.slot) set)
slots_within a b [] h l = tt
slots_within a b (m ∷ ms) h l =
    let p = both (nat_lt m.slot b) (list_all (λ (x : Member). nat_lt x.slot b) ms) l in
    (h.0, less m.slot b p.0, slots_within (m.slot + 1) b ms h.1 p.1)
  where
    less : (x y : ℕ) → nat_lt x y ≡ true → x < y
    less x y h = grind (arith, nat_tests)

pub few_members : (clafers : List Clafer) (scopes : Scopes) (layout : Layout) (ks : List ℕ) (set : List Member) → Fits clafers scopes layout → AscendFrom 0 set → AreListed layout ks set → length set ≤ room scopes ks
few_members clafers scopes layout ks set fit asc h =
    let slots : List ℕ = map (λ (m : Member). m.slot) set in
    let a = ascending_few (is_listed layout ks) (length layout.slots) 0 (length layout.slots) slots (omega arith) (slots_within 0 (length layout.slots) set asc (listed_there layout ks set h)) (listed set h) in
    let b = listed_few clafers scopes layout ks fit in
    let c : length slots ≡ length set = mapped set in
    omega (arith, a, b, c)
  where
    mapped : (xs : List Member) → length (map (λ (m : Member). m.slot) xs) ≡ length xs
    mapped [] = refl
    mapped (x ∷ xs) = ap suc (mapped xs)

    listed : (xs : List Member) → AreListed layout ks xs → list_all (is_listed layout ks) (map (λ (m : Member). m.slot) xs) ≡ true
    listed [] h = refl
    listed (x ∷ xs) h =
        let p = both (is_listed layout ks x.slot) (list_all (λ (y : Member). is_listed layout ks y.slot) xs) h in
        together (is_listed layout ks x.slot) (list_all (is_listed layout ks) (map (λ (m : Member). m.slot) xs)) p.0 (listed xs p.1)
