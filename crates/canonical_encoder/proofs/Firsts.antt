-- Which of two lists of edges has the earlier taken edge.
use Rattle.std.proofs.Common.{◌≡◌, ℕ, zero, suc, ◌+◌, ◌<◌, ◌≤◌, min, Bool, true, false, not, cond, ◌&&◌, ◌||◌, List, [], ◌∷◌, length, map, Option, Some, None, refl, sym, ap, ◌∙◌, arith, get_or}
use Rattle.std.specs.Prelude.{nat_lt, is_some}
use Rattle.std.specs.List.{find, list_any, list_all, range_with_len}
use Rattle.std.proofs.lemmas.Bool.{true≢false}
use Rattle.std.proofs.lemmas.Bool.Decides.{nat_tests}
use Rattle.std.proofs.lemmas.List.Folds.{list_all-map}
use Rattle.bool_circuit.specs.Circuit.{entry}
use Rattle.clf_tree.specs.Lists.{numbers_below, each_two}
use Rattle.set_bits.specs.declared.layout.Edge.{Edge}
use Rattle.shown_instance.proofs.Adapting.{all_pass}
use Rattle.shown_instance.proofs.Counts.{found_has}
use Rattle.shown_instance.proofs.Order.{both}
use Rattle.shown_instance.proofs.Whole.{numbers_from}
use Rattle.canonical_encoder.specs.Slots.{has_begun, begins_no_later}
use Rattle.canonical_encoder.specs.Comparing.{begins_below}

-- the same edge by edge
abbrev no_later : List Bool → List Edge → List Edge → Bool
no_later bits [] ys = true
no_later bits (x ∷ xs) [] = true
no_later bits (x ∷ xs) (y ∷ ys) = entry bits x.here || (not (entry bits y.here) && no_later bits xs ys)

all_shift : (t : ℕ → Bool) (a m : ℕ) → list_all t (range_with_len (a + 1) m) ≡ list_all (λ n. t (n + 1)) (range_with_len a m)
all_shift t a zero = refl
all_shift t a (suc m) = ap (λ b. t (a + 1) && b) (all_shift t (a + 1) m)

all_alike : (s t : ℕ → Bool) (a m : ℕ) → ((n : ℕ) → s n ≡ t n) → list_all s (range_with_len a m) ≡ list_all t (range_with_len a m)
all_alike s t a zero h = refl
all_alike s t a (suc m) h = ap (λ b. b && list_all s (range_with_len (a + 1) m)) (h a) ∙ ap (λ b. t a && b) (all_alike s t (a + 1) m h)

or_true : (b : Bool) → (b || true) ≡ true
or_true true = refl
or_true false = refl

-- of two first edges and what lies behind them
both_begin : (a b : Bool) (s t : ℕ → Bool) (m : ℕ)
    → ((not (b || false) || (a || false)) && list_all (λ n. not (b || t (n + 1)) || (a || s (n + 1))) (numbers_below m))
    ≡ (a || (not b && list_all (λ n. not (t (n + 1)) || s (n + 1)) (numbers_below m)))
both_begin true true s t m = numbers_from (λ n. true) 0 m (λ i low high. refl)
both_begin true false s t m = numbers_from (λ n. not (t (n + 1)) || true) 0 m (λ i low high. or_true (not (t (i + 1))))
both_begin false true s t m = refl
both_begin false false s t m = refl

begun_behind : (bits : List Bool) (y : Edge) (ys : List Edge) (n : ℕ)
    → has_begun (y ∷ ys) bits (n + 1 + 1) ≡ (entry bits y.here || has_begun ys bits (n + 1))
begun_behind bits y ys n = let e : n + 1 + 1 ≡ suc (n + 1) = omega arith in ap (has_begun (y ∷ ys) bits) e

pub edge_by_edge : (bits : List Bool) (xs ys : List Edge) → begins_no_later xs ys bits ≡ no_later bits xs ys
edge_by_edge bits [] ys = let e : min 0 (length ys) ≡ 0 = omega arith in ap (begins_below [] ys bits) e
edge_by_edge bits (x ∷ xs) [] = let e : min (length (x ∷ xs)) 0 ≡ 0 = omega arith in ap (begins_below (x ∷ xs) [] bits) e
edge_by_edge bits (x ∷ xs) (y ∷ ys) =
    let m : ℕ = min (length xs) (length ys) in
    let e : min (length (x ∷ xs)) (length (y ∷ ys)) ≡ suc (min (length xs) (length ys)) = omega arith in
    let t : ℕ → Bool = λ n. not (has_begun (y ∷ ys) bits (n + 1)) || has_begun (x ∷ xs) bits (n + 1) in
    ap (begins_below (x ∷ xs) (y ∷ ys) bits) e
    ∙ ap (λ b. t 0 && b) (all_shift t 0 m
    ∙ all_alike (λ n. t (n + 1)) (λ n. not (entry bits y.here || has_begun ys bits (n + 1))
    || (entry bits x.here || has_begun xs bits (n + 1))) 0 m
    (λ n. ap (λ b. not b || has_begun (x ∷ xs) bits (n + 1 + 1)) (begun_behind bits y ys n)
    ∙ ap (λ b. not (entry bits y.here || has_begun ys bits (n + 1)) || b) (begun_behind bits x xs n)))
    ∙ both_begin (entry bits x.here) (entry bits y.here) (has_begun xs bits) (has_begun ys bits) m
    ∙ ap (λ b. entry bits x.here || (not (entry bits y.here) && b)) (edge_by_edge bits xs ys)

-- where no later edge is taken
none_later : (bits : List Bool) (xs ys : List Edge) → list_any (λ (e : Edge). entry bits e.here) ys ≡ false → no_later bits xs ys ≡ true
none_later bits [] ys h = refl
none_later bits (x ∷ xs) [] h = refl
none_later bits (x ∷ xs) (y ∷ ys) h = by (entry bits y.here) refl (none_later bits xs ys)
  where
    by : (b : Bool) → entry bits y.here ≡ b → (list_any (λ (e : Edge). entry bits e.here) ys ≡ false → no_later bits xs ys ≡ true)
        → (entry bits x.here || (not (entry bits y.here) && no_later bits xs ys)) ≡ true
    by true e rest = absurd (true≢false (sym (ap (λ b. b || list_any (λ (z : Edge). entry bits z.here) ys) e) ∙ h))
    by false e rest =
        ap (λ b. entry bits x.here || (not b && no_later bits xs ys)) e
        ∙ ap (λ b. entry bits x.here || b) (rest (sym (ap (λ b. b || list_any (λ (z : Edge). entry bits z.here) ys) e) ∙ h))
        ∙ or_true (entry bits x.here)

-- ---- where edges of both are taken

tails_alike : (x y : ℕ) (xs ys : List ℕ) → (x ∷ xs) ≡ (y ∷ ys) → xs ≡ ys
tails_alike x y xs ys e = ap rest e
  where
    rest : List ℕ → List ℕ
    rest [] = []
    rest (z ∷ zs) = zs

heads_alike : (x y : ℕ) (xs ys : List ℕ) → (x ∷ xs) ≡ (y ∷ ys) → x ≡ y
heads_alike x y xs ys e = ap (λ zs. get_or zs 0 x) e

-- the edge that is found behind others leads to a later slot
found_behind : (p : Edge → Bool) (a : ℕ) (xs : List Edge) (e : Edge) → list_all (nat_lt a) (map (λ x. x.to) xs) ≡ true → find p xs ≡ Some e
    → nat_lt a e.to ≡ true
found_behind p a xs e h f = (found_has p (λ (x : Edge). nat_lt a x.to ≡ true) xs e f
    (all_pass (λ (x : Edge). nat_lt a x.to) xs (sym (list_all-map (nat_lt a) (λ (x : Edge). x.to) xs) ∙ h))).1

some_same : (x y : Edge) → Some x ≡ Some y → x ≡ y
some_same x y h = ap (λ (o : Option Edge). item o) h
  where
    item : Option Edge → Edge
    item None = x
    item (Some z) = z

both_taken : (bits : List Bool) (xs ys : List Edge) (e f : Edge) → map (λ z. z.to) xs ≡ map (λ z. z.to) ys
    → each_two nat_lt (map (λ z. z.to) ys) ≡ true
    → find (λ z. entry bits z.here) xs ≡ Some e → find (λ z. entry bits z.here) ys ≡ Some f → no_later bits xs ys ≡ not (nat_lt f.to e.to)
both_taken bits [] ys e f same asc p q = absurd (true≢false (sym (ap is_some p)))
both_taken bits (x ∷ xs) [] e f same asc p q = absurd (true≢false (sym (ap is_some q)))
both_taken bits (x ∷ xs) (y ∷ ys) e f same asc p q =
    by (entry bits x.here) refl (entry bits y.here) refl
    (both_taken bits xs ys e f (tails_alike x.to y.to (map (λ z. z.to) xs) (map (λ z. z.to) ys) same) after.1)
  where
    test : Edge → Bool
    test z = entry bits z.here

    first : x.to ≡ y.to
    first = heads_alike x.to y.to (map (λ (z : Edge). z.to) xs) (map (λ (z : Edge). z.to) ys) same

    after : (list_all (nat_lt y.to) (map (λ (z : Edge). z.to) ys) ≡ true) × (each_two nat_lt (map (λ (z : Edge). z.to) ys) ≡ true)
    after = both (list_all (nat_lt y.to) (map (λ (z : Edge). z.to) ys)) (each_two nat_lt (map (λ (z : Edge). z.to) ys)) asc

    taken : (z w : Edge) (zs : List Edge) → test z ≡ true → find test (z ∷ zs) ≡ Some w → z ≡ w
    taken z w zs t h = some_same z w (sym (ap (λ b. cond b (Some z) (find test zs)) t) ∙ h)

    passed : (z w : Edge) (zs : List Edge) → test z ≡ false → find test (z ∷ zs) ≡ Some w → find test zs ≡ Some w
    passed z w zs t h = sym (ap (λ b. cond b (Some z) (find test zs)) t) ∙ h

    not_less : (a b : ℕ) → b ≤ a → not (nat_lt a b) ≡ true
    not_less a b h = grind (arith, nat_tests)

    below : (a b : ℕ) → nat_lt a b ≡ true → a < b
    below a b h = grind (arith, nat_tests)

    by : (a : Bool) → test x ≡ a → (b : Bool) → test y ≡ b
        → (find test xs ≡ Some e → find test ys ≡ Some f → no_later bits xs ys ≡ not (nat_lt f.to e.to))
        → (test x || (not (test y) && no_later bits xs ys)) ≡ not (nat_lt f.to e.to)
    by true s true t rest =
        let u = ap (λ (z : Edge). z.to) (taken x e xs s p) in
        let v = ap (λ (z : Edge). z.to) (taken y f ys t q) in
        ap (λ b. b || (not (test y) && no_later bits xs ys)) s ∙ sym (not_less f.to e.to (omega (arith, first, u, v)))
    by true s false t rest =
        let u = ap (λ (z : Edge). z.to) (taken x e xs s p) in
        let v = below y.to f.to (found_behind test y.to ys f after.0 (passed y f ys t q)) in
        ap (λ b. b || (not (test y) && no_later bits xs ys)) s ∙ sym (not_less f.to e.to (omega (arith, first, u, v)))
    by false s true t rest =
        let v = ap (λ (z : Edge). z.to) (taken y f ys t q) in
        let u = found_behind test x.to xs e
        (ap (list_all (nat_lt x.to)) (tails_alike x.to y.to (map (λ (z : Edge). z.to) xs) (map (λ (z : Edge). z.to) ys) same)
        ∙ ap (λ a. list_all (nat_lt a) (map (λ (z : Edge). z.to) ys)) first ∙ after.0) (passed x e xs s p) in
        ap (λ b. b || (not (test y) && no_later bits xs ys)) s ∙ ap (λ b. not b && no_later bits xs ys) t
        ∙ sym (ap (λ a. not (nat_lt a e.to)) (sym v ∙ sym first) ∙ ap not u)
    by false s false t rest =
        ap (λ b. b || (not (test y) && no_later bits xs ys)) s ∙ ap (λ b. not b && no_later bits xs ys) t
        ∙ rest (passed x e xs s p) (passed y f ys t q)

-- ---- the same of the test of wires

pub begins_where_none : (bits : List Bool) (xs ys : List Edge) → list_any (λ (e : Edge). entry bits e.here) ys ≡ false
    → begins_no_later xs ys bits ≡ true
begins_where_none bits xs ys h = edge_by_edge bits xs ys ∙ none_later bits xs ys h

pub begins_as_found : (bits : List Bool) (xs ys : List Edge) (e f : Edge) → map (λ z. z.to) xs ≡ map (λ z. z.to) ys
    → each_two nat_lt (map (λ z. z.to) ys) ≡ true
    → find (λ z. entry bits z.here) xs ≡ Some e → find (λ z. entry bits z.here) ys ≡ Some f
    → begins_no_later xs ys bits ≡ not (nat_lt f.to e.to)
begins_as_found bits xs ys e f same asc p q = edge_by_edge bits xs ys ∙ both_taken bits xs ys e f same asc p q
