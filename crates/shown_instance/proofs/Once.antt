-- No two edges of a layout that fits have the same ends.
use Rattle.std.proofs.Common.{◌≡◌, ℕ, zero, suc, ◌+◌, ◌<◌, ◌≤◌, Bool, true, false, cond, ◌&&◌, ◌||◌, List, [], ◌∷◌, ◌++◌, length, map, get_or, refl, sym, ap, ◌∙◌, arith, inl, inr}
use Rattle.std.specs.Prelude.{nat_lt, ◌==◌}
use Rattle.std.specs.List.{filter, flat_map, list_all, range_with_len}
use Rattle.std.proofs.Math.Nat.{eq-or-lt_of_le}
use Rattle.std.proofs.lemmas.Bool.{true≢false}
use Rattle.std.proofs.lemmas.Bool.Decides.{nat_tests}
use Rattle.std.proofs.lemmas.Grind.{common_steps}
use Rattle.std.proofs.lemmas.List.Folds.{list_all-append, list_all-map}
use Rattle.clf_tree.specs.declared.instance.Node.{Node}
use Rattle.clf_tree.specs.Lists.{each_two, numbers_below, has}
use Rattle.set_bits.specs.declared.layout.Edge.{Edge}
use Rattle.set_bits.specs.Fitting.{slot_clafer, ends, all_ends}
use Rattle.shown_instance.proofs.Order.{both, together}
use Rattle.shown_instance.proofs.Consistent.{AreOnce}

-- one pair before another, by the first number, then by the second
abbrev pub is_earlier : ℕ × ℕ → ℕ × ℕ → Bool
is_earlier p q = nat_lt p.0 q.0 || ((p.0 == q.0) && nat_lt p.1 q.1)

earlier_same : (i j k : ℕ) → j < k → is_earlier (i, j) (i, k) ≡ true
earlier_same i j k h = grind (arith, nat_tests, common_steps)

earlier_first : (i j k l : ℕ) → i < k → is_earlier (i, j) (k, l) ≡ true
earlier_first i j k l h = grind (arith, nat_tests, common_steps)

pub earlier_irrefl : (i j k l : ℕ) → i ≡ k → j ≡ l → is_earlier (i, j) (k, l) ≡ false
earlier_irrefl i j k l e f = grind (arith, nat_tests, common_steps)

ahead_same : (i j : ℕ) (t : ℕ → Bool) (a n : ℕ) → j < a → list_all (is_earlier (i, j)) (map (λ k. (i, k)) (filter t (range_with_len a n))) ≡ true
ahead_same i j t a zero h = refl
ahead_same i j t a (suc n) h = by (t a) (ahead_same i j t (a + 1) n (omega arith))
  where
    by : (b : Bool) → list_all (is_earlier (i, j)) (map (λ k. (i, k)) (filter t (range_with_len (a + 1) n))) ≡ true → list_all (is_earlier (i, j)) (map (λ k. (i, k)) (cond b (a ∷ filter t (range_with_len (a + 1) n)) (filter t (range_with_len (a + 1) n)))) ≡ true
    by true rest = together (is_earlier (i, j) (i, a)) (list_all (is_earlier (i, j)) (map (λ k. (i, k)) (filter t (range_with_len (a + 1) n)))) (earlier_same i j a h) rest
    by false rest = rest

ascend_same : (i : ℕ) (t : ℕ → Bool) (a n : ℕ) → each_two is_earlier (map (λ k. (i, k)) (filter t (range_with_len a n))) ≡ true
ascend_same i t a zero = refl
ascend_same i t a (suc n) = by (t a) (ascend_same i t (a + 1) n)
  where
    by : (b : Bool) → each_two is_earlier (map (λ k. (i, k)) (filter t (range_with_len (a + 1) n))) ≡ true → each_two is_earlier (map (λ k. (i, k)) (cond b (a ∷ filter t (range_with_len (a + 1) n)) (filter t (range_with_len (a + 1) n)))) ≡ true
    by true rest = together (list_all (is_earlier (i, a)) (map (λ k. (i, k)) (filter t (range_with_len (a + 1) n)))) (each_two is_earlier (map (λ k. (i, k)) (filter t (range_with_len (a + 1) n)))) (ahead_same i a t (a + 1) n (omega arith)) rest
    by false rest = rest

ahead_list : (i j c : ℕ) (ks : List ℕ) → i < c → list_all (is_earlier (i, j)) (map (λ k. (c, k)) ks) ≡ true
ahead_list i j c [] h = refl
ahead_list i j c (k ∷ ks) h = together (is_earlier (i, j) (c, k)) (list_all (is_earlier (i, j)) (map (λ k. (c, k)) ks)) (earlier_first i j c k h) (ahead_list i j c ks h)

ahead_all : (i j : ℕ) (f : ℕ → List ℕ) (a n : ℕ) → i < a → list_all (is_earlier (i, j)) (flat_map (λ c. map (λ k. (c, k)) (f c)) (range_with_len a n)) ≡ true
ahead_all i j f a zero h = refl
ahead_all i j f a (suc n) h =
    list_all-append (is_earlier (i, j)) (map (λ k. (a, k)) (f a)) (flat_map (λ c. map (λ k. (c, k)) (f c)) (range_with_len (a + 1) n))
    ∙ together (list_all (is_earlier (i, j)) (map (λ k. (a, k)) (f a))) (list_all (is_earlier (i, j)) (flat_map (λ c. map (λ k. (c, k)) (f c)) (range_with_len (a + 1) n))) (ahead_list i j a (f a) h) (ahead_all i j f (a + 1) n (omega arith))

each_two-append : {X : Type 0} (t : X → X → Bool) (xs ys : List X) → each_two t xs ≡ true → each_two t ys ≡ true → list_all (λ x. list_all (t x) ys) xs ≡ true → each_two t (xs ++ ys) ≡ true
each_two-append t [] ys p q r = q
each_two-append t (x ∷ xs) ys p q r =
    let a = both (list_all (t x) xs) (each_two t xs) p in
    let b = both (list_all (t x) ys) (list_all (λ y. list_all (t y) ys) xs) r in
    together (list_all (t x) (xs ++ ys)) (each_two t (xs ++ ys)) (list_all-append (t x) xs ys ∙ together (list_all (t x) xs) (list_all (t x) ys) a.0 b.0) (each_two-append t xs ys a.1 q b.1)

all_ahead : (f : ℕ → List ℕ) (c n : ℕ) (ks : List ℕ) → list_all (λ (x : ℕ × ℕ). list_all (is_earlier x) (flat_map (λ d. map (λ k. (d, k)) (f d)) (range_with_len (c + 1) n))) (map (λ j. (c, j)) ks) ≡ true
all_ahead f c n [] = refl
all_ahead f c n (k ∷ ks) =
    together (list_all (is_earlier (c, k)) (flat_map (λ d. map (λ k. (d, k)) (f d)) (range_with_len (c + 1) n)))
    (list_all (λ (x : ℕ × ℕ). list_all (is_earlier x) (flat_map (λ d. map (λ k. (d, k)) (f d)) (range_with_len (c + 1) n))) (map (λ j. (c, j)) ks))
    (ahead_all c k f (c + 1) n (omega arith)) (all_ahead f c n ks)

ascend_from : (t : ℕ → ℕ → Bool) (m a n : ℕ) → each_two is_earlier (flat_map (λ c. map (λ k. (c, k)) (filter (t c) (numbers_below m))) (range_with_len a n)) ≡ true
ascend_from t m a zero = refl
ascend_from t m a (suc n) =
    each_two-append is_earlier (map (λ k. (a, k)) (filter (t a) (numbers_below m))) (flat_map (λ c. map (λ k. (c, k)) (filter (t c) (numbers_below m))) (range_with_len (a + 1) n))
    (ascend_same a (t a) 0 m) (ascend_from t m (a + 1) n) (all_ahead (λ c. filter (t c) (numbers_below m)) a n (filter (t a) (numbers_below m)))

ends_ascend : (near : ℕ → List ℕ) (slots : List Node) → each_two is_earlier (all_ends near slots) ≡ true
ends_ascend near slots = ascend_from (λ i j. has (near (slot_clafer slots i)) (slot_clafer slots j)) (length slots) 0 (length slots)

pub each_two-map : {X Y : Type 0} (t : Y → Y → Bool) (h : X → Y) (xs : List X) → each_two t (map h xs) ≡ each_two (λ a b. t (h a) (h b)) xs
each_two-map t h [] = refl
each_two-map t h (x ∷ xs) = ap (λ b. b && each_two t (map h xs)) (list_all-map (t (h x)) h xs) ∙ ap (λ b. list_all (λ y. t (h x) (h y)) xs && b) (each_two-map t h xs)

all_at : {X : Type 0} (p : X → Bool) (xs : List X) (i : ℕ) (d : X) → list_all p xs ≡ true → i < length xs → p (get_or xs i d) ≡ true
all_at p [] i d a h = absurd (omega arith)
all_at p (x ∷ xs) zero d a h = (both (p x) (list_all p xs) a).0
all_at p (x ∷ xs) (suc i) d a h = all_at p xs i d (both (p x) (list_all p xs) a).1 (omega arith)

pub two_at : {X : Type 0} (t : X → X → Bool) (xs : List X) (i j : ℕ) (d e : X) → each_two t xs ≡ true → i < j → j < length xs → t (get_or xs i d) (get_or xs j e) ≡ true
two_at t [] i j d e a h l = absurd (omega arith)
two_at t (x ∷ xs) i zero d e a h l = absurd (omega arith)
two_at t (x ∷ xs) zero (suc j) d e a h l = all_at (t x) xs j e (both (list_all (t x) xs) (each_two t xs) a).0 (omega arith)
two_at t (x ∷ xs) (suc i) (suc j) d e a h l = two_at t xs i j d e (both (list_all (t x) xs) (each_two t xs) a).1 (omega arith) (omega arith)

-- the edges ascend by their ends
pub edges_ascend : (near : ℕ → List ℕ) (slots : List Node) (edges : List Edge) → ends edges ≡ all_ends near slots → each_two (λ (x y : Edge). is_earlier (x.from, x.to) (y.from, y.to)) edges ≡ true
edges_ascend near slots edges same = sym (each_two-map is_earlier (λ (x : Edge). (x.from, x.to)) edges) ∙ ap (each_two is_earlier) same ∙ ends_ascend near slots

pub edges_once : (near : ℕ → List ℕ) (slots : List Node) (edges : List Edge) → ends edges ≡ all_ends near slots → AreOnce edges
edges_once near slots edges same e f (k, l, at) (j, m, there) from to = by (nat_lt k j) refl
  where
    test : Edge → Edge → Bool
    test x y = is_earlier (x.from, x.to) (y.from, y.to)

    asc : each_two test edges ≡ true
    asc = edges_ascend near slots edges same

    apart : (x y : Edge) → x.from ≡ y.from → x.to ≡ y.to → test x y ≡ true → ⊥
    apart x y p q t = true≢false (sym t ∙ earlier_irrefl x.from x.to y.from y.to p q)

    by : (b : Bool) → nat_lt k j ≡ b → e ≡ f
    by true t =
        let less : k < j = grind (arith, nat_tests) in
        absurd (apart e f from to (sym (ap (λ x. test x f) at) ∙ ap (test (get_or edges k e)) (sym there) ∙ two_at test edges k j e f asc less m))
    by false t =
        let le : j ≤ k = grind (arith, nat_tests) in
        elim (eq-or-lt_of_le {n = j} {m = k} le) [
          | inl s ↦ sym at ∙ ap (λ i. get_or edges i e) (sym s) ∙ same_item edges j e f m ∙ there
          | inr less ↦ absurd (apart f e (sym from) (sym to) (sym (ap (λ x. test x e) there) ∙ ap (test (get_or edges j f)) (sym at) ∙ two_at test edges j k f e asc less l))
        ]
      where
        same_item : (xs : List Edge) (i : ℕ) (c d : Edge) → i < length xs → get_or xs i c ≡ get_or xs i d
        same_item [] i c d h = absurd (omega arith)
        same_item (x ∷ xs) zero c d h = refl
        same_item (x ∷ xs) (suc i) c d h = same_item xs i c d (omega arith)
