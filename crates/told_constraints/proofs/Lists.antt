-- Tests of lists, and of the slots below a number.
use Rattle.std.proofs.Common.{◌≡◌, ◌≢◌, ℕ, zero, suc, ◌+◌, ◌<◌, ◌≤◌, Bool, true, false, not, cond, ◌&&◌, ◌||◌, List, [], ◌∷◌, map, Some, refl, sym, ap, ◌∙◌, arith, ◌⊎◌, inl, inr}
use Rattle.std.specs.Prelude.{◌==◌}
use Rattle.std.specs.List.{filter, list_all, list_any, range_with_len, find, count_by}
use Rattle.std.specs.Option.{option_map_or}
use Rattle.std.proofs.lemmas.Bool.Decides.{eqb_tells}
use Rattle.std.proofs.lemmas.Grind.{common_steps}
use Rattle.shown_instance.proofs.Order.{both, together}
use Rattle.shown_instance.proofs.Counts.{count-cons}

-- ---- lists

pub filter_map : {X Y : Type 0} (q : Y → Bool) (f : X → Y) (xs : List X) → filter q (map f xs) ≡ map f (filter (λ x. q (f x)) xs)
filter_map q f [] = refl
filter_map q f (x ∷ xs) = by (q (f x)) (filter_map q f xs)
  where
    by : (b : Bool) → filter q (map f xs) ≡ map f (filter (λ x. q (f x)) xs)
        → cond b (f x ∷ filter q (map f xs)) (filter q (map f xs))
        ≡ map f (cond b (x ∷ filter (λ x. q (f x)) xs) (filter (λ x. q (f x)) xs))
    by true rest = ap (λ ys. f x ∷ ys) rest
    by false rest = rest

pub filter_filter : {X : Type 0} (q p : X → Bool) (xs : List X) → filter q (filter p xs) ≡ filter (λ x. p x && q x) xs
filter_filter q p [] = refl
filter_filter q p (x ∷ xs) = by (p x) (filter_filter q p xs)
  where
    by : (b : Bool) → filter q (filter p xs) ≡ filter (λ x. p x && q x) xs
        → filter q (cond b (x ∷ filter p xs) (filter p xs)) ≡ cond (b && q x) (x ∷ filter (λ x. p x && q x) xs)
        (filter (λ x. p x && q x) xs)
    by true rest = ap (λ ys. cond (q x) (x ∷ ys) ys) rest
    by false rest = rest

pub all_filter : {X : Type 0} (q p : X → Bool) (xs : List X) → list_all q (filter p xs) ≡ list_all (λ x. not (p x) || q x) xs
all_filter q p [] = refl
all_filter q p (x ∷ xs) = by (p x) (all_filter q p xs)
  where
    by : (b : Bool) → list_all q (filter p xs) ≡ list_all (λ x. not (p x) || q x) xs
        → list_all q (cond b (x ∷ filter p xs) (filter p xs)) ≡ ((not b || q x) && list_all (λ x. not (p x) || q x) xs)
    by true rest = ap (λ b. q x && b) rest
    by false rest = rest

pub any_filter : {X : Type 0} (q p : X → Bool) (xs : List X) → list_any q (filter p xs) ≡ list_any (λ x. p x && q x) xs
any_filter q p [] = refl
any_filter q p (x ∷ xs) = by (p x) (any_filter q p xs)
  where
    by : (b : Bool) → list_any q (filter p xs) ≡ list_any (λ x. p x && q x) xs
        → list_any q (cond b (x ∷ filter p xs) (filter p xs)) ≡ ((b && q x) || list_any (λ x. p x && q x) xs)
    by true rest = ap (λ b. q x || b) rest
    by false rest = rest

-- of tests joined in each item, the second holds in each
pub all_second : {X : Type 0} (p q r : X → Bool) (xs : List X) → list_all (λ x. (p x && q x) && r x) xs ≡ true → list_all q xs ≡ true
all_second p q r [] h = refl
all_second p q r (x ∷ xs) h =
    let i = both ((p x && q x) && r x) (list_all (λ y. (p y && q y) && r y) xs) h in
    together (q x) (list_all q xs) (both (p x) (q x) (both (p x && q x) (r x) i.0).0).1 (all_second p q r xs i.1)

-- a joined test of all items is two tests of all
pub all_and : {X : Type 0} (p q : X → Bool) (xs : List X) → list_all (λ x. p x && q x) xs ≡ (list_all p xs && list_all q xs)
all_and p q [] = refl
all_and p q (x ∷ xs) = ap (λ b. (p x && q x) && b) (all_and p q xs) ∙ cross (p x) (q x) (list_all p xs) (list_all q xs)
  where
    cross : (a b c d : Bool) → ((a && b) && (c && d)) ≡ ((a && c) && (b && d))
    cross true true c d = refl
    cross true false true d = refl
    cross true false false d = refl
    cross false b c d = refl

pub or_false : (b : Bool) → (b || false) ≡ b
or_false true = refl
or_false false = refl

any_none : {X : Type 0} (p q : X → Bool) (xs : List X) → count_by p xs ≡ 0 → list_any (λ x. p x && q x) xs ≡ false
any_none p q [] h = refl
any_none p q (x ∷ xs) h = by (p x) refl (any_none p q xs)
  where
    by : (b : Bool) → p x ≡ b → (count_by p xs ≡ 0 → list_any (λ y. p y && q y) xs ≡ false)
        → ((p x && q x) || list_any (λ y. p y && q y) xs) ≡ false
    by true t rest = let c = count-cons p x xs ∙ ap (λ b. cond b 1 0 + count_by p xs) t in absurd (omega (arith, c, h))
    by false t rest = let c = count-cons p x xs ∙ ap (λ b. cond b 1 0 + count_by p xs) t in ap
        (λ b. (b && q x) || list_any (λ y. p y && q y) xs) t ∙ rest (omega (arith, c, h))

-- where at most one item passes, some that passes has a property exactly where the first has it
pub any_single : {X : Type 0} (p q : X → Bool) (xs : List X) → count_by p xs ≤ 1
    → list_any (λ x. p x && q x) xs ≡ option_map_or q (find p xs) false
any_single p q [] h = refl
any_single p q (x ∷ xs) h = by (p x) refl (any_single p q xs)
  where
    by : (b : Bool) → p x ≡ b → (count_by p xs ≤ 1 → list_any (λ y. p y && q y) xs ≡ option_map_or q (find p xs) false)
        → ((p x && q x) || list_any (λ y. p y && q y) xs) ≡ option_map_or q (cond (p x) (Some x) (find p xs)) false
    by true t rest =
        let n = count-cons p x xs ∙ ap (λ b. cond b 1 0 + count_by p xs) t in
        ap (λ b. (b && q x) || list_any (λ y. p y && q y) xs) t ∙ ap (λ b. q x || b) (any_none p q xs (omega (arith, n, h)))
        ∙ or_false (q x)
        ∙ sym (ap (λ b. option_map_or q (cond b (Some x) (find p xs)) false) t)
    by false t rest =
        let n = count-cons p x xs ∙ ap (λ b. cond b 1 0 + count_by p xs) t in
        ap (λ b. (b && q x) || list_any (λ y. p y && q y) xs) t ∙ rest (omega (arith, n, h))
        ∙ sym (ap (λ b. option_map_or q (cond b (Some x) (find p xs)) false) t)

-- ---- numbers in a range

pub filter_range : (p q : ℕ → Bool) (a m : ℕ) → ((i : ℕ) → a ≤ i → i < a + m → p i ≡ q i)
    → filter p (range_with_len a m) ≡ filter q (range_with_len a m)
filter_range p q a zero h = refl
filter_range p q a (suc m) h =
    ap (λ b. cond b (a ∷ filter p (range_with_len (a + 1) m)) (filter p (range_with_len (a + 1) m))) (h a (omega arith) (omega arith))
    ∙ ap (λ ys. cond (q a) (a ∷ ys) ys) (filter_range p q (a + 1) m (λ i l u. h i (omega arith) (omega arith)))

pub all_range : (p q : ℕ → Bool) (a m : ℕ) → ((i : ℕ) → a ≤ i → i < a + m → p i ≡ q i)
    → list_all p (range_with_len a m) ≡ list_all q (range_with_len a m)
all_range p q a zero h = refl
all_range p q a (suc m) h = ap (λ b. b && list_all p (range_with_len (a + 1) m)) (h a (omega arith) (omega arith))
    ∙ ap (λ b. q a && b) (all_range p q (a + 1) m (λ i l u. h i (omega arith) (omega arith)))

pub any_range : (p q : ℕ → Bool) (a m : ℕ) → ((i : ℕ) → a ≤ i → i < a + m → p i ≡ q i)
    → list_any p (range_with_len a m) ≡ list_any q (range_with_len a m)
any_range p q a zero h = refl
any_range p q a (suc m) h = ap (λ b. b || list_any p (range_with_len (a + 1) m)) (h a (omega arith) (omega arith))
    ∙ ap (λ b. q a || b) (any_range p q (a + 1) m (λ i l u. h i (omega arith) (omega arith)))

pub map_range : {Y : Type 0} (f g : ℕ → Y) (p : ℕ → Bool) (a m : ℕ) → ((i : ℕ) → a ≤ i → i < a + m → p i ≡ true → f i ≡ g i)
    → map f (filter p (range_with_len a m)) ≡ map g (filter p (range_with_len a m))
map_range f g p a zero h = refl
map_range f g p a (suc m) h = by (p a) refl (map_range f g p (a + 1) m (λ i l u t. h i (omega arith) (omega arith) t))
  where
    by : (b : Bool) → p a ≡ b → map f (filter p (range_with_len (a + 1) m)) ≡ map g (filter p (range_with_len (a + 1) m))
        → map f (cond b (a ∷ filter p (range_with_len (a + 1) m)) (filter p (range_with_len (a + 1) m)))
        ≡ map g (cond b (a ∷ filter p (range_with_len (a + 1) m)) (filter p (range_with_len (a + 1) m)))
    by true t rest = ap (λ y. y ∷ map f (filter p (range_with_len (a + 1) m))) (h a (omega arith) (omega arith) t)
        ∙ ap (λ ys. g a ∷ ys) rest
    by false t rest = rest

no_key : (h : ℕ → Bool) (k a m : ℕ) → k < a → list_any (λ i. (k == i) && h i) (range_with_len a m) ≡ false
no_key h k a zero l = refl
no_key h k a (suc m) l =
    let e : (k == a) ≡ false = grind (arith, common_steps) in
    ap (λ b. (b && h a) || list_any (λ i. (k == i) && h i) (range_with_len (a + 1) m)) e ∙ no_key h k (a + 1) m (omega arith)

-- of the numbers in a range one is k
pub any_key : (h : ℕ → Bool) (k a m : ℕ) → a ≤ k → k < a + m → list_any (λ i. (k == i) && h i) (range_with_len a m) ≡ h k
any_key h k a zero l u = absurd (omega arith)
any_key h k a (suc m) l u = by (eqb_tells k a) (any_key h k (a + 1) m)
  where
    more : (k a : ℕ) → a ≤ k → k ≢ a → a + 1 ≤ k
    more k a l ne = grind (arith, common_steps)

    by : (((k == a) ≡ true) × (k ≡ a)) ⊎ (((k == a) ≡ false) × (k ≢ a))
        → (a + 1 ≤ k → k < (a + 1) + m → list_any (λ i. (k == i) && h i) (range_with_len (a + 1) m) ≡ h k)
        → (((k == a) && h a) || list_any (λ i. (k == i) && h i) (range_with_len (a + 1) m)) ≡ h k
    by (inl e) rest =
        let none = no_key h k (a + 1) m (omega (arith, e.1)) in
        ap (λ b. (b && h a) || list_any (λ i. (k == i) && h i) (range_with_len (a + 1) m)) e.0 ∙ ap (λ b. h a || b) none ∙ or_false (h a)
        ∙ ap h (sym e.1)
    by (inr e) rest = ap (λ b. (b && h a) || list_any (λ i. (k == i) && h i) (range_with_len (a + 1) m)) e.0
        ∙ rest (more k a l e.1) (omega arith)

filter_no_key : (k a m : ℕ) → k < a → filter (λ i. i == k) (range_with_len a m) ≡ []
filter_no_key k a zero l = refl
filter_no_key k a (suc m) l =
    let e : (a == k) ≡ false = grind (arith, common_steps) in
    ap (λ b. cond b (a ∷ filter (λ i. i == k) (range_with_len (a + 1) m)) (filter (λ i. i == k) (range_with_len (a + 1) m))) e
    ∙ filter_no_key k (a + 1) m (omega arith)

pub filter_key : (k a m : ℕ) → a ≤ k → k < a + m → filter (λ i. i == k) (range_with_len a m) ≡ k ∷ []
filter_key k a zero l u = absurd (omega arith)
filter_key k a (suc m) l u = by (eqb_tells a k) (filter_key k (a + 1) m)
  where
    more : (k a : ℕ) → a ≤ k → a ≢ k → a + 1 ≤ k
    more k a l ne = grind (arith, common_steps)

    by : (((a == k) ≡ true) × (a ≡ k)) ⊎ (((a == k) ≡ false) × (a ≢ k))
        → (a + 1 ≤ k → k < (a + 1) + m → filter (λ i. i == k) (range_with_len (a + 1) m) ≡ k ∷ [])
        → cond (a == k) (a ∷ filter (λ i. i == k) (range_with_len (a + 1) m)) (filter (λ i. i == k) (range_with_len (a + 1) m)) ≡ k ∷ []
    by (inl e) rest =
        let none = filter_no_key k (a + 1) m (omega (arith, e.1)) in
        ap (λ b. cond b (a ∷ filter (λ i. i == k) (range_with_len (a + 1) m)) (filter (λ i. i == k) (range_with_len (a + 1) m))) e.0
        ∙ ap (λ ys. a ∷ ys) none ∙ ap (λ j. j ∷ []) e.1
    by (inr e) rest = ap (λ b. cond b (a ∷ filter (λ i. i == k) (range_with_len (a + 1) m))
        (filter (λ i. i == k) (range_with_len (a + 1) m))) e.0 ∙ rest (more k a l e.1) (omega arith)

filter_false : (a m : ℕ) → filter (λ i. false) (range_with_len a m) ≡ []
filter_false a zero = refl
filter_false a (suc m) = filter_false (a + 1) m

pub filter_none : (n : ℕ) → filter (λ i. false) (range_with_len 0 n) ≡ []
filter_none n = filter_false 0 n
