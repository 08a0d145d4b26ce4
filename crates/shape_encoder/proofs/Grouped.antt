-- The slots of each clafer, in order.
use Rattle.std.proofs.Common.{◌≡◌, ℕ, zero, suc, ◌+◌, ◌*◌, ◌<◌, ◌≤◌, Bool, true, false, cond, List, [], ◌∷◌, ◌++◌, length, replicate, take, get_or, set, refl, sym, ap, ◌∙◌, subst, arith, inl, inr, append-nil}
use Rattle.std.specs.Prelude.{◌==◌}
use Rattle.std.specs.List.{All, filter, sum_by}
use Rattle.std.proofs.lemmas.Bool.{cases_eq}
use Rattle.std.proofs.lemmas.Grind.{common_steps}
use Rattle.std.proofs.lemmas.List.{get_or-set_same, get_or-set_other}
use Rattle.std.proofs.lemmas.List.Elements.{All-head, All-tail, filter-append}
use Rattle.std.proofs.lemmas.List.Sums.{sum_by-cons}
use Rattle.clf_tree.specs.Lists.{numbers_below}
use Rattle.set_bits.specs.declared.layout.Layout.{Layout}
use Rattle.set_bits.specs.Fitting.{slot_clafer}
use Rattle.shape_encoder.specs.Comparing.{kin_below, kin_of, HoldsKin, turned_from, pairs_cost}
use Rattle.shape_encoder.proofs.Steps.{numbers-push}
use Rattle.shape_encoder.proofs.Compared.{same_number, sum_below-push}

itself : (n : ℕ) → (n == n) ≡ true
itself n = grind (arith, common_steps)

others : (m n : ℕ) → (m ≡ n → ⊥) → (m == n) ≡ false
others m n h = grind (arith, common_steps)

length-set : (xs : List (List ℕ)) (k : ℕ) (x : List ℕ) → length (set xs k x) ≡ length xs
length-set [] k x = refl
length-set (y ∷ ys) zero x = refl
length-set (y ∷ ys) (suc k) x = ap suc (length-set ys k x)

-- a slot more in the list of a clafer
pub added_there : (table : List (List ℕ)) (clafer slot : ℕ) (list new : List ℕ) → clafer < length table → list ≡ get_or table clafer [] → new ≡ list ++ slot ∷ [] → (c : ℕ)
    → get_or (set table clafer new) c [] ≡ get_or table c [] ++ cond (clafer == c) (slot ∷ []) []
added_there table clafer slot list new l was is c = elim (cases_eq c clafer) [
  | inl same ↦
      ap (λ n. get_or (set table clafer new) n []) same ∙ get_or-set_same table clafer new [] l ∙ is ∙ ap (λ xs. xs ++ slot ∷ []) was
      ∙ sym (ap (λ n. get_or table n [] ++ cond (clafer == n) (slot ∷ []) []) same ∙ ap (λ b. get_or table clafer [] ++ cond b (slot ∷ []) []) (itself clafer))
  | inr other ↦
      get_or-set_other table clafer c new [] other
      ∙ sym (ap (λ b. get_or table c [] ++ cond b (slot ∷ []) []) (others clafer c (λ s. other (sym s))) ∙ append-nil (get_or table c []))
]

pub added_length : (table : List (List ℕ)) (clafer : ℕ) (new : List ℕ) → length (set table clafer new) ≡ length table
added_length table clafer new = length-set table clafer new

pub left_out : (table : List (List ℕ)) (clafer slot c : ℕ) → length table ≤ clafer → c < length table → get_or table c [] ≡ get_or table c [] ++ cond (clafer == c) (slot ∷ []) []
left_out table clafer slot c l m = sym (ap (λ b. get_or table c [] ++ cond b (slot ∷ []) []) (others clafer c (λ s. omega (arith, s, l, m))) ∙ append-nil (get_or table c []))

pub ruleset adding = (added_there, added_length, left_out)

abbrev nothing : List ℕ
nothing = []

pub none_held : (layout : Layout) (count : ℕ) (table : List (List ℕ)) → table ≡ replicate count [] → HoldsKin layout 0 count table
none_held layout count table e = rw e (record { len = sized count; at = λ c l. empty count c })
  where
    sized : (n : ℕ) → length (replicate n nothing) ≡ n
    sized zero = refl
    sized (suc n) = ap suc (sized n)

    empty : (n i : ℕ) → get_or (replicate n nothing) i [] ≡ []
    empty zero i = refl
    empty (suc n) zero = refl
    empty (suc n) (suc i) = empty n i

kin-push : (layout : Layout) (n c : ℕ) → kin_below layout (n + 1) c ≡ kin_below layout n c ++ cond (slot_clafer layout.slots n == c) (n ∷ []) []
kin-push layout n c = ap (filter (λ i. slot_clafer layout.slots i == c)) (numbers-push n) ∙ filter-append (λ i. slot_clafer layout.slots i == c) (numbers_below n) (n ∷ [])

pub held_more : (layout : Layout) (n count clafer : ℕ) (old new : List (List ℕ)) → slot_clafer layout.slots n ≡ clafer → length new ≡ length old
    → ((c : ℕ) → c < length old → get_or new c [] ≡ get_or old c [] ++ cond (clafer == c) (n ∷ []) []) → HoldsKin layout n count old → HoldsKin layout (n + 1) count new
held_more layout n count clafer old new e len more h = record {
  len = len ∙ h.len;
  at = λ c l.
      more c (let s = h.len in omega (arith, l, s)) ∙ ap (λ xs. xs ++ cond (clafer == c) (n ∷ []) []) (h.at c l)
      ∙ sym (kin-push layout n c ∙ ap (λ m. kin_below layout n c ++ cond (m == c) (n ∷ []) []) e);
}

-- ---- a slot in the list of its clafer

take_first : (xs ys : List ℕ) (k : ℕ) → k ≤ length xs → take k (xs ++ ys) ≡ take k xs
take_first xs ys zero h = refl
take_first [] ys (suc k) h = absurd (omega (arith, h))
take_first (x ∷ xs) ys (suc k) h = ap (λ zs. x ∷ zs) (take_first xs ys k (omega (arith, h)))

get_first : (xs ys : List ℕ) (k d : ℕ) → k < length xs → get_or (xs ++ ys) k d ≡ get_or xs k d
get_first [] ys k d h = absurd (omega (arith, h))
get_first (x ∷ xs) ys zero d h = refl
get_first (x ∷ xs) ys (suc k) d h = get_first xs ys k d (omega (arith, h))

take_before : (xs ys : List ℕ) (k : ℕ) → k ≡ length xs → take k (xs ++ ys) ≡ xs
take_before xs ys k e = take_first xs ys k (omega (arith, e)) ∙ whole xs k e
  where
    whole : (zs : List ℕ) (m : ℕ) → m ≡ length zs → take m zs ≡ zs
    whole [] zero f = refl
    whole [] (suc m) f = absurd (omega (arith, f))
    whole (z ∷ zs) zero f = absurd (omega (arith, f))
    whole (z ∷ zs) (suc m) f = ap (λ ws. z ∷ ws) (whole zs m (omega (arith, f)))

get_next : (xs : List ℕ) (y k d : ℕ) → k ≡ length xs → get_or (xs ++ y ∷ []) k d ≡ y
get_next [] y zero d e = refl
get_next [] y (suc k) d e = absurd (omega (arith, e))
get_next (x ∷ xs) y zero d e = absurd (omega (arith, e))
get_next (x ∷ xs) y (suc k) d e = get_next xs y k d (omega (arith, e))

-- what is known of the k-th of some numbers
record IsAt (layout : Layout) (n c k : ℕ) : Type 0 where
  known : get_or (kin_below layout n c) k 0 < n
  same : slot_clafer layout.slots (get_or (kin_below layout n c) k 0) ≡ c
  before : take k (kin_below layout n c) ≡ kin_below layout (get_or (kin_below layout n c) k 0) c

kin_at : (layout : Layout) (c n k : ℕ) → k < length (kin_below layout n c) → IsAt layout n c k
kin_at layout c zero k h = absurd (omega (arith, h))
kin_at layout c (suc n) k h = subst (λ m. IsAt layout m c k) next (by (slot_clafer layout.slots n == c) refl (kin_at layout c n k))
  where
    next : n + 1 ≡ suc n
    next = omega arith

    longer : k < length (kin_below layout (n + 1) c)
    longer = subst (λ m. k < length (kin_below layout m c)) (sym next) h

    old : List ℕ
    old = kin_below layout n c

    kept : (ys : List ℕ) → kin_below layout (n + 1) c ≡ old ++ ys → k < length old → IsAt layout n c k → IsAt layout (n + 1) c k
    kept ys e l r =
        let it : get_or (kin_below layout (n + 1) c) k 0 ≡ get_or old k 0 = ap (λ xs. get_or xs k 0) e ∙ get_first old ys k 0 l in
        record {
          known = (let m = r.known in omega (arith, m, it));
          same = ap (slot_clafer layout.slots) it ∙ r.same;
          before = ap (take k) e ∙ take_first old ys k (omega (arith, l)) ∙ r.before ∙ ap (λ i. kin_below layout i c) (sym it);
        }

    last : kin_below layout (n + 1) c ≡ old ++ n ∷ [] → slot_clafer layout.slots n ≡ c → k ≡ length old → IsAt layout (n + 1) c k
    last e s l =
        let it : get_or (kin_below layout (n + 1) c) k 0 ≡ n = ap (λ xs. get_or xs k 0) e ∙ get_next old n k 0 l in
        record {
          known = omega (arith, it);
          same = ap (slot_clafer layout.slots) it ∙ s;
          before = ap (take k) e ∙ take_before old (n ∷ []) k l ∙ ap (λ i. kin_below layout i c) (sym it);
        }

    by : (b : Bool) → (slot_clafer layout.slots n == c) ≡ b → (k < length old → IsAt layout n c k) → IsAt layout (n + 1) c k
    by true t rest =
        let e : kin_below layout (n + 1) c ≡ old ++ n ∷ [] = kin-push layout n c ∙ ap (λ b. old ++ cond b (n ∷ []) []) t in
        let more : length (kin_below layout (n + 1) c) ≡ length old + 1 = ap length e ∙ one old in
        elim (cases_eq k (length old)) [
          | inl s ↦ last e (same_number (slot_clafer layout.slots n) c t) s
          | inr s ↦ let l : k < length old = less k (length old) (omega (arith, longer, more)) s in kept (n ∷ []) e l (rest l)
        ]
      where
        one : (xs : List ℕ) → length (xs ++ n ∷ []) ≡ length xs + 1
        one [] = refl
        one (x ∷ xs) = let r = one xs in omega (arith, r)

        less : (a b : ℕ) → a ≤ b → (a ≡ b → ⊥) → a < b
        less a b g ne = grind (arith, common_steps)
    by false t rest =
        let e : kin_below layout (n + 1) c ≡ old ++ [] = kin-push layout n c ∙ ap (λ b. old ++ cond b (n ∷ []) []) t in
        let l : k < length old = (let m : length (kin_below layout (n + 1) c) ≡ length old = ap length (e ∙ append-nil old) in omega (arith, longer, m)) in
        kept [] e l (rest l)

-- each slot of a clafer is known, and those before it are its clafer's below it
same_default : (xs : List ℕ) (i d e : ℕ) → i < length xs → get_or xs i d ≡ get_or xs i e
same_default [] i d e h = absurd (omega (arith, h))
same_default (x ∷ xs) zero d e h = refl
same_default (x ∷ xs) (suc i) d e h = same_default xs i d e (omega (arith, h))

pub kin_known : (layout : Layout) (c : ℕ) → All (λ i. i < length layout.slots) (kin_of layout c)
kin_known layout c = λ k d l. let m = (kin_at layout c (length layout.slots) k l).known in let e = same_default (kin_of layout c) k d 0 l in omega (arith, e, m)

pub kin_clafers : (layout : Layout) (c : ℕ) → All (λ i. slot_clafer layout.slots i ≡ c) (kin_of layout c)
kin_clafers layout c = λ k d l. ap (slot_clafer layout.slots) (same_default (kin_of layout c) k d 0 l) ∙ (kin_at layout c (length layout.slots) k l).same

pub kin_before : (layout : Layout) (c k : ℕ) → k < length (kin_of layout c) → take k (kin_of layout c) ≡ kin_below layout (get_or (kin_of layout c) k 0) c
kin_before layout c k l = (kin_at layout c (length layout.slots) k l).before

-- ---- sums over the slots of a clafer

-- what is 0 elsewhere
sum_kept : (p : ℕ → Bool) (f : ℕ → ℕ) (xs : List ℕ) → sum_by f (filter p xs) ≡ sum_by (λ x. cond (p x) (f x) 0) xs
sum_kept p f [] = refl
sum_kept p f (x ∷ xs) =
    let r = sum_kept p f xs in
    let c = sum_by-cons (λ y. cond (p y) (f y) 0) x xs in
    let d = by (p x) in
    omega (arith, r, c, d)
  where
    by : (b : Bool) → sum_by f (cond b (x ∷ filter p xs) (filter p xs)) ≡ cond b (f x) 0 + sum_by f (filter p xs)
    by true = sum_by-cons f x (filter p xs)
    by false = omega arith

pub sum_on : (f g : ℕ → ℕ) (xs : List ℕ) → All (λ x. f x ≡ g x) xs → sum_by f xs ≡ sum_by g xs
sum_on f g [] h = refl
sum_on f g (x ∷ xs) h =
    let r = sum_on f g xs (All-tail (λ y. f y ≡ g y) x xs h) in
    let c = sum_by-cons f x xs in
    let d = sum_by-cons g x xs in
    let e = All-head (λ y. f y ≡ g y) x xs h in
    omega (arith, r, c, d, e)

-- pairs of a slot with those of its clafer before it
pub pairs_within : (layout : Layout) (c i : ℕ) → slot_clafer layout.slots i ≡ c
    → pairs_cost layout i i ≡ sum_by (λ j. 2 * length (turned_from layout.parents j) + 2 * length (turned_from layout.targets j) + 5) (kin_below layout i c)
pairs_within layout c i e =
    ap (λ n. sum_by (λ j. cond (slot_clafer layout.slots j == n) (2 * length (turned_from layout.parents j) + 2 * length (turned_from layout.targets j) + 5) 0) (numbers_below i)) e
    ∙ sym (sum_kept (λ j. slot_clafer layout.slots j == c) (λ j. 2 * length (turned_from layout.parents j) + 2 * length (turned_from layout.targets j) + 5) (numbers_below i))

-- the sum over all items of a list, by their keys, is no more than over the list
pub sum_by_keys : (key f : ℕ → ℕ) (xs : List ℕ) (n : ℕ) → sum_by (λ c. sum_by f (filter (λ x. key x == c) xs)) (numbers_below n) ≤ sum_by f xs
sum_by_keys key f [] n = none n
  where
    none : (m : ℕ) → sum_by (λ c. sum_by f (filter (λ x. key x == c) [])) (numbers_below m) ≤ 0
    none zero = omega arith
    none (suc m) =
        let e : suc m ≡ m + 1 = omega arith in
        let s = ap (λ k. sum_by (λ (c : ℕ). 0) (numbers_below k)) e ∙ sum_below-push (λ c. 0) m in
        let r = none m in
        omega (arith, s, r)
sum_by_keys key f (x ∷ xs) n =
    let r = sum_by_keys key f xs n in
    let c = sum_by-cons f x xs in
    let l = least n in
    omega (arith, r, c, l)
  where
    one : ℕ → ℕ
    one c = cond (key x == c) (f x) 0

    rest : ℕ → ℕ
    rest c = sum_by f (filter (λ y. key y == c) xs)

    split : (b : Bool) (ys : List ℕ) → sum_by f (cond b (x ∷ ys) ys) ≡ cond b (f x) 0 + sum_by f ys
    split true ys = sum_by-cons f x ys
    split false ys = omega arith

    parts : (m : ℕ) → sum_by (λ c. sum_by f (filter (λ y. key y == c) (x ∷ xs))) (numbers_below m) ≡ sum_by one (numbers_below m) + sum_by rest (numbers_below m)
    parts zero = refl
    parts (suc m) =
        let e : suc m ≡ m + 1 = omega arith in
        let a = ap (λ k. sum_by (λ c. sum_by f (filter (λ y. key y == c) (x ∷ xs))) (numbers_below k)) e ∙ sum_below-push (λ c. sum_by f (filter (λ y. key y == c) (x ∷ xs))) m in
        let b = ap (λ k. sum_by one (numbers_below k)) e ∙ sum_below-push one m in
        let d = ap (λ k. sum_by rest (numbers_below k)) e ∙ sum_below-push rest m in
        let g = split (key x == m) (filter (λ y. key y == m) xs) in
        let r = parts m in
        omega (arith, a, b, d, g, r)

    -- the item is counted once at most
    once : (m : ℕ) → (sum_by one (numbers_below m) ≤ f x) × (m ≤ key x → sum_by one (numbers_below m) ≡ 0)
    once zero = (omega arith, λ h. refl)
    once (suc m) = by (key x == m) refl (once m)
      where
        next : sum_by one (numbers_below (suc m)) ≡ sum_by one (numbers_below m) + one m
        next = let e : suc m ≡ m + 1 = omega arith in ap (λ k. sum_by one (numbers_below k)) e ∙ sum_below-push one m

        by : (b : Bool) → (key x == m) ≡ b → (sum_by one (numbers_below m) ≤ f x) × (m ≤ key x → sum_by one (numbers_below m) ≡ 0) → (sum_by one (numbers_below (suc m)) ≤ f x) × (suc m ≤ key x → sum_by one (numbers_below (suc m)) ≡ 0)
        by true t o =
            let k : key x ≡ m = same_number (key x) m t in
            let z = o.1 (omega (arith, k)) in
            let v : one m ≡ f x = ap (λ b. cond b (f x) 0) t in
            (omega (arith, next, z, v), λ h. absurd (omega (arith, h, k)))
        by false t o =
            let v : one m ≡ 0 = ap (λ b. cond b (f x) 0) t in
            let s = o.0 in
            (omega (arith, next, s, v), λ h. let z = o.1 (omega (arith, h)) in omega (arith, next, z, v))

    least : (m : ℕ) → sum_by (λ c. sum_by f (filter (λ y. key y == c) (x ∷ xs))) (numbers_below m) ≤ f x + sum_by rest (numbers_below m)
    least m = let p = parts m in let o = (once m).0 in omega (arith, p, o)
