-- How many edges are taken, and how many entries of the shown instance have a parent.
use Rattle.std.proofs.Common.{◌≡◌, ◌≢◌, ℕ, zero, suc, ◌+◌, ◌<◌, ◌≤◌, Bool, true, false, cond, ◌&&◌, List, [], ◌∷◌, length, map, Option, Some, None, refl, sym, ap, ◌∙◌, subst, arith, ◌⊎◌, inl, inr}
use Rattle.std.specs.Prelude.{slice_get, ◌==◌, unwrap_or}
use Rattle.std.specs.Option.{option_map_or, option_and_then}
use Rattle.std.specs.List.{filter, find, All, range_with_len, count_by, sum_by}
use Rattle.std.proofs.lemmas.Bool.{true≢false}
use Rattle.std.proofs.lemmas.Bool.Decides.{eqb_tells}
use Rattle.std.proofs.lemmas.Grind.{common_steps}
use Rattle.std.proofs.lemmas.List.Elements.{All-head, All-tail}
use Rattle.std.proofs.lemmas.List.Sums.{sum_by-cons}
use Rattle.bool_circuit.specs.Circuit.{entry}
use Rattle.clf_tree.specs.declared.instance.Node.{Node}
use Rattle.clf_tree.specs.declared.instance.Entry.{Entry}
use Rattle.clf_tree.specs.Lists.{each_two, numbers_below}
use Rattle.clf_tree.specs.Nodes.{same_node, is_before}
use Rattle.clf_tree.specs.Shape.{is_child_of}
use Rattle.set_bits.specs.declared.layout.Edge.{Edge}
use Rattle.set_bits.specs.declared.layout.Layout.{Layout}
use Rattle.integer_bits.specs.Totals.{count_true}
use Rattle.set_bits.specs.Fitting.{slot, slot_clafer}
use Rattle.shown_instance.specs.Shown.{shown, entry_at, is_taken, is_live}
use Rattle.shown_instance.proofs.Order.{both, same_nodes, same_itself}
use Rattle.shown_instance.proofs.Telling.{slot_at, slot_once}

-- ---- counts of lists

pub count-cons : {X : Type 0} (p : X → Bool) (x : X) (xs : List X) → count_by p (x ∷ xs) ≡ cond (p x) 1 0 + count_by p xs
count-cons p x xs = sum_by-cons (λ y. cond (p y) 1 0) x xs

pub count-same : {X : Type 0} (p q : X → Bool) (xs : List X) → ((x : X) → p x ≡ q x) → count_by p xs ≡ count_by q xs
count-same p q [] h = refl
count-same p q (x ∷ xs) h = count-cons p x xs ∙ ap (λ b. cond b 1 0 + count_by p xs) (h x) ∙ ap (λ n. cond (q x) 1 0 + n) (count-same p q xs h) ∙ sym (count-cons q x xs)

pub count-filter : {X : Type 0} (p q : X → Bool) (xs : List X) → count_by p (filter q xs) ≡ count_by (λ x. q x && p x) xs
count-filter p q [] = refl
count-filter p q (x ∷ xs) = by (q x) (count-filter p q xs) ∙ sym (count-cons (λ y. q y && p y) x xs)
  where
    by : (b : Bool) → count_by p (filter q xs) ≡ count_by (λ x. q x && p x) xs → count_by p (cond b (x ∷ filter q xs) (filter q xs)) ≡ cond (b && p x) 1 0 + count_by (λ y. q y && p y) xs
    by true rest = count-cons p x (filter q xs) ∙ ap (λ n. cond (p x) 1 0 + n) rest
    by false rest = omega (arith, rest)

pub count-map : {X Y : Type 0} (p : Y → Bool) (f : X → Y) (xs : List X) → count_by p (map f xs) ≡ count_by (λ x. p (f x)) xs
count-map p f [] = refl
count-map p f (x ∷ xs) = count-cons p (f x) (map f xs) ∙ ap (λ n. cond (p (f x)) 1 0 + n) (count-map p f xs) ∙ sym (count-cons (λ y. p (f y)) x xs)

-- how many of some wires are true
pub count_true-map : {X : Type 0} (v : X → Bool) (xs : List X) → count_true (map v xs) ≡ count_by v xs
count_true-map v [] = refl
count_true-map v (x ∷ xs) = by (v x) (count_true-map v xs) ∙ sym (count-cons v x xs)
  where
    by : (b : Bool) → count_true (map v xs) ≡ count_by v xs → count_true (b ∷ map v xs) ≡ cond b 1 0 + count_by v xs
    by true rest = omega (arith, rest)
    by false rest = omega (arith, rest)

pub sum-same : (f g : ℕ → ℕ) (a n : ℕ) → ((i : ℕ) → a ≤ i → i < a + n → f i ≡ g i) → sum_by f (range_with_len a n) ≡ sum_by g (range_with_len a n)
sum-same f g a zero h = refl
sum-same f g a (suc n) h =
    let here = h a (omega arith) (omega arith) in
    let rest = sum-same f g (a + 1) n (λ i l m. h i (omega arith) (omega arith)) in
    sum_by-cons f a (range_with_len (a + 1) n) ∙ ap (λ k. k + sum_by f (range_with_len (a + 1) n)) here ∙ ap (λ k. g a + k) rest ∙ sym (sum_by-cons g a (range_with_len (a + 1) n))

sum-add : (f g : ℕ → ℕ) (xs : List ℕ) → sum_by (λ i. f i + g i) xs ≡ sum_by f xs + sum_by g xs
sum-add f g [] = refl
sum-add f g (x ∷ xs) = let a = sum_by-cons (λ i. f i + g i) x xs in let b = sum_by-cons f x xs in let c = sum_by-cons g x xs in let d = sum-add f g xs in omega (arith, a, b, c, d)

no_key : (k : ℕ) (b : Bool) (a n : ℕ) → k < a → sum_by (λ i. cond ((k == i) && b) 1 0) (range_with_len a n) ≡ 0
no_key k b a zero h = refl
no_key k b a (suc n) h =
    let e : (k == a) ≡ false = grind (arith, common_steps) in
    sum_by-cons (λ i. cond ((k == i) && b) 1 0) a (range_with_len (a + 1) n) ∙ ap (λ c. cond (c && b) 1 0 + sum_by (λ i. cond ((k == i) && b) 1 0) (range_with_len (a + 1) n)) e
    ∙ (let rest = no_key k b (a + 1) n (omega arith) in omega (arith, rest))

one_key : (k : ℕ) (b : Bool) (a n : ℕ) → a ≤ k → k < a + n → sum_by (λ i. cond ((k == i) && b) 1 0) (range_with_len a n) ≡ cond b 1 0
one_key k b a zero h l = absurd (omega arith)
one_key k b a (suc n) h l = sum_by-cons (λ i. cond ((k == i) && b) 1 0) a (range_with_len (a + 1) n) ∙ by (eqb_tells k a) (one_key k b (a + 1) n)
  where
    by : (((k == a) ≡ true) × (k ≡ a)) ⊎ (((k == a) ≡ false) × (k ≢ a)) → (a + 1 ≤ k → k < (a + 1) + n → sum_by (λ i. cond ((k == i) && b) 1 0) (range_with_len (a + 1) n) ≡ cond b 1 0)
        → cond ((k == a) && b) 1 0 + sum_by (λ i. cond ((k == i) && b) 1 0) (range_with_len (a + 1) n) ≡ cond b 1 0
    by (inl e) rest =
        let none = no_key k b (a + 1) n (omega (arith, e.1)) in
        ap (λ c. cond (c && b) 1 0 + sum_by (λ i. cond ((k == i) && b) 1 0) (range_with_len (a + 1) n)) e.0 ∙ omega (arith, none)
    by (inr e) rest =
        let ne = e.1 in
        let more : a + 1 ≤ k = less k a h ne in
        let some = rest more (omega arith) in
        ap (λ c. cond (c && b) 1 0 + sum_by (λ i. cond ((k == i) && b) 1 0) (range_with_len (a + 1) n)) e.0 ∙ omega (arith, some)
      where
        less : (k a : ℕ) → a ≤ k → k ≢ a → a + 1 ≤ k
        less k a h ne = grind (arith, common_steps)

-- a count is the sum of the counts of each key
pub count-keys : {X : Type 0} (key : X → ℕ) (p : X → Bool) (n : ℕ) (xs : List X) → All (λ x. key x < n) xs → count_by p xs ≡ sum_by (λ i. count_by (λ x. (key x == i) && p x) xs) (numbers_below n)
count-keys key p n [] h = zeros 0 n
  where
    zeros : (a m : ℕ) → 0 ≡ sum_by (λ i. 0) (range_with_len a m)
    zeros a zero = refl
    zeros a (suc m) = let r = zeros (a + 1) m in let t = sum_by-cons (λ (i : ℕ). 0) a (range_with_len (a + 1) m) in omega (arith, r, t)
count-keys key p n (x ∷ xs) h =
    let rest = count-keys key p n xs (All-tail (λ y. key y < n) x xs h) in
    let in_n : key x < n = All-head (λ y. key y < n) x xs h in
    let here : sum_by (λ i. cond ((key x == i) && p x) 1 0) (numbers_below n) ≡ cond (p x) 1 0 = one_key (key x) (p x) 0 n (omega arith) (omega (arith, in_n)) in
    let split = sum-same (λ i. count_by (λ y. (key y == i) && p y) (x ∷ xs)) (λ i. cond ((key x == i) && p x) 1 0 + count_by (λ y. (key y == i) && p y) xs) 0 n (λ i l m. count-cons (λ y. (key y == i) && p y) x xs) in
    let add = sum-add (λ i. cond ((key x == i) && p x) 1 0) (λ i. count_by (λ y. (key y == i) && p y) xs) (numbers_below n) in
    count-cons p x xs ∙ ap (λ k. cond (p x) 1 0 + k) rest ∙ ap (λ k. k + sum_by (λ i. count_by (λ y. (key y == i) && p y) xs) (numbers_below n)) (sym here) ∙ sym add ∙ sym split

-- ---- at most one passes

count_and : {X : Type 0} (p q : X → Bool) (xs : List X) → count_by (λ x. p x && q x) xs ≤ count_by p xs
count_and p q [] = omega arith
count_and p q (x ∷ xs) =
    let a = count-cons (λ y. p y && q y) x xs in
    let b = count-cons p x xs in
    let c = count_and p q xs in
    let d = at (p x) (q x) in
    omega (arith, a, b, c, d)
  where
    at : (a b : Bool) → cond (a && b) 1 0 ≤ cond a 1 0
    at true true = omega arith
    at true false = omega arith
    at false b = omega arith

pub count_none : {X : Type 0} (p q : X → Bool) (xs : List X) → find p xs ≡ None → count_by (λ x. p x && q x) xs ≡ 0
count_none p q [] h = refl
count_none p q (x ∷ xs) h = count-cons (λ y. p y && q y) x xs ∙ by (p x) refl (count_none p q xs)
  where
    by : (b : Bool) → p x ≡ b → (find p xs ≡ None → count_by (λ y. p y && q y) xs ≡ 0) → cond (p x && q x) 1 0 + count_by (λ y. p y && q y) xs ≡ 0
    by true t rest = absurd (some_none x (sym (ap (λ b. cond b (Some x) (find p xs)) t) ∙ h))
      where
        some_none : {X : Type 0} (x : X) → Some x ≡ None → ⊥
        some_none x e = true≢false (ap (λ o. option_map_or (λ y. true) o false) e)
    by false t rest = let r = rest (sym (ap (λ b. cond b (Some x) (find p xs)) t) ∙ h) in ap (λ b. cond (b && q x) 1 0 + count_by (λ y. p y && q y) xs) t ∙ omega (arith, r)

pub count_one : {X : Type 0} (p q : X → Bool) (xs : List X) (f : X) → count_by p xs ≤ 1 → find p xs ≡ Some f → count_by (λ x. p x && q x) xs ≡ cond (q f) 1 0
count_one p q [] f l h = absurd (true≢false (sym (ap (λ o. option_map_or (λ y. true) o false) h)))
count_one p q (x ∷ xs) f l h = count-cons (λ y. p y && q y) x xs ∙ by (p x) refl (count_one p q xs f)
  where
    by : (b : Bool) → p x ≡ b → (count_by p xs ≤ 1 → find p xs ≡ Some f → count_by (λ y. p y && q y) xs ≡ cond (q f) 1 0) → cond (p x && q x) 1 0 + count_by (λ y. p y && q y) xs ≡ cond (q f) 1 0
    by true t rest =
        let same : x ≡ f = ap (λ o. unwrap_or o x) (sym (ap (λ b. cond b (Some x) (find p xs)) t) ∙ h) in
        let one : 1 + count_by p xs ≤ 1 = subst (λ k. k ≤ 1) (count-cons p x xs ∙ ap (λ b. cond b 1 0 + count_by p xs) t) l in
        let none : count_by (λ y. p y && q y) xs ≡ 0 = (let c = count_and p q xs in omega (arith, one, c)) in
        ap (λ b. cond (b && q x) 1 0 + count_by (λ y. p y && q y) xs) t ∙ ap (λ y. cond (q y) 1 0 + count_by (λ y. p y && q y) xs) same ∙ omega (arith, none)
    by false t rest =
        let less : count_by p xs ≤ 1 = (let e : count_by p (x ∷ xs) ≡ 0 + count_by p xs = count-cons p x xs ∙ ap (λ b. cond b 1 0 + count_by p xs) t in omega (arith, e, l)) in
        let r = rest less (sym (ap (λ b. cond b (Some x) (find p xs)) t) ∙ h) in
        ap (λ b. cond (b && q x) 1 0 + count_by (λ y. p y && q y) xs) t ∙ omega (arith, r)

pub found_has : {X : Type 0} (p : X → Bool) (P : X → Type 0) (xs : List X) (f : X) → find p xs ≡ Some f → All P xs → (p f ≡ true) × P f
found_has p P [] f h a = absurd (true≢false (sym (ap (λ o. option_map_or (λ y. true) o false) h)))
found_has p P (x ∷ xs) f h a = by (p x) refl (found_has p P xs f)
  where
    by : (b : Bool) → p x ≡ b → (find p xs ≡ Some f → All P xs → (p f ≡ true) × P f) → (p f ≡ true) × P f
    by true t rest = let same : x ≡ f = ap (λ o. unwrap_or o x) (sym (ap (λ b. cond b (Some x) (find p xs)) t) ∙ h) in (subst (λ y. p y ≡ true) same t, subst P same (All-head P x xs a))
    by false t rest = rest (sym (ap (λ b. cond b (Some x) (find p xs)) t) ∙ h) (All-tail P x xs a)

-- ---- children

-- an edge between slots, which is taken only from a live one
pub record IsSound (layout : Layout) (bits : List Bool) (e : Edge) : Type 0 where
  pub from_in : e.from < length layout.slots
  pub to_in : e.to < length layout.slots
  pub lives : entry bits e.here ≡ true → is_live layout bits e.from ≡ true

and_false : (a b : Bool) → (a && (b && false)) ≡ false
and_false true true = refl
and_false true false = refl
and_false false b = refl

pub same_slots : (slots : List Node) (i j : ℕ) → each_two is_before slots ≡ true → i < length slots → j < length slots → same_node (slot slots j) (slot slots i) ≡ (i == j)
same_slots slots i j asc h l = by (eqb_tells i j)
  where
    by : (((i == j) ≡ true) × (i ≡ j)) ⊎ (((i == j) ≡ false) × (i ≢ j)) → same_node (slot slots j) (slot slots i) ≡ (i == j)
    by (inl e) = ap (λ k. same_node (slot slots j) (slot slots k)) e.1 ∙ same_itself (slot slots j) ∙ sym e.0
    by (inr e) = other (same_node (slot slots j) (slot slots i)) refl ∙ sym e.0
      where
        other : (b : Bool) → same_node (slot slots j) (slot slots i) ≡ b → same_node (slot slots j) (slot slots i) ≡ false
        other true t = absurd (e.1 (sym (slot_once slots j i asc l h (same_nodes (slot slots j) (slot slots i) t))))
        other false t = t

-- the entries below a slot whose clafers pass a test are as many as the taken edges to it from slots of such clafers
pub children_counted : (asked : ℕ → Bool) (layout : Layout) (bits : List Bool) (s : ℕ) → each_two is_before layout.slots ≡ true → s < length layout.slots
    → All (IsSound layout bits) layout.parents → ((i : ℕ) → i < length layout.slots → count_by (is_taken bits i) layout.parents ≤ 1)
    → count_by (is_child_of (entry_at layout bits s)) (filter (λ (e : Entry). asked e.node.clafer) (shown layout bits))
    ≡ count_by (λ (e : Edge). ((e.to == s) && asked (slot_clafer layout.slots e.from)) && entry bits e.here) layout.parents
children_counted asked layout bits s asc h sound single =
    count-filter (is_child_of (entry_at layout bits s)) (λ (e : Entry). asked e.node.clafer) (shown layout bits)
    ∙ count-map tells (entry_at layout bits) (filter (is_live layout bits) (numbers_below (length layout.slots)))
    ∙ count-filter (λ i. tells (entry_at layout bits i)) (is_live layout bits) (numbers_below (length layout.slots))
    ∙ sym (count-keys (λ (e : Edge). e.from) counts (length layout.slots) layout.parents (λ k d l. (sound k d l).from_in)
    ∙ sum-same (λ i. count_by (λ (e : Edge). (e.from == i) && counts e) layout.parents) (λ i. cond (is_live layout bits i && tells (entry_at layout bits i)) 1 0) 0 (length layout.slots) (λ i a m. at i (omega arith)))
  where
    tells : Entry → Bool
    tells e = asked e.node.clafer && is_child_of (entry_at layout bits s) e

    counts : Edge → Bool
    counts e = ((e.to == s) && asked (slot_clafer layout.slots e.from)) && entry bits e.here

    goes : ℕ → Edge → Bool
    goes i e = (e.to == s) && asked (slot_clafer layout.slots i)

    reorder : (i : ℕ) (e : Edge) → ((e.from == i) && counts e) ≡ (is_taken bits i e && goes i e)
    reorder i e = by (eqb_tells e.from i)
      where
        swap : (a b : Bool) → (a && b) ≡ (b && a)
        swap true true = refl
        swap true false = refl
        swap false true = refl
        swap false false = refl

        by : (((e.from == i) ≡ true) × (e.from ≡ i)) ⊎ (((e.from == i) ≡ false) × (e.from ≢ i)) → ((e.from == i) && counts e) ≡ (is_taken bits i e && goes i e)
        by (inl t) =
            ap (λ b. b && counts e) t.0 ∙ ap (λ k. ((e.to == s) && asked (slot_clafer layout.slots k)) && entry bits e.here) t.1
            ∙ swap (goes i e) (entry bits e.here) ∙ sym (ap (λ b. (b && entry bits e.here) && goes i e) t.0)
        by (inr t) = ap (λ b. b && counts e) t.0 ∙ sym (ap (λ b. (b && entry bits e.here) && goes i e) t.0)

    at : (i : ℕ) → i < length layout.slots → count_by (λ (e : Edge). (e.from == i) && counts e) layout.parents ≡ cond (is_live layout bits i && tells (entry_at layout bits i)) 1 0
    at i l = count-same (λ (e : Edge). (e.from == i) && counts e) (λ (e : Edge). is_taken bits i e && goes i e) layout.parents (reorder i) ∙ by (find (is_taken bits i) layout.parents) refl
      where
        leads : Option Edge → Bool
        leads o = is_live layout bits i && (asked (slot_clafer layout.slots i) && option_map_or (same_node (slot layout.slots s)) (option_and_then (λ (e : Edge). slice_get layout.slots e.to) o) false)

        by : (o : Option Edge) → find (is_taken bits i) layout.parents ≡ o → count_by (λ (e : Edge). is_taken bits i e && goes i e) layout.parents ≡ cond (leads (find (is_taken bits i) layout.parents)) 1 0
        by None t =
            count_none (is_taken bits i) (goes i) layout.parents t
            ∙ sym (ap (λ o. cond (leads o) 1 0) t ∙ ap (λ b. cond b 1 0) (and_false (is_live layout bits i) (asked (slot_clafer layout.slots i))))
        by (Some f) t =
            let k = found_has (is_taken bits i) (IsSound layout bits) layout.parents f t sound in
            let q = both (f.from == i) (entry bits f.here) k.0 in
            let live : is_live layout bits i ≡ true = subst (λ j. is_live layout bits j ≡ true) (same_number f.from i q.0) (k.1.lives q.1) in
            count_one (is_taken bits i) (goes i) layout.parents f (single i l) t
            ∙ sym (ap (λ o. cond (leads o) 1 0) t
            ∙ ap (λ b. cond (b && (asked (slot_clafer layout.slots i) && option_map_or (same_node (slot layout.slots s)) (slice_get layout.slots f.to) false)) 1 0) live
            ∙ ap (λ o. cond (asked (slot_clafer layout.slots i) && option_map_or (same_node (slot layout.slots s)) o false) 1 0) (slot_at layout.slots f.to k.1.to_in)
            ∙ ap (λ b. cond (asked (slot_clafer layout.slots i) && b) 1 0) (same_slots layout.slots f.to s asc k.1.to_in h)
            ∙ ap (λ b. cond b 1 0) (swap (asked (slot_clafer layout.slots i)) (f.to == s)))
          where
            same_number : (a b : ℕ) → (a == b) ≡ true → a ≡ b
            same_number a b h = grind (arith, common_steps)

            swap : (a b : Bool) → (a && b) ≡ (b && a)
            swap true true = refl
            swap true false = refl
            swap false true = refl
            swap false false = refl

filter_counted : {X : Type 0} (p : X → Bool) (xs : List X) → length (filter p xs) ≡ count_by p xs
filter_counted p [] = refl
filter_counted p (x ∷ xs) = by (p x) (filter_counted p xs) ∙ sym (count-cons p x xs)
  where
    by : (b : Bool) → length (filter p xs) ≡ count_by p xs → length (cond b (x ∷ filter p xs) (filter p xs)) ≡ cond b 1 0 + count_by p xs
    by true rest = omega (arith, rest)
    by false rest = omega (arith, rest)

-- the entries whose clafers pass a test are as many as the live slots of such clafers
pub entries_counted : (asked : ℕ → Bool) (layout : Layout) (bits : List Bool) → length (filter (λ (e : Entry). asked e.node.clafer) (shown layout bits)) ≡ count_by (λ i. is_live layout bits i && asked (slot_clafer layout.slots i)) (numbers_below (length layout.slots))
entries_counted asked layout bits =
    filter_counted (λ (e : Entry). asked e.node.clafer) (shown layout bits)
    ∙ count-map (λ (e : Entry). asked e.node.clafer) (entry_at layout bits) (filter (is_live layout bits) (numbers_below (length layout.slots)))
    ∙ count-filter (λ i. asked (slot_clafer layout.slots i)) (is_live layout bits) (numbers_below (length layout.slots))
