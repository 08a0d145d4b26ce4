-- The entries whose nodes rise.
use Rattle.std.proofs.Common.{◌≡◌, ℕ, zero, suc, ◌+◌, ◌<◌, Bool, true, false, not, ◌&&◌, ◌||◌, List, [], ◌∷◌, ◌++◌, length, drop, get_or, append_assoc, Option, Some, None, refl, ap, sym, subst, ◌∙◌, arith, true≢false, ◌⊎◌, inl, inr, is_lt, Less, Equal, Greater, cond}
use Rattle.std.specs.Prelude.{◌==◌, nat_lt, if◌then◌else◌}
use Rattle.std.specs.Option.{option_map_or}
use Rattle.std.specs.Ordering.{nat_cmp, ordering_then}
use Rattle.std.specs.List.{list_all, list_any}
use Rattle.std.specs.List.Sorted.{IsSortedBy}
use Rattle.std.proofs.lemmas.Grind.{common_steps}
use Rattle.std.proofs.lemmas.List.Folds.{list_all-append}
use Rattle.clf_tree.specs.declared.instance.Node.{Node}
use Rattle.clf_tree.specs.declared.instance.Entry.{Entry}
use Rattle.clf_tree.specs.Nodes.{same_node, is_before, is_ordered}
use Rattle.instance_text.specs.Reading.{rises, rising}
use Rattle.instance_text.proofs.Items.{In, first, later, and_left, and_right, and_both, all_in, all_from}
use Rattle.instance_text.proofs.Walk.{same_equal}

-- by clafer, then by number
pub before_is_less : (m n : Node) → is_lt (ordering_then (nat_cmp m.clafer n.clafer) (nat_cmp m.number n.number)) ≡ is_before m n
before_is_less m n = by (nat_lt m.clafer n.clafer) (m.clafer == n.clafer) (nat_lt m.number n.number) (m.number == n.number)
  where
    by : (p q r s : Bool) → is_lt (ordering_then (cond p Less (cond q Equal Greater)) (cond r Less (cond s Equal Greater))) ≡ (p || (q && r))
    by true q r s = refl
    by false true true s = refl
    by false true false true = refl
    by false true false false = refl
    by false false r s = refl

-- an entry that is not above the last one
abbrev pub is_upto : Option Node → Entry → Bool
is_upto last e = option_map_or (λ m. not (is_before m e.node)) last false

not_after : (m n x : Node) → is_before m n ≡ true → not (is_before m x) ≡ true → is_before x n ≡ true
not_after m n x h k = grind (arith, common_steps)

before_itself : (n : Node) → not (is_before n n) ≡ true
before_itself n = grind (arith, common_steps)

before_one_way : (m n : Node) → is_before m n ≡ true → not (is_before n m) ≡ true
before_one_way m n h = grind (arith, common_steps)

one_before : (last : Option Node) (n : Node) (e : Entry) → rises last n ≡ true → is_upto last e ≡ true → is_before e.node n ≡ true
one_before None n e h k = absurd (true≢false (sym k))
one_before (Some m) n e h k = not_after m n e.node h k

-- a node above the last one is above all that are there
pub all_before : (last : Option Node) (n : Node) (ys : List Entry) → rises last n ≡ true → list_all (is_upto last) ys ≡ true → list_all (λ (e : Entry). is_before e.node n) ys ≡ true
all_before last n ys h all = all_from (λ (e : Entry). is_before e.node n) ys (λ e i. one_before last n e h (all_in (is_upto last) ys e i all))

pub upto_more : (last : Option Node) (e : Entry) (ys : List Entry) → rises last e.node ≡ true → list_all (is_upto last) ys ≡ true → list_all (is_upto (Some e.node)) (ys ++ e ∷ []) ≡ true
upto_more last e ys h all =
    list_all-append (is_upto (Some e.node)) ys (e ∷ [])
    ∙ and_both (list_all (is_upto (Some e.node)) ys) (is_upto (Some e.node) e && true)
    (all_from (is_upto (Some e.node)) ys (λ y i. before_one_way y.node e.node (one_before last e.node y h (all_in (is_upto last) ys y i all))))
    (and_both (is_upto (Some e.node) e) true (before_itself e.node) refl)

-- ---- of sorted entries each node is kept once

-- no later one is before an earlier one
abbrev pub AreSorted : List Entry → Type 0
AreSorted [] = Unit {0}
AreSorted (x ∷ xs) = (list_all (λ (z : Entry). not (is_before z.node x.node)) xs ≡ true) × AreSorted xs

not_before_trans : (x y z : Node) → is_before y x ≡ false → not (is_before z y) ≡ true → not (is_before z x) ≡ true
not_before_trans x y z h k = grind (arith, common_steps)

negated : (b : Bool) → b ≡ false → not b ≡ true
negated b h = ap not h

pub sorted_from : (xs : List Entry) → IsSortedBy (λ (a b : Entry). is_before a.node b.node) xs → AreSorted xs
sorted_from [] up = tt
sorted_from (x ∷ []) up = (refl, tt)
sorted_from (x ∷ y ∷ xs) up =
    let next = up 0 x (omega arith) (omega arith) in
    let rest = sorted_from (y ∷ xs) (λ k d low more. shifted k d (up (suc k) d (omega arith) (omega (arith, more)))) in (
      and_both (not (is_before y.node x.node)) (list_all (λ (z : Entry). not (is_before z.node x.node)) xs) (negated (is_before y.node x.node) next)
          (all_from (λ (z : Entry). not (is_before z.node x.node)) xs (λ z i. not_before_trans x.node y.node z.node next (all_in (λ (w : Entry). not (is_before w.node y.node)) xs z i rest.0))),
      rest,
    )
  where
    shifted : (k : ℕ) (d : Entry) → is_before (get_or (x ∷ y ∷ xs) (suc k + 1) d).node (get_or (y ∷ xs) k d).node ≡ false → is_before (get_or (y ∷ xs) (k + 1) d).node (get_or (y ∷ xs) k d).node ≡ false
    shifted k d h =
        let e : suc k + 1 ≡ suc (k + 1) = omega arith in
        subst (λ q. is_before (get_or (x ∷ y ∷ xs) q d).node (get_or (y ∷ xs) k d).node ≡ false) e h

-- in the list, or of the last node
abbrev IsLast : Option Node → Entry → Type 0
IsLast last z = option_map_or (λ m. same_node m z.node) last false ≡ true

abbrev Each : Option Node → List Entry → List Entry → Type 0
Each last es xs = (z : Entry) → In z xs → In z es ⊎ IsLast last z

one_of : (e z : Entry) (es : List Entry) → In z (e ∷ es) → (e ≡ z) ⊎ In z es
one_of e _ es (first {x = _}) = inl refl
one_of e z es (later i) = inr i

no_rise : (m n : Node) → same_node m n ≡ true → is_before m n ≡ true → ⊥
no_rise m n h k = grind (arith, common_steps)

last_stays : (last : Option Node) (x : Entry) → rises last x.node ≡ true → IsLast last x → ⊥
last_stays None x h k = true≢false (sym k)
last_stays (Some m) x h k = no_rise m x.node k h

two_ways : (m n : Node) → is_before m n ≡ true → not (is_before m n) ≡ true → ⊥
two_ways m n h k = grind (arith, common_steps)

same_before : (m n x : Node) → same_node m n ≡ true → is_before m x ≡ true → not (is_before n x) ≡ true → ⊥
same_before m n x h k l = grind (arith, common_steps)

last_before : (last : Option Node) (x z : Entry) → rises last x.node ≡ true → IsLast last z → not (is_before z.node x.node) ≡ true → ⊥
last_before None x z h k l = true≢false (sym k)
last_before (Some m) x z h k l = same_before m z.node x.node k h l

itself_before : (n : Node) → is_before n n ≡ true → ⊥
itself_before n h = grind (arith, common_steps)

same_itself : (n : Node) → same_node n n ≡ true
same_itself n = grind (arith, common_steps)

-- the first of both lists is the same
same_first : (last : Option Node) (x e : Entry) (xs es : List Entry) → rises last x.node ≡ true
    → list_all (λ (z : Entry). not (is_before z.node x.node)) xs ≡ true → list_all (λ (w : Entry). is_before e.node w.node) es ≡ true
    → In e (x ∷ xs) → In x (e ∷ es) ⊎ IsLast last x → x ≡ e
same_first last x e xs es up low high i (inr k) = absurd (last_stays last x up k)
same_first last x e xs es up low high i (inl j) = by (one_of x e xs i) (one_of e x es j)
  where
    by : (x ≡ e) ⊎ In e xs → (e ≡ x) ⊎ In x es → x ≡ e
    by (inl p) q = p
    by (inr p) (inl q) = sym q
    by (inr p) (inr q) = absurd (two_ways e.node x.node (all_in (λ (w : Entry). is_before e.node w.node) es x q high) (all_in (λ (z : Entry). not (is_before z.node x.node)) xs e p low))

pub rising_is : (xs es : List Entry) (last : Option Node) → AreSorted xs → is_ordered es ≡ true → list_all (λ (e : Entry). rises last e.node) es ≡ true
    → ((e : Entry) → In e es → In e xs) → Each last es xs → rising last xs ≡ es
rising_is [] [] last sorted ordered above there each = refl
rising_is [] (e ∷ es) last sorted ordered above there each = elim (there e first) [ ]
rising_is (x ∷ xs) es last sorted ordered above there each = by (rises last x.node) refl es ordered above there each (λ fs l o a t c. rising_is xs fs l sorted.1 o a t c)
  where
    Next : Type 0
    Next = (fs : List Entry) (l : Option Node) → is_ordered fs ≡ true → list_all (λ (e : Entry). rises l e.node) fs ≡ true → ((e : Entry) → In e fs → In e xs) → Each l fs xs → rising l xs ≡ fs

    skip : (fs : List Entry) → rises last x.node ≡ false → list_all (λ (e : Entry). rises last e.node) fs ≡ true → ((e : Entry) → In e fs → In e (x ∷ xs)) → (e : Entry) → In e fs → In e xs
    skip fs h above there e i = past (one_of x e xs (there e i))
      where
        past : (x ≡ e) ⊎ In e xs → In e xs
        past (inl p) = absurd (true≢false (sym (all_in (λ (w : Entry). rises last w.node) fs e i above) ∙ ap (λ (w : Entry). rises last w.node) (sym p) ∙ h))
        past (inr j) = j

    by : (b : Bool) → rises last x.node ≡ b → (fs : List Entry) → is_ordered fs ≡ true → list_all (λ (e : Entry). rises last e.node) fs ≡ true → ((e : Entry) → In e fs → In e (x ∷ xs)) → Each last fs (x ∷ xs)
        → Next → (if b then x ∷ rising (Some x.node) xs else rising last xs) ≡ fs
    by false h fs ordered above there each next = next fs last ordered above (skip fs h above there) (λ z i. each z (later i))
    by true h [] ordered above there each next = none_left (each x first)
      where
        none_left : In x [] ⊎ IsLast last x → x ∷ rising (Some x.node) xs ≡ []
        none_left (inl i) = elim i [ ]
        none_left (inr k) = absurd (last_stays last x h k)
    by true h (e ∷ fs) ordered above there each next =
        let high = and_left (list_all (λ (w : Entry). is_before e.node w.node) fs) (is_ordered fs) ordered in
        let is : x ≡ e = same_first last x e xs fs h sorted.0 high (there e first) (each x first) in
        let up : list_all (λ (w : Entry). rises (Some x.node) w.node) fs ≡ true = subst (λ (y : Entry). list_all (λ (w : Entry). is_before y.node w.node) fs ≡ true) (sym is) high in
        ap (λ zs. x ∷ zs) (next fs (Some x.node) (and_right (list_all (λ (w : Entry). is_before e.node w.node) fs) (is_ordered fs) ordered) up (kept_there high is) (kept_each is)) ∙ ap (λ y. y ∷ fs) is
      where
        kept_there : list_all (λ (w : Entry). is_before e.node w.node) fs ≡ true → x ≡ e → (w : Entry) → In w fs → In w xs
        kept_there high is w i = past (one_of x w xs (there w (later i)))
          where
            past : (x ≡ w) ⊎ In w xs → In w xs
            past (inl p) = absurd (itself_before e.node (ap (λ (v : Entry). is_before e.node v.node) (sym is ∙ p) ∙ all_in (λ (v : Entry). is_before e.node v.node) fs w i high))
            past (inr j) = j

        kept_each : x ≡ e → Each (Some x.node) fs xs
        kept_each is z i = past (each z (later i))
          where
            past : In z (e ∷ fs) ⊎ IsLast last z → In z fs ⊎ IsLast (Some x.node) z
            past (inr k) = absurd (last_before last x z h k (all_in (λ (w : Entry). not (is_before w.node x.node)) xs z i sorted.0))
            past (inl j) = past_first (one_of e z fs j)
              where
                past_first : (e ≡ z) ⊎ In z fs → In z fs ⊎ IsLast (Some x.node) z
                past_first (inl p) = inr (ap (λ (w : Entry). same_node x.node w.node) (sym p ∙ sym is) ∙ same_itself x.node)
                past_first (inr q) = inl q

pub rising_in : (xs : List Entry) (last : Option Node) (z : Entry) → In z (rising last xs) → In z xs
rising_in [] last z i = elim i [ ]
rising_in (x ∷ xs) last z i = by (rises last x.node) i (λ j. rising_in xs (Some x.node) z j) (λ j. rising_in xs last z j)
  where
    first_one : (ws : List Entry) → In z (x ∷ ws) → (In z ws → In z xs) → In z (x ∷ xs)
    first_one ws i next = past (one_of x z ws i)
      where
        past : (x ≡ z) ⊎ In z ws → In z (x ∷ xs)
        past (inl p) = subst (λ w. In w (x ∷ xs)) p first
        past (inr j) = later (next j)

    by : (b : Bool) → In z (if b then x ∷ rising (Some x.node) xs else rising last xs) → (In z (rising (Some x.node) xs) → In z xs) → (In z (rising last xs) → In z xs) → In z (x ∷ xs)
    by true j next skip = first_one (rising (Some x.node) xs) j next
    by false j next skip = later (skip j)

drop_here : (es : List Entry) (i : ℕ) (d : Entry) → i < length es → drop i es ≡ get_or es i d ∷ drop (i + 1) es
drop_here [] i d h = let no : ⊥ = omega (arith, h) in absurd no
drop_here (e ∷ es) zero d h = refl
drop_here (e ∷ es) (suc i) d h = drop_here es i d (omega (arith, h)) ∙ ap (λ n. get_or es i d ∷ drop n (e ∷ es)) (shift i)
  where
    shift : (n : ℕ) → suc (n + 1) ≡ suc n + 1
    shift n = omega arith

-- one more entry is kept
pub risen : (es ys ys' : List Entry) (last : Option Node) (i : ℕ) (d : Entry) → i < length es → (ys ++ rising last (drop i es) ≡ rising None es) × (list_all (is_upto last) ys ≡ true)
    → rises last (get_or es i d).node ≡ true → ys' ≡ ys ++ get_or es i d ∷ []
    → (ys' ++ rising (Some (get_or es i d).node) (drop (i + 1) es) ≡ rising None es) × (list_all (is_upto (Some (get_or es i d).node)) ys' ≡ true)
risen es ys ys' last i d within is up longer =
    let e = get_or es i d in
    let rest = rising (Some e.node) (drop (i + 1) es) in (
      ap (λ z. z ++ rest) longer ∙ append_assoc ys (e ∷ []) rest ∙ ap (λ b. ys ++ (if b then e ∷ rest else rising last (drop (i + 1) es))) (sym up) ∙ ap (λ z. ys ++ rising last z) (sym (drop_here es i d within)) ∙ is.0,
      ap (list_all (is_upto (Some e.node))) longer ∙ upto_more last e ys up is.1,
    )
