-- The edges of a slot lead to slots that ascend.
use Rattle.std.proofs.Common.{◌≡◌, ◌≢◌, ℕ, zero, suc, ◌+◌, ◌<◌, ◌≤◌, Bool, true, false, cond, ◌⊎◌, inl, inr, List, [], ◌∷◌, ◌++◌, length, map, refl, sym, ap, ◌∙◌, subst, arith, append-nil}
use Rattle.std.specs.Prelude.{nat_eq}
use Rattle.std.specs.List.{filter, flat_map, range_with_len}
use Rattle.std.proofs.lemmas.Bool.Decides.{nat_tests, eqb_tells}
use Rattle.std.proofs.lemmas.List.{map-append}
use Rattle.std.proofs.lemmas.List.Elements.{filter-append}
use Rattle.clf_tree.specs.declared.model.Clafer.{Clafer}
use Rattle.clf_tree.specs.declared.instance.Node.{Node}
use Rattle.clf_tree.specs.declared.scopes.Scopes.{Scopes}
use Rattle.clf_tree.specs.Hierarchy.{owners}
use Rattle.clf_tree.specs.Lists.{numbers_below, has}
use Rattle.set_bits.specs.declared.layout.Edge.{Edge}
use Rattle.set_bits.specs.declared.layout.Layout.{Layout}
use Rattle.set_bits.specs.Fitting.{Fits, slot_clafer, ends, all_ends, referred}
use Rattle.told_constraints.specs.Told.{turned}
use Rattle.node_encoder.specs.declared.gathering.Step.{Step}
use Rattle.node_encoder.specs.declared.gathering.Step.TheVariants as step
use Rattle.node_encoder.specs.Gathering.{edges_of}
use Rattle.node_encoder.proofs.Counting.{AscendWithin}

-- ---- numbers that ascend

lower : (a b c : ℕ) (xs : List ℕ) → c ≤ a → AscendWithin a b xs → AscendWithin c b xs
lower a b c [] l h = tt
lower a b c (x ∷ xs) l h = let m = h.0 in (omega (arith, l, m), h.1, h.2)

pub ascend_filter : (p : ℕ → Bool) (a b : ℕ) (xs : List ℕ) → AscendWithin a b xs → AscendWithin a b (filter p xs)
ascend_filter p a b [] h = tt
ascend_filter p a b (x ∷ xs) h = by (p x) (ascend_filter p (x + 1) b xs h.2)
  where
    by : (c : Bool) → AscendWithin (x + 1) b (filter p xs) → AscendWithin a b (cond c (x ∷ filter p xs) (filter p xs))
    by true rest = (h.0, h.1, rest)
    by false rest = let l = h.0 in lower (x + 1) b a (filter p xs) (omega (arith, l)) rest

pub ascend_numbers : (a m b : ℕ) → a + m ≤ b → AscendWithin a b (range_with_len a m)
ascend_numbers a zero b l = tt
ascend_numbers a (suc m) b l = (omega arith, omega (arith, l), ascend_numbers (a + 1) m b (omega (arith, l)))

-- ---- the far ends from one slot, and to one slot

abbrev from_slot : ℕ → List (ℕ × ℕ) → List ℕ
from_slot s ps = map (λ p. p.1) (filter (λ p. nat_eq p.0 s) ps)

abbrev to_slot : ℕ → List (ℕ × ℕ) → List ℕ
to_slot s ps = map (λ p. p.0) (filter (λ p. nat_eq p.1 s) ps)

from_slot-append : (s : ℕ) (xs ys : List (ℕ × ℕ)) → from_slot s (xs ++ ys) ≡ from_slot s xs ++ from_slot s ys
from_slot-append s xs ys = ap (map (λ (p : ℕ × ℕ). p.1)) (filter-append (λ (p : ℕ × ℕ). nat_eq p.0 s) xs ys) ∙ map-append (λ (p : ℕ × ℕ). p.1) (filter (λ (p : ℕ × ℕ). nat_eq p.0 s) xs) (filter (λ (p : ℕ × ℕ). nat_eq p.0 s) ys)

to_slot-append : (s : ℕ) (xs ys : List (ℕ × ℕ)) → to_slot s (xs ++ ys) ≡ to_slot s xs ++ to_slot s ys
to_slot-append s xs ys = ap (map (λ (p : ℕ × ℕ). p.0)) (filter-append (λ (p : ℕ × ℕ). nat_eq p.1 s) xs ys) ∙ map-append (λ (p : ℕ × ℕ). p.0) (filter (λ (p : ℕ × ℕ). nat_eq p.1 s) xs) (filter (λ (p : ℕ × ℕ). nat_eq p.1 s) ys)

abbrev pairs_from : ℕ → List ℕ → List (ℕ × ℕ)
pairs_from i js = map (λ j. (i, j)) js

own_ends : (s i : ℕ) (js : List ℕ) → nat_eq i s ≡ true → from_slot s (pairs_from i js) ≡ js
own_ends s i [] h = refl
own_ends s i (j ∷ js) h = ap (λ b. map (λ (p : ℕ × ℕ). p.1) (cond b ((i, j) ∷ filter (λ (p : ℕ × ℕ). nat_eq p.0 s) (pairs_from i js)) (filter (λ (p : ℕ × ℕ). nat_eq p.0 s) (pairs_from i js)))) h ∙ ap (λ xs. j ∷ xs) (own_ends s i js h)

other_ends : (s i : ℕ) (js : List ℕ) → nat_eq i s ≡ false → from_slot s (pairs_from i js) ≡ []
other_ends s i [] h = refl
other_ends s i (j ∷ js) h = ap (λ b. map (λ (p : ℕ × ℕ). p.1) (cond b ((i, j) ∷ filter (λ (p : ℕ × ℕ). nat_eq p.0 s) (pairs_from i js)) (filter (λ (p : ℕ × ℕ). nat_eq p.0 s) (pairs_from i js)))) h ∙ other_ends s i js h

none_later : (js : ℕ → List ℕ) (s a m : ℕ) → s < a → from_slot s (flat_map (λ i. pairs_from i (js i)) (range_with_len a m)) ≡ []
none_later js s a zero l = refl
none_later js s a (suc m) l =
    from_slot-append s (pairs_from a (js a)) (flat_map (λ i. pairs_from i (js i)) (range_with_len (a + 1) m))
    ∙ ap (λ xs. xs ++ from_slot s (flat_map (λ i. pairs_from i (js i)) (range_with_len (a + 1) m))) (other_ends s a (js a) (apart a s l)) ∙ none_later js s (a + 1) m (omega (arith, l))
  where
    apart : (a s : ℕ) → s < a → nat_eq a s ≡ false
    apart a s l = grind (arith, nat_tests)

from_ascend : (js : ℕ → List ℕ) (b s a m : ℕ) → ((i : ℕ) → AscendWithin 0 b (js i)) → AscendWithin 0 b (from_slot s (flat_map (λ i. pairs_from i (js i)) (range_with_len a m)))
from_ascend js b s a zero h = tt
from_ascend js b s a (suc m) h =
    subst (AscendWithin 0 b) (sym (from_slot-append s (pairs_from a (js a)) (flat_map (λ i. pairs_from i (js i)) (range_with_len (a + 1) m)))) (by (eqb_tells a s) (from_ascend js b s (a + 1) m h))
  where
    rest : List ℕ
    rest = from_slot s (flat_map (λ i. pairs_from i (js i)) (range_with_len (a + 1) m))

    by : ((nat_eq a s ≡ true) × (a ≡ s)) ⊎ ((nat_eq a s ≡ false) × (a ≢ s)) → AscendWithin 0 b rest → AscendWithin 0 b (from_slot s (pairs_from a (js a)) ++ from_slot s (flat_map (λ i. pairs_from i (js i)) (range_with_len (a + 1) m)))
    by (inl e) r =
        let f = e.1 in
        subst (AscendWithin 0 b) (sym (ap (λ xs. xs ++ rest) (own_ends s a (js a) e.0) ∙ ap (λ xs. js a ++ xs) (none_later js s (a + 1) m (omega (arith, f))) ∙ append-nil (js a))) (h a)
    by (inr e) r = subst (AscendWithin 0 b) (sym (ap (λ xs. xs ++ rest) (other_ends s a (js a) e.0))) r

-- pairs with one first number, of which one at most leads to the slot
not_again : (s i k : ℕ) (t : ℕ → Bool) (m : ℕ) → s < k → to_slot s (pairs_from i (filter t (range_with_len k m))) ≡ []
not_again s i k t zero l = refl
not_again s i k t (suc m) l = by (t k) (not_again s i (k + 1) t m (omega (arith, l)))
  where
    apart : (k s : ℕ) → s < k → nat_eq k s ≡ false
    apart k s l = grind (arith, nat_tests)

    rest : List ℕ
    rest = filter t (range_with_len (k + 1) m)

    by : (b : Bool) → to_slot s (pairs_from i rest) ≡ [] → to_slot s (pairs_from i (cond b (k ∷ rest) rest)) ≡ []
    by true r = ap (λ b. map (λ (p : ℕ × ℕ). p.0) (cond b ((i, k) ∷ filter (λ (p : ℕ × ℕ). nat_eq p.1 s) (pairs_from i rest)) (filter (λ (p : ℕ × ℕ). nat_eq p.1 s) (pairs_from i rest)))) (apart k s l) ∙ r
    by false r = r

one_or_none : (s i k : ℕ) (t : ℕ → Bool) (m : ℕ) → (to_slot s (pairs_from i (filter t (range_with_len k m))) ≡ []) ⊎ (to_slot s (pairs_from i (filter t (range_with_len k m))) ≡ i ∷ [])
one_or_none s i k t zero = inl refl
one_or_none s i k t (suc m) = by (t k) (eqb_tells k s) (one_or_none s i (k + 1) t m)
  where
    rest : List ℕ
    rest = filter t (range_with_len (k + 1) m)

    first : (b : Bool) → nat_eq k s ≡ b → to_slot s (pairs_from i (k ∷ rest)) ≡ cond b (i ∷ to_slot s (pairs_from i rest)) (to_slot s (pairs_from i rest))
    first true e = ap (λ b. map (λ (p : ℕ × ℕ). p.0) (cond b ((i, k) ∷ filter (λ (p : ℕ × ℕ). nat_eq p.1 s) (pairs_from i rest)) (filter (λ (p : ℕ × ℕ). nat_eq p.1 s) (pairs_from i rest)))) e
    first false e = ap (λ b. map (λ (p : ℕ × ℕ). p.0) (cond b ((i, k) ∷ filter (λ (p : ℕ × ℕ). nat_eq p.1 s) (pairs_from i rest)) (filter (λ (p : ℕ × ℕ). nat_eq p.1 s) (pairs_from i rest)))) e

    by : (b : Bool) → ((nat_eq k s ≡ true) × (k ≡ s)) ⊎ ((nat_eq k s ≡ false) × (k ≢ s)) → (to_slot s (pairs_from i rest) ≡ []) ⊎ (to_slot s (pairs_from i rest) ≡ i ∷ [])
        → (to_slot s (pairs_from i (cond b (k ∷ rest) rest)) ≡ []) ⊎ (to_slot s (pairs_from i (cond b (k ∷ rest) rest)) ≡ i ∷ [])
    by true (inl e) r = let f = e.1 in inr (first true e.0 ∙ ap (λ xs. i ∷ xs) (not_again s i (k + 1) t m (omega (arith, f))))
    by true (inr e) (inl r) = inl (first false e.0 ∙ r)
    by true (inr e) (inr r) = inr (first false e.0 ∙ r)
    by false c r = r

to_ascend : (t : ℕ → ℕ → Bool) (n b s a m : ℕ) → a + m ≤ b → AscendWithin a b (to_slot s (flat_map (λ i. pairs_from i (filter (t i) (numbers_below n))) (range_with_len a m)))
to_ascend t n b s a zero l = tt
to_ascend t n b s a (suc m) l =
    subst (AscendWithin a b) (sym (to_slot-append s (pairs_from a (filter (t a) (numbers_below n))) (flat_map (λ i. pairs_from i (filter (t i) (numbers_below n))) (range_with_len (a + 1) m))))
    (by (one_or_none s a 0 (t a) n) (to_ascend t n b s (a + 1) m (omega (arith, l))))
  where
    rest : List ℕ
    rest = to_slot s (flat_map (λ i. pairs_from i (filter (t i) (numbers_below n))) (range_with_len (a + 1) m))

    here : List ℕ
    here = to_slot s (pairs_from a (filter (t a) (numbers_below n)))

    by : (here ≡ []) ⊎ (here ≡ a ∷ []) → AscendWithin (a + 1) b rest → AscendWithin a b (here ++ rest)
    by (inl e) r = subst (AscendWithin a b) (sym (ap (λ xs. xs ++ rest) e)) (lower (a + 1) b a rest (omega arith) r)
    by (inr e) r = subst (AscendWithin a b) (sym (ap (λ xs. xs ++ rest) e)) (omega arith, omega (arith, l), r)

-- ---- edges

-- the slots to which edges lead from a slot
abbrev pub far_ends : List Edge → ℕ → List ℕ
far_ends edges s = map (λ e. e.to) (filter (λ e. nat_eq e.from s) edges)

from_ends : (edges : List Edge) (s : ℕ) → far_ends edges s ≡ from_slot s (ends edges)
from_ends [] s = refl
from_ends (e ∷ es) s = by (nat_eq e.from s) (from_ends es s)
  where
    by : (b : Bool) → far_ends es s ≡ from_slot s (ends es) → map (λ (x : Edge). x.to) (cond b (e ∷ filter (λ (x : Edge). nat_eq x.from s) es) (filter (λ (x : Edge). nat_eq x.from s) es))
        ≡ map (λ (p : ℕ × ℕ). p.1) (cond b ((e.from, e.to) ∷ filter (λ (p : ℕ × ℕ). nat_eq p.0 s) (ends es)) (filter (λ (p : ℕ × ℕ). nat_eq p.0 s) (ends es)))
    by true r = ap (λ xs. e.to ∷ xs) r
    by false r = r

to_ends : (edges : List Edge) (s : ℕ) → far_ends (map turned edges) s ≡ to_slot s (ends edges)
to_ends [] s = refl
to_ends (e ∷ es) s = by (nat_eq e.to s) (to_ends es s)
  where
    by : (b : Bool) → far_ends (map turned es) s ≡ to_slot s (ends es) → map (λ (x : Edge). x.to) (cond b (turned e ∷ filter (λ (x : Edge). nat_eq x.from s) (map turned es)) (filter (λ (x : Edge). nat_eq x.from s) (map turned es)))
        ≡ map (λ (p : ℕ × ℕ). p.0) (cond b ((e.from, e.to) ∷ filter (λ (p : ℕ × ℕ). nat_eq p.1 s) (ends es)) (filter (λ (p : ℕ × ℕ). nat_eq p.1 s) (ends es)))
    by true r = ap (λ xs. e.from ∷ xs) r
    by false r = r

forwards : (near : ℕ → List ℕ) (slots : List Node) (edges : List Edge) (s : ℕ) → ends edges ≡ all_ends near slots → AscendWithin 0 (length slots) (far_ends edges s)
forwards near slots edges s e =
    subst (AscendWithin 0 (length slots)) (sym (from_ends edges s ∙ ap (from_slot s) e))
    (from_ascend (λ i. filter (λ j. has (near (slot_clafer slots i)) (slot_clafer slots j)) (numbers_below (length slots))) (length slots) s 0 (length slots)
    (λ i. ascend_filter (λ j. has (near (slot_clafer slots i)) (slot_clafer slots j)) 0 (length slots) (numbers_below (length slots)) (ascend_numbers 0 (length slots) (length slots) (omega arith))))

backwards : (near : ℕ → List ℕ) (slots : List Node) (edges : List Edge) (s : ℕ) → ends edges ≡ all_ends near slots → AscendWithin 0 (length slots) (far_ends (map turned edges) s)
backwards near slots edges s e =
    subst (AscendWithin 0 (length slots)) (sym (to_ends edges s ∙ ap (to_slot s) e))
    (to_ascend (λ i j. has (near (slot_clafer slots i)) (slot_clafer slots j)) (length slots) (length slots) s 0 (length slots) (omega arith))

-- the edges of a step
pub steps_ascend : (clafers : List Clafer) (scopes : Scopes) (layout : Layout) (to : Step) (s : ℕ) → Fits clafers scopes layout → AscendWithin 0 (length layout.slots) (far_ends (edges_of layout to) s)
steps_ascend clafers scopes layout step.Down s fit = backwards (owners clafers) layout.slots layout.parents s fit.parents
steps_ascend clafers scopes layout step.Up s fit = forwards (owners clafers) layout.slots layout.parents s fit.parents
steps_ascend clafers scopes layout step.Follow s fit = forwards (referred clafers) layout.slots layout.targets s fit.targets
