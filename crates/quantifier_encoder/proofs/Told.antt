-- The members of what a set tells, and what the wires of its tuples say of a quantifier.
use Rattle.std.proofs.Common.{◌≡◌, ℕ, zero, suc, ◌+◌, ◌<◌, ◌≤◌, Bool, true, false, cond, ◌&&◌, ◌||◌, List, [], ◌∷◌, length, map, refl, sym, ap, ◌∙◌, subst, arith, ◌^◌}
use Rattle.std.specs.Prelude.{nat_eq, nat_lt}
use Rattle.std.specs.List.{All, filter, list_all, range_with_len}
use Rattle.std.proofs.lemmas.Bool.{eqb-true}
use Rattle.std.proofs.lemmas.Bool.Decides.{nat_tests}
use Rattle.std.proofs.lemmas.List.{length-map}
use Rattle.std.proofs.lemmas.List.Elements.{All-head, All-tail}
use Rattle.bool_circuit.specs.declared.gate.Gate.{Gate}
use Rattle.bool_circuit.specs.Circuit.{wire_value, IsWireOf, Extends}
use Rattle.clf_tree.specs.declared.core_expr.Quantifier.{Quantifier}
use Rattle.set_bits.specs.declared.layout.Layout.{Layout}
use Rattle.set_bits.specs.declared.sets.Member.{Member}
use Rattle.set_bits.specs.Sets.{is_in, AscendFrom}
use Rattle.set_bits.proofs.Combining.{none_below}
use Rattle.told_constraints.specs.Told.{as_many, tried_slots, members}
use Rattle.quantifier_encoder.specs.declared.tuples.Tuple.{Tuple}
use Rattle.quantifier_encoder.specs.Tuples.{slots_of, slots_each, guards, AreTuples}
use Rattle.quantifier_encoder.specs.Passing.{passes_present}
use Rattle.quantifier_encoder.proofs.Guarded.{guarded}
use Rattle.quantifier_encoder.proofs.Weighed.{tried_few}

-- ---- the members of a set that ascends

filter_same : {X : Type 0} (p q : X → Bool) → ((x : X) → p x ≡ q x) → (xs : List X) → filter p xs ≡ filter q xs
filter_same p q h [] = refl
filter_same p q h (x ∷ xs) = ap (λ b. cond b (x ∷ filter p xs) (filter p xs)) (h x) ∙ ap (λ ys. cond (q x) (x ∷ ys) ys) (filter_same p q h xs)

below_are : (end k : ℕ) (ms : List Member) (b : Bool) → (b && list_all (λ m. nat_lt m.slot end) ms) ≡ true → (b ≡ true) × (list_all (λ m. nat_lt m.slot end) ms ≡ true)
below_are end k ms true h = (refl, h)
below_are end k ms false h = absurd cc

apart : (a b : ℕ) → a < b → nat_eq a b ≡ false
apart a b h = grind (arith, nat_tests)

unequal : (a b : ℕ) → nat_eq a b ≡ false → b ≤ a → b + 1 ≤ a
unequal a b e h = grind (arith, nat_tests)

beyond : (a end : ℕ) → nat_lt a end ≡ true → end ≡ 0 + a → ⊥
beyond a end e h = grind (arith, nat_tests)

not_below : (a b end : ℕ) → a ≤ b → nat_lt b end ≡ true → end ≡ a + 0 → ⊥
not_below a b end l e h = grind (arith, nat_tests)

-- the slots from a number on that pass are those of the set, which ascends from there
ascending_members : (gates : List Gate) (bits : List Bool) (p : ℕ → Bool) (end k a : ℕ) (set : List Member) → end ≡ a + k → AscendFrom a set → list_all (λ m. nat_lt m.slot end) set ≡ true
    → ((s : ℕ) → a ≤ s → is_in gates set s bits ≡ p s) → filter p (range_with_len a k) ≡ filter p (slots_of set)
ascending_members gates bits p end zero a [] e asc below h = refl
ascending_members gates bits p end zero a (m ∷ ms) e asc below h = absurd (not_below a m.slot end asc.0 (below_are end 0 ms (nat_lt m.slot end) below).0 e)
ascending_members gates bits p end (suc k) a [] e asc below h =
    ap (λ b. cond b (a ∷ filter p (range_with_len (a + 1) k)) (filter p (range_with_len (a + 1) k))) (sym (h a (omega arith)))
    ∙ ascending_members gates bits p end k (a + 1) [] (omega arith) tt refl (λ s l. h s (omega arith))
ascending_members gates bits p end (suc k) a (m ∷ ms) e asc below h =
    by (nat_eq m.slot a) refl
    (λ set asc below h. ascending_members gates bits p end k (a + 1) set (omega arith) asc below h)
  where
    later : (s : ℕ) → m.slot < s → is_in gates (m ∷ ms) s bits ≡ is_in gates ms s bits
    later s l = ap (λ b. (b && wire_value gates m.here bits) || is_in gates ms s bits) (apart m.slot s l)

    by : (b : Bool) → nat_eq m.slot a ≡ b
        → ((set : List Member) → AscendFrom (a + 1) set → list_all (λ m. nat_lt m.slot end) set ≡ true → ((s : ℕ) → a + 1 ≤ s → is_in gates set s bits ≡ p s) → filter p (range_with_len (a + 1) k) ≡ filter p (slots_of set))
        → filter p (a ∷ range_with_len (a + 1) k) ≡ filter p (slots_of (m ∷ ms))
    by true f rec =
        let same : m.slot ≡ a = eqb-true m.slot a f in
        let rest = rec ms (subst (λ n. AscendFrom (n + 1) ms) same asc.1) (below_are end 0 ms (nat_lt m.slot end) below).1
        (λ s l. sym (later s (omega (arith, same))) ∙ h s (omega arith)) in
        ap (λ r. cond (p a) (a ∷ r) r) rest ∙ ap (λ x. cond (p x) (x ∷ filter p (slots_of ms)) (filter p (slots_of ms))) (sym same)
    by false f rec =
        let l : a + 1 ≤ m.slot = unequal m.slot a f asc.0 in
        let none : is_in gates (m ∷ ms) a bits ≡ false = none_below gates (m ∷ ms) (a + 1) a bits (l, asc.1) (omega arith) in
        ap (λ b. cond b (a ∷ filter p (range_with_len (a + 1) k)) (filter p (range_with_len (a + 1) k))) (sym (h a (omega arith)) ∙ none)
        ∙ rec (m ∷ ms) (l, asc.1) below (λ s i. h s (omega arith))

pub members_told : (layout : Layout) (gates : List Gate) (bits : List Bool) (p : ℕ → Bool) (set : List Member) → AscendFrom 0 set → list_all (λ m. nat_lt m.slot (length layout.slots)) set ≡ true
    → ((s : ℕ) → is_in gates set s bits ≡ p s) → members layout p ≡ filter (λ s. is_in gates set s bits) (slots_of set)
unfolding members
members_told layout gates bits p set asc below h =
    ascending_members gates bits p (length layout.slots) (length layout.slots) 0 set (omega arith) asc below (λ s l. h s)
    ∙ sym (filter_same (λ s. is_in gates set s bits) p h (slots_of set))

-- ---- the tuples

tests_of : (test : List ℕ → Bool) (ts : List Tuple) → map (λ (t : Tuple). test t.slots) ts ≡ map test (slots_each ts)
tests_of test [] = refl
tests_of test (t ∷ ts) = ap (λ bs. test t.slots ∷ bs) (tests_of test ts)

pub told_by_tuples : (w : Quantifier) (disj : Bool) (names : ℕ) (layout : Layout) (p : ℕ → Bool) (test : List ℕ → Bool) (old gates : List Gate) (set : List Member) (ts : List Tuple) (passed bits : List Bool)
    → AreTuples gates old set disj names ts → AscendFrom 0 set → list_all (λ m. nat_lt m.slot (length layout.slots)) set ≡ true → ((s : ℕ) → is_in old set s bits ≡ p s) → passed ≡ map (λ (t : Tuple). test t.slots) ts
    → passes_present w (guards gates ts bits) passed ≡ as_many w test (tried_slots disj names (members layout p))
told_by_tuples w disj names layout p test old gates set ts passed bits t asc below h e =
    ap (λ bs. passes_present w bs passed) (t.present bits)
    ∙ ap (passes_present w (map (list_all (λ s. is_in old set s bits)) (tried_slots disj names (slots_of set)))) (e ∙ tests_of test ts ∙ ap (map test) t.slots)
    ∙ sym (guarded w disj names (λ s. is_in old set s bits) test (slots_of set))
    ∙ ap (λ ss. as_many w test (tried_slots disj names ss)) (sym (members_told layout old bits p set asc below h))

guards_stay : (old new : List Gate) (n : ℕ) (ts : List Tuple) (bits : List Bool) → Extends old new n → All (λ t. IsWireOf old t.present) ts → guards new ts bits ≡ guards old ts bits
guards_stay old new n [] bits x h = refl
guards_stay old new n (t ∷ ts) bits x h =
    let here = x.keeps t.present (All-head (λ (t : Tuple). IsWireOf old t.present) t ts h) bits in
    let rest = guards_stay old new n ts bits x (All-tail (λ (t : Tuple). IsWireOf old t.present) t ts h) in
    cc

pub tuples_kept : (old made new : List Gate) (n : ℕ) (set : List Member) (disj : Bool) (names : ℕ) (ts : List Tuple) → AreTuples made old set disj names ts → Extends made new n → AreTuples new old set disj names ts
tuples_kept old made new n set disj names ts t x = record {
  slots = t.slots;
  wires = λ k d l. let i = t.wires k d l in omega (arith, i, x.at_least);
  present = λ bits. guards_stay made new n ts bits x t.wires ∙ t.present bits;
}

pub tuples_few : (old gates : List Gate) (set : List Member) (disj : Bool) (names : ℕ) (ts : List Tuple) → AreTuples gates old set disj names ts → length ts ≤ length set ^ names
tuples_few old gates set disj names ts t =
    let a = length-map ts (λ (t : Tuple). t.slots) in
    let b : length (slots_each ts) ≡ length (tried_slots disj names (slots_of set)) = ap length t.slots in
    let d = tried_few disj names (slots_of set) in
    let e : length (slots_of set) ^ names ≡ length set ^ names = ap (λ k. k ^ names) (length-map set (λ (m : Member). m.slot)) in
    omega (arith, a, b, d, e)
