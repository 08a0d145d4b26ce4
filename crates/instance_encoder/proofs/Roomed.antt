-- How many instances a clafer can have, with those of its heirs.
use Rattle.std.proofs.Common.{◌≡◌, ◌≢◌, ℕ, zero, suc, ◌+◌, ◌<◌, ◌≤◌, Bool, true, false, cond, not, ◌&&◌, ◌||◌, List, [], ◌∷◌, length, get_or, Option, Some, None, refl, sym, ap, ◌∙◌, arith, ◌⊎◌, inl, inr}
use Rattle.std.specs.Prelude.{◌==◌, slice_get, is_some, is_none, IsTrue}
use Rattle.std.specs.Option.{option_map_or, option_and_then}
use Rattle.std.specs.List.{filter, list_all, sum_by}
use Rattle.std.proofs.lemmas.Bool.{true≢false}
use Rattle.std.proofs.lemmas.Bool.Decides.{eqb_tells}
use Rattle.std.proofs.lemmas.Option.{slice_get_within}
use Rattle.std.proofs.lemmas.List.Sums.{sum-map, AllPass-from_list_all}
use Rattle.std.proofs.lemmas.List.FromFn.{length-range_with_len, get_or-range_with_len}
use Rattle.clf_tree.specs.declared.model.Clafer.{Clafer}
use Rattle.clf_tree.specs.declared.model.Reference.{Reference}
use Rattle.clf_tree.specs.declared.scopes.Scopes.{Scopes}
use Rattle.clf_tree.specs.Lists.{numbers_below, has}
use Rattle.clf_tree.specs.Hierarchy.{is_concrete, is_a, is_one_of, super_of, parent_of, target_of, reference_of, refers_to_int, way_up}
use Rattle.clf_tree.specs.Named.{each, has_right_super}
use Rattle.clf_tree.specs.Nodes.{scope_of}
use Rattle.clf_tree.specs.Intervals.{room}
use Rattle.clf_tree.specs.CoreWeights.{range_width}
use Rattle.int_widths.specs.Weight.{target_room, target_slots}
use Rattle.shown_instance.specs.Consistent.{abstract_are_empty}
use Rattle.instance_encoder.proofs.Totals.{sum-each, sum-filtered, below-less}
use Rattle.instance_encoder.proofs.Slotted.{room_of}
use Rattle.instance_encoder.proofs.Tied.{one_term, reach}

pub each_below : (p : ℕ → Bool) (n : ℕ) → list_all p (numbers_below n) ≡ true → (i : ℕ) → i < n → p i ≡ true
each_below p n h i l =
    let len = length-range_with_len 0 n in
    let here : get_or (numbers_below n) i 0 ≡ i = get_or-range_with_len 0 n i 0 l ∙ omega arith in
    sym (ap p here) ∙ AllPass-from_list_all p (numbers_below n) h i 0 (omega (arith, l, len))

-- the scopes of the clafers that pass a test, one by one
pub room_sum : (clafers : List Clafer) (scopes : Scopes) (q : ℕ → Bool) → room_of clafers scopes q ≡ sum_by (λ d. cond (q d) (scope_of scopes d) 0) (numbers_below (length clafers))
room_sum clafers scopes q = sum-map (scope_of scopes) (filter q (numbers_below (length clafers))) ∙ sum-filtered (scope_of scopes) q (numbers_below (length clafers))

pub room_less : (clafers : List Clafer) (scopes : Scopes) (p q : ℕ → Bool) → ((d : ℕ) → d < length clafers → cond (p d) (scope_of scopes d) 0 ≤ cond (q d) (scope_of scopes d) 0) → room_of clafers scopes p ≤ room_of clafers scopes q
room_less clafers scopes p q h =
    let a = room_sum clafers scopes p in
    let b = room_sum clafers scopes q in
    let c = below-less (λ d. cond (p d) (scope_of scopes d) 0) (λ d. cond (q d) (scope_of scopes d) 0) (length clafers) h in
    omega (arith, a, b, c)

-- ---- the room of a clafer

pub room_is : (clafers : List Clafer) (scopes : Scopes) (c : ℕ) → room clafers scopes (c ∷ []) ≡ reach clafers scopes (Some c)
room_is clafers scopes c =
    sum-map (scope_of scopes) (filter one_of (filter (is_concrete clafers) (numbers_below (length clafers))))
    ∙ sum-filtered (scope_of scopes) one_of (filter (is_concrete clafers) (numbers_below (length clafers)))
    ∙ sum-filtered (λ d. cond (one_of d) (scope_of scopes d) 0) (is_concrete clafers) (numbers_below (length clafers))
    ∙ sum-each (λ d. cond (is_concrete clafers d) (cond (one_of d) (scope_of scopes d) 0) 0) (λ d. cond (is_concrete clafers d && is_a clafers d c) (scope_of scopes d) 0) (numbers_below (length clafers))
    (λ d. both (is_concrete clafers d) (is_a clafers d c) (scope_of scopes d))
    ∙ sym (room_sum clafers scopes (λ d. is_concrete clafers d && is_a clafers d c))
  where
    one_of : ℕ → Bool
    one_of d = is_one_of clafers (c ∷ []) d

    both : (a b : Bool) (s : ℕ) → cond a (cond (b || false) s 0) 0 ≡ cond (a && b) s 0
    both true true s = refl
    both true false s = refl
    both false b s = refl

-- where abstract clafers are empty, those of all heirs
empty_at : (clafers : List Clafer) (scopes : Scopes) → IsTrue (abstract_are_empty clafers scopes) → (d : ℕ) → d < length clafers → (is_concrete clafers d || (scope_of scopes d == 0)) ≡ true
empty_at clafers scopes empty d l = each_below (λ c. is_concrete clafers c || (scope_of scopes c == 0)) (length clafers) empty d l

pub heirs_few : (clafers : List Clafer) (scopes : Scopes) (c : ℕ) → IsTrue (abstract_are_empty clafers scopes) → room_of clafers scopes (λ d. is_a clafers d c) ≤ reach clafers scopes (Some c)
heirs_few clafers scopes c empty =
    room_less clafers scopes (λ d. is_a clafers d c) (λ d. is_concrete clafers d && is_a clafers d c) (λ d l. at (is_concrete clafers d) (is_a clafers d c) (scope_of scopes d) (empty_at clafers scopes empty d l))
  where
    none : (s : ℕ) → (s == 0) ≡ true → s ≤ 0
    none s h = grind arith

    at : (a b : Bool) (s : ℕ) → (a || (s == 0)) ≡ true → cond b s 0 ≤ cond (a && b) s 0
    at true b s h = omega arith
    at false true s h = none s h
    at false false s h = omega arith

pub abstract_none : (clafers : List Clafer) (scopes : Scopes) → IsTrue (abstract_are_empty clafers scopes) → (d : ℕ) → d < length clafers → is_concrete clafers d ≡ false → scope_of scopes d ≡ 0
abstract_none clafers scopes empty d l e = none (scope_of scopes d) (sym (ap (λ b. b || (scope_of scopes d == 0)) e) ∙ empty_at clafers scopes empty d l)
  where
    none : (s : ℕ) → (s == 0) ≡ true → s ≡ 0
    none s h = grind arith

-- ---- a clafer without heirs

-- a super is neither concrete nor nested
abbrev pub is_leaf : List Clafer → ℕ → Bool
is_leaf clafers c = is_concrete clafers c || is_some (parent_of clafers c)

no_heir : (clafers : List Clafer) (c : ℕ) → IsTrue (each clafers (has_right_super clafers)) → is_leaf clafers c ≡ true → (d : ℕ) → super_of clafers d ≡ Some c → ⊥
no_heir clafers c right leaf d e = by (slice_get clafers d) refl
  where
    not_both : (a : Bool) (o : Option ℕ) → (a || is_some o) ≡ true → (not a && is_none o) ≡ true → ⊥
    not_both true o h k = true≢false (sym k)
    not_both false (Some p) h k = true≢false (sym k)
    not_both false None h k = true≢false (sym h)

    some_none : None ≡ Some c → ⊥
    some_none h = true≢false (ap (λ o. is_none o) h)

    by : (o : Option Clafer) → slice_get clafers d ≡ o → ⊥
    by None f = some_none (sym (ap (option_and_then (λ (k : Clafer). k.above)) f) ∙ e)
    by (Some k) f =
        let passes = each_below (has_right_super clafers) (length clafers) right d (slice_get_within clafers d k f) in
        not_both (is_concrete clafers c) (parent_of clafers c) leaf (sym (ap (λ o. option_map_or (λ s. not (is_concrete clafers s) && is_none (parent_of clafers s)) o true) e) ∙ passes)

alone : (clafers : List Clafer) (c : ℕ) → ((d : ℕ) → super_of clafers d ≡ Some c → ⊥) → (n d : ℕ) → has (way_up clafers n d) c ≡ true → d ≡ c
alone clafers c none zero d h = by (eqb_tells c d)
  where
    by : (((c == d) ≡ true) × (c ≡ d)) ⊎ (((c == d) ≡ false) × (c ≢ d)) → d ≡ c
    by (inl e) = sym e.1
    by (inr e) = absurd (true≢false (sym h ∙ ap (λ b. b || false) e.0))
alone clafers c none (suc n) d h = by (eqb_tells c d) (super_of clafers d) refl (alone clafers c none n)
  where
    by : (((c == d) ≡ true) × (c ≡ d)) ⊎ (((c == d) ≡ false) × (c ≢ d)) → (o : Option ℕ) → super_of clafers d ≡ o → ((m : ℕ) → has (way_up clafers n m) c ≡ true → m ≡ c) → d ≡ c
    by (inl e) o f rest = sym e.1
    by (inr e) None f rest = absurd (true≢false (sym h ∙ ap (λ b. b || has (option_map_or (way_up clafers n) (super_of clafers d) []) c) e.0 ∙ ap (λ o. has (option_map_or (way_up clafers n) o []) c) f))
    by (inr e) (Some m) f rest =
        let above : has (way_up clafers n m) c ≡ true = sym (ap (λ b. b || has (option_map_or (way_up clafers n) (super_of clafers d) []) c) e.0 ∙ ap (λ o. has (option_map_or (way_up clafers n) o []) c) f) ∙ h in
        absurd (none d (f ∙ ap (λ k. Some k) (rest m above)))

pub leaf_few : (clafers : List Clafer) (scopes : Scopes) (c : ℕ) → IsTrue (each clafers (has_right_super clafers)) → is_leaf clafers c ≡ true → room_of clafers scopes (λ d. is_a clafers d c) ≤ scope_of scopes c
leaf_few clafers scopes c right leaf =
    let all = room_sum clafers scopes (λ d. is_a clafers d c) in
    let less = below-less (λ d. cond (is_a clafers d c) (scope_of scopes d) 0) (λ d. cond (d == c) (scope_of scopes d) 0) (length clafers) (λ d l. at d (is_a clafers d c) refl (eqb_tells d c)) in
    let one = one_term (scope_of scopes) c (length clafers) in
    omega (arith, all, less, one)
  where
    at : (d : ℕ) (b : Bool) → is_a clafers d c ≡ b → (((d == c) ≡ true) × (d ≡ c)) ⊎ (((d == c) ≡ false) × (d ≢ c)) → cond b (scope_of scopes d) 0 ≤ cond (d == c) (scope_of scopes d) 0
    at d false e t = omega arith
    at d true e (inl t) = let here : cond (d == c) (scope_of scopes d) 0 ≡ scope_of scopes d = ap (λ b. cond b (scope_of scopes d) 0) t.0 in omega (arith, here)
    at d true e (inr t) = absurd (t.1 (alone clafers c (no_heir clafers c right leaf) (length clafers) d e))

-- ---- targets

-- the targets that a slot can have: nodes, and bits of an integer
abbrev pub integer_bits : List Clafer → Scopes → ℕ → ℕ
integer_bits clafers scopes c = cond (refers_to_int clafers c) (range_width scopes) 0

pub targets_are : (clafers : List Clafer) (scopes : Scopes) (c : ℕ) → target_slots clafers scopes c ≡ reach clafers scopes (target_of clafers c) + integer_bits clafers scopes c
targets_are clafers scopes c = by (reference_of clafers c)
  where
    to : (o : Option ℕ) → target_room clafers scopes o ≡ reach clafers scopes o + cond (is_none o) (range_width scopes) 0
    to None = omega arith
    to (Some k) = let r = room_is clafers scopes k in omega (arith, r)

    by : (o : Option Reference) → option_map_or (λ r. target_room clafers scopes r.to) o 0 ≡ reach clafers scopes (option_and_then (λ r. r.to) o) + cond (option_map_or (λ r. is_none r.to) o false) (range_width scopes) 0
    by None = omega arith
    by (Some r) = to r.to
