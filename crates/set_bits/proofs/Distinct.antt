-- Of edges that differ in an end, those that begin at a set are no more than its members times the slots into which edges lead.
use Rattle.std.proofs.Common.{◌≡◌, ℕ, ◌+◌, ◌*◌, ◌≤◌, Bool, true, false, ◌&&◌, ◌||◌, if◌then◌else◌, List, [], ◌∷◌, length, map, refl, sym, ap, ◌∙◌, subst, arith}
use Rattle.std.specs.Prelude.{nat_eq}
use Rattle.std.specs.List.{list_any}
use Rattle.std.proofs.lemmas.Bool.{eqb-true}
use Rattle.std.proofs.lemmas.Bool.Decides.{nat_tests}
use Rattle.set_bits.specs.declared.sets.Member.{Member}
use Rattle.set_bits.specs.declared.layout.Edge.{Edge}
use Rattle.set_bits.specs.Sets.{has_slot, leading, holds, different, slots_into, AreDistinct}

-- ---- lists of numbers

AreDifferent : List ℕ → Type 0
AreDifferent [] = Unit {0}
AreDifferent (x ∷ xs) = (holds xs x ≡ false) × AreDifferent xs

abbrev without : ℕ → List ℕ → List ℕ
without x [] = []
without x (y ∷ ys) = if nat_eq y x then without x ys else y ∷ without x ys

length_without : (x : ℕ) (ys : List ℕ) → length (without x ys) ≤ length ys
length_without x [] = omega arith
length_without x (y ∷ ys) = by (nat_eq y x) (length_without x ys)
  where
    by : (b : Bool) → length (without x ys) ≤ length ys → length (if b then without x ys else y ∷ without x ys) ≤ length (y ∷ ys)
    by true h = omega arith
    by false h = omega arith

one_shorter : (x : ℕ) (ys : List ℕ) → holds ys x ≡ true → length (without x ys) + 1 ≤ length ys
one_shorter x [] h = absurd cc
one_shorter x (y ∷ ys) h = by (nat_eq y x) refl (one_shorter x ys)
  where
    by : (b : Bool) → nat_eq y x ≡ b → (holds ys x ≡ true → length (without x ys) + 1 ≤ length ys) → length (if b then without x ys else y ∷ without x ys) + 1 ≤ length (y ∷ ys)
    by true e f = (let l = length_without x ys in omega arith)
    by false e f = (let l = f (ap (λ b. b || holds ys x) (sym e) ∙ h) in omega arith)

still_holds : (x z : ℕ) (ys : List ℕ) → nat_eq x z ≡ false → holds ys z ≡ true → holds (without x ys) z ≡ true
still_holds x z [] d h = h
still_holds x z (y ∷ ys) d h = by (nat_eq y x) refl (still_holds x z ys d)
  where
    apart : (a b c : ℕ) → nat_eq a b ≡ true → nat_eq b c ≡ false → nat_eq a c ≡ false
    apart a b c e f = grind (arith, nat_tests)

    first_or : (b : Bool) → (holds ys z ≡ true → holds (without x ys) z ≡ true) → (b || holds ys z) ≡ true → (b || holds (without x ys) z) ≡ true
    first_or true f g = refl
    first_or false f g = f g

    by : (b : Bool) → nat_eq y x ≡ b → (holds ys z ≡ true → holds (without x ys) z ≡ true) → holds (if b then without x ys else y ∷ without x ys) z ≡ true
    by true e f = f (ap (λ b. b || holds ys z) (sym (apart y x z e d)) ∙ h)
    by false e f = first_or (nat_eq y z) f h

-- different numbers of a list are no more than the list has
inside : (xs ys : List ℕ) → AreDifferent xs → ((z : ℕ) → holds xs z ≡ true → holds ys z ≡ true) → length xs ≤ length ys
unfolding AreDifferent
inside [] ys d h = omega arith
inside (x ∷ xs) ys d h =
    let r = inside xs (without x ys) d.1 (λ z k. still_holds x z ys (other z k) (h z (later (nat_eq x z) k))) in
    let s = one_shorter x ys (h x (ap (λ b. b || holds xs x) (same x))) in omega arith
  where
    same : (a : ℕ) → nat_eq a a ≡ true
    same a = grind (arith, nat_tests)

    later : (b : Bool) {c : Bool} → c ≡ true → (b || c) ≡ true
    later true e = refl
    later false e = e

    other : (z : ℕ) → holds xs z ≡ true → nat_eq x z ≡ false
    other z k = by (nat_eq x z) refl
      where
        by : (b : Bool) → nat_eq x z ≡ b → b ≡ false
        by true e = absurd (let f : holds xs z ≡ false = subst (λ y. holds xs y ≡ false) (eqb-true x z e) d.0 in cc)
        by false e = refl

holds_different : (xs : List ℕ) (z : ℕ) → holds xs z ≡ true → holds (different xs) z ≡ true
holds_different [] z h = h
holds_different (x ∷ xs) z h = by (holds xs x) refl (holds_different xs z)
  where
    first_or : (b : Bool) → (holds xs z ≡ true → holds (different xs) z ≡ true) → (b || holds xs z) ≡ true → (b || holds (different xs) z) ≡ true
    first_or true f g = refl
    first_or false f g = f g

    there : (b : Bool) → nat_eq x z ≡ b → holds xs x ≡ true → (b || holds xs z) ≡ true → holds xs z ≡ true
    there true e k g = subst (λ y. holds xs y ≡ true) (eqb-true x z e) k
    there false e k g = g

    by : (b : Bool) → holds xs x ≡ b → (holds xs z ≡ true → holds (different xs) z ≡ true) → holds (if b then different xs else x ∷ different xs) z ≡ true
    by true e f = f (there (nat_eq x z) refl e h)
    by false e f = first_or (nat_eq x z) f h

-- ---- edges from one slot

abbrev tos_from : ℕ → List Edge → List ℕ
tos_from s [] = []
tos_from s (e ∷ es) = if nat_eq e.from s then e.to ∷ tos_from s es else tos_from s es

abbrev tos : List Edge → List ℕ
tos edges = map (λ e. e.to) edges

tos_among : (s : ℕ) (edges : List Edge) (z : ℕ) → holds (tos_from s edges) z ≡ true → holds (tos edges) z ≡ true
tos_among s [] z h = h
tos_among s (e ∷ es) z h = by (nat_eq e.from s) (λ k. tos_among s es z k) h
  where
    later : (b : Bool) {c : Bool} → c ≡ true → (b || c) ≡ true
    later true f = refl
    later false f = f

    first_or : (b : Bool) → (holds (tos_from s es) z ≡ true → holds (tos es) z ≡ true) → (b || holds (tos_from s es) z) ≡ true → (b || holds (tos es) z) ≡ true
    first_or true f g = refl
    first_or false f g = f g

    by : (b : Bool) → (holds (tos_from s es) z ≡ true → holds (tos es) z ≡ true) → holds (if b then e.to ∷ tos_from s es else tos_from s es) z ≡ true → (nat_eq e.to z || holds (tos es) z) ≡ true
    by true f g = first_or (nat_eq e.to z) f g
    by false f g = later (nat_eq e.to z) (f g)

not_again : (s t : ℕ) (es : List Edge) → list_any (λ f. nat_eq f.from s && nat_eq f.to t) es ≡ false → holds (tos_from s es) t ≡ false
not_again s t [] h = refl
not_again s t (f ∷ fs) h = by (nat_eq f.from s) (nat_eq f.to t) refl (not_again s t fs) h
  where
    by : (a b : Bool) → nat_eq f.to t ≡ b → (list_any (λ f. nat_eq f.from s && nat_eq f.to t) fs ≡ false → holds (tos_from s fs) t ≡ false) → ((a && b) || list_any (λ f. nat_eq f.from s && nat_eq f.to t) fs) ≡ false → holds (if a then f.to ∷ tos_from s fs else tos_from s fs) t ≡ false
    by true true e r g = absurd cc
    by true false e r g = ap (λ b. b || holds (tos_from s fs) t) e ∙ r g
    by false b e r g = r g

tos_differ : (s : ℕ) (edges : List Edge) → AreDistinct edges → AreDifferent (tos_from s edges)
unfolding AreDifferent
tos_differ s [] h = tt
tos_differ s (e ∷ es) h = by (nat_eq e.from s) refl (tos_differ s es h.1)
  where
    by : (b : Bool) → nat_eq e.from s ≡ b → AreDifferent (tos_from s es) → AreDifferent (if b then e.to ∷ tos_from s es else tos_from s es)
    by true f d = (subst (λ n. holds (tos_from n es) e.to ≡ false) (eqb-true e.from s f) (not_again e.from e.to es h.0), d)
    by false f d = d

from_one : (s : ℕ) (edges : List Edge) → AreDistinct edges → length (tos_from s edges) ≤ slots_into edges
from_one s edges h = inside (tos_from s edges) (different (tos edges)) (tos_differ s edges h) (λ z k. holds_different (tos edges) z (tos_among s edges z k))

-- ---- edges from all slots of a set

abbrev from_all : List Member → List Edge → ℕ
from_all [] edges = 0
from_all (m ∷ ms) edges = length (tos_from m.slot edges) + from_all ms edges

abbrev one_if : Bool → ℕ
one_if b = if b then 1 else 0

from_none : (set : List Member) → from_all set [] ≡ 0
from_none [] = refl
from_none (m ∷ ms) = omega (arith, from_none ms)

one_edge : (set : List Member) (e : Edge) (es : List Edge) → one_if (has_slot set e.from) + from_all set es ≤ from_all set (e ∷ es)
one_edge [] e es = omega arith
one_edge (m ∷ ms) e es = by (nat_eq m.slot e.from) (nat_eq e.from m.slot) (turned m.slot e.from) (has_slot ms e.from) (one_edge ms e es)
  where
    turned : (a b : ℕ) → nat_eq a b ≡ nat_eq b a
    turned a b = grind (arith, nat_tests)

    by : (a b : Bool) → a ≡ b → (c : Bool) → one_if c + from_all ms es ≤ from_all ms (e ∷ es) → one_if (a || c) + (length (tos_from m.slot es) + from_all ms es) ≤ length (if b then e.to ∷ tos_from m.slot es else tos_from m.slot es) + from_all ms (e ∷ es)
    by true true d true h = omega arith
    by true true d false h = omega arith
    by true false d c h = absurd cc
    by false true d c h = absurd cc
    by false false d c h = omega arith

leading_from_all : (set : List Member) (edges : List Edge) → leading set edges ≤ from_all set edges
leading_from_all set [] = omega arith
leading_from_all set (e ∷ es) = omega (arith, leading_from_all set es, one_edge set e es)

all_within : (set : List Member) (edges : List Edge) → AreDistinct edges → from_all set edges ≤ length set * slots_into edges
all_within [] edges h = omega arith
all_within (m ∷ ms) edges h = omega (arith, all_within ms edges h, from_one m.slot edges h)

pub leading_few : (set : List Member) (edges : List Edge) → AreDistinct edges → leading set edges ≤ length set * slots_into edges
leading_few set edges h = omega (arith, leading_from_all set edges, all_within set edges h)

pub leading_all : (set : List Member) (edges : List Edge) → leading set edges ≤ length edges
leading_all set [] = omega arith
leading_all set (e ∷ es) = by (has_slot set e.from) (leading_all set es)
  where
    by : (b : Bool) → leading set es ≤ length es → one_if b + leading set es ≤ length (e ∷ es)
    by true h = omega arith
    by false h = omega arith
