-- Which slots an image has, and how many.
use Rattle.std.proofs.Common.{◌≡◌, ℕ, suc, ◌+◌, ◌<◌, ◌≤◌, Bool, Option, true, false, ◌&&◌, ◌||◌, if◌then◌else◌, List, [], ◌∷◌, length, refl, sym, ap, ◌∙◌, arith}
use Rattle.std.specs.Prelude.{nat_eq}
use Rattle.std.proofs.lemmas.Bool.{eqb-true}
use Rattle.std.proofs.lemmas.Bool.Decides.{nat_tests}
use Rattle.bool_circuit.specs.declared.gate.Wire.{Wire}
use Rattle.bool_circuit.specs.declared.gate.Gate.{Gate}
use Rattle.set_bits.specs.declared.sets.Member.{Member}
use Rattle.set_bits.specs.declared.layout.Edge.{Edge}
use Rattle.set_bits.specs.Sets.{has_slot, leads_to, leading, AscendFrom}
use Rattle.set_bits.proofs.Combining.{and_false, ascend_from}
use Rattle.set_bits.specs.Reaching.{IsFollowed, IsCollected}

-- the members of other slots
abbrev without : ℕ → List Member → List Member
without t [] = []
without t (m ∷ ms) = if nat_eq m.slot t then without t ms else m ∷ without t ms

lower : (m n : ℕ) (xs : List Member) → m ≤ n → AscendFrom n xs → AscendFrom m xs
lower m n [] l h = tt
lower m n (x ∷ xs) l h = (let g = h.0 in omega arith, h.1)

ascend_without : (t n : ℕ) (xs : List Member) → AscendFrom n xs → AscendFrom n (without t xs)
ascend_without t n [] h = tt
ascend_without t n (x ∷ xs) h = by (nat_eq x.slot t) (ascend_without t (x.slot + 1) xs h.1)
  where
    by : (b : Bool) → AscendFrom (x.slot + 1) (without t xs) → AscendFrom n (if b then without t xs else x ∷ without t xs)
    by true r = lower n (x.slot + 1) (without t xs) (let g = h.0 in omega arith) r
    by false r = (h.0, r)

kept_without : (t n : ℕ) (xs : List Member) → AscendFrom n xs → t < n → length (without t xs) ≡ length xs
kept_without t n [] h l = refl
kept_without t n (x ∷ xs) h l =
    ap (λ b. length (if b then without t xs else x ∷ without t xs)) (differ x.slot t (let g = h.0 in omega arith)) ∙ ap suc (kept_without t (x.slot + 1) xs h.1 (let g = h.0 in omega arith))
  where
    differ : (a b : ℕ) → b < a → nat_eq a b ≡ false
    differ a b h = grind (arith, nat_tests)

-- at most one member of an ascending list has the slot
length_without : (t n : ℕ) (xs : List Member) → AscendFrom n xs → length xs ≤ length (without t xs) + 1
length_without t n [] h = omega arith
length_without t n (x ∷ xs) h = by (nat_eq x.slot t) refl (length_without t (x.slot + 1) xs h.1)
  where
    by : (b : Bool) → nat_eq x.slot t ≡ b → length xs ≤ length (without t xs) + 1 → length (x ∷ xs) ≤ length (if b then without t xs else x ∷ without t xs) + 1
    by true e r = (let k = kept_without t (x.slot + 1) xs h.1 (let d = eqb-true x.slot t e in omega arith) in omega arith)
    by false e r = omega arith

slot_without : (t : ℕ) (xs : List Member) (k : ℕ) → has_slot (without t xs) k ≡ true → (has_slot xs k ≡ true) × (nat_eq t k ≡ false)
slot_without t [] k h = absurd cc
slot_without t (x ∷ xs) k h = by (nat_eq x.slot t) (nat_eq x.slot k) refl refl (slot_without t xs k) h
  where
    apart : (a b c : ℕ) → nat_eq a b ≡ false → nat_eq a c ≡ true → nat_eq b c ≡ false
    apart a b c e f = grind (arith, nat_tests)

    behind : (b c : Bool) → c ≡ true → (b || c) ≡ true
    behind true c e = refl
    behind false c e = e

    by : (b c : Bool) → nat_eq x.slot t ≡ b → nat_eq x.slot k ≡ c → (has_slot (without t xs) k ≡ true → (has_slot xs k ≡ true) × (nat_eq t k ≡ false)) → has_slot (if b then without t xs else x ∷ without t xs) k ≡ true
        → (has_slot (x ∷ xs) k ≡ true) × (nat_eq t k ≡ false)
    by true c e f r g = (behind (nat_eq x.slot k) (has_slot xs k) (r g).0, (r g).1)
    by false true e f r g = (ap (λ b. b || has_slot xs k) f, apart x.slot t k e f)
    by false false e f r g = (let q = r (sym (ap (λ b. b || has_slot (without t xs) k) f) ∙ g) in (behind (nat_eq x.slot k) (has_slot xs k) q.0, q.1))

same_slot : (n : ℕ) → nat_eq n n ≡ true
same_slot n = grind (arith, nat_tests)

-- an ascending list of slots to which edges lead from members is no longer than those edges are many
pub led_are_few : (from : List Member) (edges : List Edge) (n : ℕ) (set : List Member) → AscendFrom n set → ((k : ℕ) → has_slot set k ≡ true → leads_to from edges k ≡ true) → length set ≤ leading from edges
led_are_few from [] n [] a h = omega arith
led_are_few from [] n (m ∷ ms) a h = (let e = h m.slot (ap (λ b. b || has_slot ms m.slot) (same_slot m.slot)) in absurd cc)
led_are_few from (e ∷ es) n set a h =
    by (has_slot from e.from) refl (led_are_few from es n set a) (led_are_few from es n (without e.to set) (ascend_without e.to n set a))
  where
    by : (b : Bool) → has_slot from e.from ≡ b → (((k : ℕ) → has_slot set k ≡ true → leads_to from es k ≡ true) → length set ≤ leading from es)
        → (((k : ℕ) → has_slot (without e.to set) k ≡ true → leads_to from es k ≡ true) → length (without e.to set) ≤ leading from es) → length set ≤ (if b then 1 else 0) + leading from es
    by true d r q =
        let l = length_without e.to n set a in
        let m = q (λ k g. let w = slot_without e.to set k g in sym (ap (λ b. (b && has_slot from e.from) || leads_to from es k) w.1) ∙ h k w.0) in omega arith
    by false d r q =
        let m = r (λ k g. sym (ap (λ b. (nat_eq e.to k && b) || leads_to from es k) d ∙ ap (λ b. b || leads_to from es k) (and_false (nat_eq e.to k))) ∙ h k g) in omega arith

-- ---- an image

pub image_slots : (old new : List Gate) (from : List Member) (edges : List Edge) (reached : List (Option Wire)) (set : List Member) → IsFollowed old from edges new reached → IsCollected reached (length reached) set
    → (k : ℕ) → has_slot set k ≡ true → leads_to from edges k ≡ true
image_slots old new from edges reached set f c k h = sym (f.slots k) ∙ c.slots k h

pub image_few : (old new : List Gate) (from : List Member) (edges : List Edge) (reached : List (Option Wire)) (set : List Member) → IsFollowed old from edges new reached → IsCollected reached (length reached) set → length set ≤ leading from edges
image_few old new from edges reached set f c = led_are_few from edges 0 set (ascend_from 0 (length reached) set c.ascending) (image_slots old new from edges reached set f c)
