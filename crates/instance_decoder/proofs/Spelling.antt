-- The integers that few bits spell are small, and one bit more.
use Rattle.std.proofs.Common.{◌≡◌, ℕ, suc, zero, ◌+◌, ◌-◌, ◌*◌, ◌^◌, ◌<◌, ◌≤◌, Bool, true, false, if◌then◌else◌, List, [], ◌∷◌, length, map, drop, get_or, refl, sym, ap, ◌∙◌, subst, arith}
use Rattle.std.specs.Prelude.{ℤ, pos, negsuc, ◌+ℤ◌, ◌*ℤ◌, ◌≤ℤ◌, ◌<ℤ◌, neg_ℤ}
use Rattle.std.proofs.lemmas.Int.{ints}
use Rattle.std.proofs.lemmas.List.{length-drop, length-map, get_or-map}
use Rattle.bool_circuit.specs.declared.gate.Wire.{Wire}
use Rattle.bool_circuit.specs.Circuit.{entry}
use Rattle.std.proofs.Math.Nat.{pow-le-pow_right}
use Rattle.integer_bits.specs.Numbers.{bit, integer_of, FitsBits}

pow_suc : (n : ℕ) → 2 ^ suc n ≡ 2 * 2 ^ n
pow_suc n = grind arith

fits_more : (b : Bool) (z : ℤ) (n h : ℕ) → 2 ^ (n - 1) ≡ 2 * h → pos 0 ≤ℤ (z +ℤ pos h) → z <ℤ pos h → FitsBits n (pos (bit b) +ℤ pos 2 *ℤ z)
fits_more true z n h e l g = record { low = omega (arith, ints, e, l, g); high = omega (arith, ints, e, l, g) }
fits_more false z n h e l g = record { low = omega (arith, ints, e, l, g); high = omega (arith, ints, e, l, g) }

integer_fits : (bs : List Bool) → 0 < length bs → FitsBits (length bs) (integer_of bs)
integer_fits [] h = absurd (omega (arith, h))
integer_fits (true ∷ []) h = record { low = omega (arith, ints); high = omega (arith, ints) }
integer_fits (false ∷ []) h = record { low = omega (arith, ints); high = omega (arith, ints) }
integer_fits (b ∷ c ∷ bs) h =
    let f : FitsBits (length (c ∷ bs)) (integer_of (c ∷ bs)) = integer_fits (c ∷ bs) (omega arith) in
    fits_more b (integer_of (c ∷ bs)) (length (b ∷ c ∷ bs)) (2 ^ (length (c ∷ bs) - 1)) (let e : length (b ∷ c ∷ bs) - 1 ≡ suc (length (c ∷ bs) - 1) = omega arith in ap (λ k. 2 ^ k) e ∙ pow_suc (length (c ∷ bs) - 1)) f.low f.high

-- at most 63 bits spell integers within 62 bits and a sign
pub small : (bs : List Bool) → 0 < length bs → length bs ≤ 63 → (neg_ℤ (pos 4611686018427387904) ≤ℤ integer_of bs) × (integer_of bs <ℤ pos 4611686018427387904)
small bs some few =
    let f : FitsBits (length bs) (integer_of bs) = integer_fits bs some in
    let p : 2 ^ (length bs - 1) ≤ 2 ^ 62 = pow-le-pow_right {n = 2} (omega arith) {i = length bs - 1} {j = 62} (omega (arith, few)) in
    by (integer_of bs) (2 ^ (length bs - 1)) f.low f.high p
  where
    by : (z : ℤ) (h : ℕ) → pos 0 ≤ℤ (z +ℤ pos h) → z <ℤ pos h → h ≤ 2 ^ 62 → (neg_ℤ (pos 4611686018427387904) ≤ℤ z) × (z <ℤ pos 4611686018427387904)
    by z h l g p = (omega (arith, ints, l, g, p), omega (arith, ints, l, g, p))

-- the last bits from a place on, and one more
drop-here : (bs : List Bool) (i : ℕ) → i < length bs → drop i bs ≡ get_or bs i false ∷ drop (i + 1) bs
drop-here [] i h = absurd (omega (arith, h))
drop-here (b ∷ bs) zero h = refl
drop-here (b ∷ bs) (suc i) h = let e : suc i + 1 ≡ suc (i + 1) = omega arith in rw e (drop-here bs i (omega (arith, h)))

length-drop_some : (bs : List Bool) (i : ℕ) → i < length bs → 0 < length (drop i bs)
length-drop_some bs i h = rw (drop-here bs i h) (omega arith)

integer_cons : (b : Bool) (cs : List Bool) → 0 < length cs → integer_of (b ∷ cs) ≡ pos (bit b) +ℤ pos 2 *ℤ integer_of cs
integer_cons b [] h = absurd (omega (arith, h))
integer_cons b (c ∷ cs) h = refl

pub one_lower : (bs : List Bool) (i : ℕ) → i + 1 < length bs → integer_of (drop i bs) ≡ pos (bit (get_or bs i false)) +ℤ pos 2 *ℤ integer_of (drop (i + 1) bs)
one_lower bs i h = ap integer_of (drop-here bs i (omega (arith, h))) ∙ integer_cons (get_or bs i false) (drop (i + 1) bs) (length-drop_some bs (i + 1) h)

drop-end : (bs : List Bool) → drop (length bs) bs ≡ []
drop-end [] = refl
drop-end (b ∷ bs) = drop-end bs

pub the_last : (bs : List Bool) (i : ℕ) → i + 1 ≡ length bs → integer_of (drop i bs) ≡ (if get_or bs i false then negsuc 0 else pos 0)
the_last bs i h = ap integer_of (drop-here bs i (omega (arith, h)) ∙ ap (λ n. get_or bs i false ∷ drop n bs) h ∙ ap (λ cs. get_or bs i false ∷ cs) (drop-end bs))

-- the integer that fewer than 64 last bits spell can be doubled
pub rest_small : (bs : List Bool) (behind n : ℕ) (z : ℤ) → length bs ≡ n → n ≤ 64 → 0 < behind → behind < n → z ≡ integer_of (drop (n - behind) bs) → (neg_ℤ (pos 4611686018427387904) ≤ℤ z) × (z <ℤ pos 4611686018427387904)
rest_small bs behind n z many few some within e =
    let size : length (drop (n - behind) bs) ≡ behind = omega (arith, length-drop (n - behind) bs, many, within) in
    let s = small (drop (n - behind) bs) (omega (arith, size, some)) (omega (arith, size, within, few)) in
    (subst (λ y. neg_ℤ (pos 4611686018427387904) ≤ℤ y) (sym e) s.0, subst (λ y. y <ℤ pos 4611686018427387904) (sym e) s.1)

-- one bit more of some wires
pub lower : (bits : List Bool) (wires : List Wire) (behind : ℕ) (z next : ℤ) (b : Bool) → 0 < behind → behind < length wires → z ≡ integer_of (drop (length wires - behind) (map (entry bits) wires)) → b ≡ entry bits (get_or wires (length wires - 1 - behind) (record { number = 0 }))
    → next ≡ pos (bit b) +ℤ pos 2 *ℤ z → next ≡ integer_of (drop (length wires - (behind + 1)) (map (entry bits) wires))
lower bits wires behind z next b some within e here step =
    let i : ℕ = length wires - (behind + 1) in
    let at : length wires - 1 - behind ≡ i = omega (arith, within) in
    let after : i + 1 ≡ length wires - behind = omega (arith, within) in
    let many : length (map (entry bits) wires) ≡ length wires = length-map wires (entry bits) in
    let read : get_or (map (entry bits) wires) i false ≡ b =
    get_or-map (entry bits) wires i (record { number = 0 }) false (omega (arith, within)) ∙ ap (λ k. entry bits (get_or wires k (record { number = 0 }))) (sym at) ∙ sym here in
    step ∙ sym (one_lower (map (entry bits) wires) i (omega (arith, many, within, some)) ∙ ap (λ c. pos (bit c) +ℤ pos 2 *ℤ integer_of (drop (i + 1) (map (entry bits) wires))) read
    ∙ ap (λ k. pos (bit b) +ℤ pos 2 *ℤ integer_of (drop k (map (entry bits) wires))) after ∙ ap (λ y. pos (bit b) +ℤ pos 2 *ℤ y) (sym e))
