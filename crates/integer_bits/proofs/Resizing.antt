-- Lists of wires of another length.
use Rattle.std.proofs.Common.{◌≡◌, ℕ, suc, zero, ◌+◌, ◌-◌, ◌*◌, ◌^◌, ◌<◌, ◌≤◌, min, Bool, true, false, List, [], ◌∷◌, ◌++◌, if◌then◌else◌, length, map, get_or, slice_get, Some, refl, sym, ap, ◌∙◌, subst, inl, inr, arith, add-one}
use Rattle.std.specs.Prelude.{ℤ, pos, negsuc, ◌+ℤ◌, ◌*ℤ◌, ◌≤ℤ◌, ◌<ℤ◌}
use Rattle.std.specs.List.{All}
use Rattle.std.proofs.Math.Pow.{pow_mono}
use Rattle.std.proofs.lemmas.Int.{ints}
use Rattle.std.proofs.lemmas.Bool.{cases_lt}
use Rattle.std.proofs.lemmas.Option.{get_or_from_slice_get}
use Rattle.std.proofs.lemmas.List.{length-map}
use Rattle.std.proofs.lemmas.List.Elements.{All-cons, All-head, All-tail, All-nil}
use Rattle.bool_circuit.specs.declared.gate.Wire.{Wire}
use Rattle.bool_circuit.specs.declared.gate.Gate.{Gate}
use Rattle.bool_circuit.specs.Circuit.{wire_value, wire_values, IsWireOf, AreWiresOf}
use Rattle.integer_bits.proofs.Congruent.{congruent_fits, congruent_trans, congruent_sym, congruent_same, natural_congruent, resized_congruent, integer_fits, length-resized, map-resized, pow_suc}
use Rattle.integer_bits.specs.Numbers.{bit, integer_of, integer_at, FitsBits, IsCongruent, resized}
use Rattle.integer_bits.specs.Steps.{IsNarrowed}

pub length_resized : {X : Type 0} (n : ℕ) (xs ys : List X) → ys ≡ resized n xs → 0 < length xs → length ys ≡ n
length_resized n xs ys e h = ap length e ∙ length-resized n xs h

All-resized : {X : Type 0} (P : X → Type 0) → (n : ℕ) (xs : List X) → All P xs → All P (resized n xs)
All-resized P zero xs h = All-nil P
All-resized P (suc n) [] h = All-nil P
All-resized P (suc n) (x ∷ []) h = All-cons P x (resized n (x ∷ [])) (All-head P x [] h) (All-resized P n (x ∷ []) h)
All-resized P (suc n) (x ∷ y ∷ xs) h = All-cons P x (resized n (y ∷ xs)) (All-head P x (y ∷ xs) h) (All-resized P n (y ∷ xs) (All-tail P x (y ∷ xs) h))

pub wires_resized : (n : ℕ) (ws vs : List Wire) → vs ≡ resized n ws → (gates : List Gate) → AreWiresOf gates ws → AreWiresOf gates vs
wires_resized n ws vs e gates h = rw e (All-resized (IsWireOf gates) n ws h)

resized-push : {X : Type 0} → (n : ℕ) (xs : List X) (d : X) → 0 < length xs → resized (suc n) xs ≡ resized n xs ++ get_or xs (min n (length xs - 1)) d ∷ []
resized-push n [] d h = absurd (omega arith)
resized-push zero (x ∷ []) d h = refl
resized-push zero (x ∷ y ∷ xs) d h = let m : min 0 (length (x ∷ y ∷ xs) - 1) ≡ 0 = omega arith in rw m refl
resized-push (suc n) (x ∷ []) d h =
    let m : min (suc n) (length (x ∷ []) - 1) ≡ min n (length (x ∷ []) - 1) = omega arith in
    rw m (ap (λ t. x ∷ t) (resized-push n (x ∷ []) d h))
resized-push (suc n) (x ∷ y ∷ xs) d h =
    let m : min (suc n) (length (x ∷ y ∷ xs) - 1) ≡ suc (min n (length (y ∷ xs) - 1)) = omega arith in
    rw m (ap (λ t. x ∷ t) (resized-push n (y ∷ xs) d (omega arith)))

pub resized_more : {X : Type 0} (n : ℕ) (xs : List X) (x : X) → 0 < length xs → slice_get xs (min n (length xs - 1)) ≡ Some x → resized (n + 1) xs ≡ resized n xs ++ x ∷ []
resized_more n xs x h e = rw (add-one) (resized-push n xs x h ∙ ap (λ t. resized n xs ++ t ∷ []) (get_or_from_slice_get xs (min n (length xs - 1)) x x e))

pub values_resized : (gates : List Gate) (n : ℕ) (ws : List Wire) (bits : List Bool) → wire_values gates (resized n ws) bits ≡ resized n (wire_values gates ws bits)
values_resized gates n ws bits = map-resized (λ w. wire_value gates w bits) n ws

-- ---- how many wires hold a number

doubled_end : (b : Bool) → pos (bit b) +ℤ pos 2 *ℤ (if b then negsuc 0 else pos 0) ≡ (if b then negsuc 0 else pos 0)
doubled_end true = refl
doubled_end false = refl

-- all bits are the same
flat : (f : Wire → Bool) (w : Wire) (ws : List Wire) → ((k : ℕ) → k < length (w ∷ ws) → slice_get (w ∷ ws) k ≡ Some w) → integer_of (map f (w ∷ ws)) ≡ (if f w then negsuc 0 else pos 0)
flat f w [] h = refl
flat f w (v ∷ ws) h =
    let e : v ≡ w = some_same (h 1 (omega arith)) in
    let r : integer_of (map f (v ∷ ws)) ≡ (if f w then negsuc 0 else pos 0) = subst (λ x. integer_of (map f (x ∷ ws)) ≡ (if f w then negsuc 0 else pos 0)) (sym e) (flat f w ws shifted) in
    ap (λ z. pos (bit (f w)) +ℤ pos 2 *ℤ z) r ∙ doubled_end (f w)
  where
    some_same : {x y : Wire} → Some x ≡ Some y → x ≡ y
    some_same e = cc

    shifted : (k : ℕ) → k < length (w ∷ ws) → slice_get (w ∷ ws) k ≡ Some w
    shifted zero l = refl
    shifted (suc k) l = h (suc (suc k)) (omega arith)

fits_end : (b : Bool) → FitsBits 1 (if b then negsuc 0 else pos 0)
fits_end true = record { low = omega (arith, ints); high = omega (arith, ints) }
fits_end false = record { low = omega (arith, ints); high = omega (arith, ints) }

fits_more : (b : Bool) (z : ℤ) (n h : ℕ) → 2 ^ (n - 1) ≡ 2 * h → pos 0 ≤ℤ (z +ℤ pos h) → z <ℤ pos h → FitsBits n (pos (bit b) +ℤ pos 2 *ℤ z)
fits_more true z n h e l g = record { low = omega (arith, ints); high = omega (arith, ints) }
fits_more false z n h e l g = record { low = omega (arith, ints); high = omega (arith, ints) }

-- where all wires from p on are the same, the number fits p + 1 bits
fits_up_to : (f : Wire → Bool) (p : ℕ) (ws : List Wire) → p < length ws → ((k : ℕ) → p ≤ k → k < length ws → slice_get ws k ≡ slice_get ws p) → FitsBits (suc p) (integer_of (map f ws))
fits_up_to f p [] l h = absurd (omega arith)
fits_up_to f zero (w ∷ ws) l h = rw (flat f w ws (λ k i. h k (omega arith) i)) (fits_end (f w))
fits_up_to f (suc p) (w ∷ []) l h = absurd (omega arith)
fits_up_to f (suc p) (w ∷ v ∷ ws) l h =
    let g : FitsBits (suc p) (integer_of (map f (v ∷ ws))) = fits_up_to f p (v ∷ ws) (omega arith) (λ k i j. h (suc k) (omega arith) (omega arith)) in
    let e : suc (suc p) - 1 ≡ suc (suc p - 1) = omega arith in
    fits_more (f w) (integer_of (map f (v ∷ ws))) (suc (suc p)) (2 ^ (suc p - 1)) (ap (λ k. 2 ^ k) e ∙ pow_suc (suc p - 1)) g.low g.high

-- the wires that a number needs hold it
pub needed_fits : (n : ℕ) (ws : List Wire) → 0 < n → n ≤ length ws → ((k : ℕ) → n ≤ k + 1 → k < length ws → slice_get ws k ≡ slice_get ws (n - 1)) → (gates : List Gate) (bits : List Bool) → FitsBits n (integer_at gates ws bits)
needed_fits n ws h l same gates bits =
    let e : suc (n - 1) ≡ n = omega arith in
    subst (λ k. FitsBits k (integer_at gates ws bits)) e (fits_up_to (λ w. wire_value gates w bits) (n - 1) ws (omega arith) (λ k i j. same k (omega arith) j))

pub fits_wider : (m n : ℕ) (z : ℤ) → m ≤ n → FitsBits m z → FitsBits n z
fits_wider m n z h f = (let p = pow_mono {i = m - 1} {j = n - 1} (omega arith) in let l = f.low in let g = f.high in record { low = omega (arith, ints); high = omega (arith, ints) })

-- ---- resized numbers

-- modulo 2 ^ n the number of n bits is the integer
pub resized_integer : (n : ℕ) (bs : List Bool) → 0 < length bs → IsCongruent n (integer_of (resized n bs)) (integer_of bs)
resized_integer n bs h =
    let size : length (resized n bs) ≡ n = length-resized n bs h in
    congruent_trans n _ _ _ (congruent_sym n _ _ (rw size at (natural_congruent (resized n bs)))) (resized_congruent n bs)

-- a spelling of n bits, which the integer fits, is of the same integer
pub resized_exact : (n : ℕ) (bs : List Bool) → 0 < length bs → 0 < n → FitsBits n (integer_of bs) → integer_of (resized n bs) ≡ integer_of bs
resized_exact n bs h l f =
    let size : length (resized n bs) ≡ n = length-resized n bs h in
    congruent_fits n _ _ l (resized_integer n bs h) (rw size at (integer_fits (resized n bs) (omega arith))) f

pub length_values : (gates : List Gate) (ws : List Wire) (bits : List Bool) → length (wire_values gates ws bits) ≡ length ws
length_values gates ws bits = length-map ws (λ w. wire_value gates w bits)

-- on wires
pub integer_of_resized_wires : (gates : List Gate) (n : ℕ) (a la : List Wire) (bits : List Bool) → la ≡ resized n a → 0 < length a → 0 < n → FitsBits n (integer_at gates a bits) → integer_at gates la bits ≡ integer_at gates a bits
integer_of_resized_wires gates n a la bits e h l f =
    ap (λ t. integer_at gates t bits) e ∙ ap integer_of (values_resized gates n a bits)
    ∙ resized_exact n (wire_values gates a bits) (omega (arith, length_values gates a bits)) l f

pub congruent_resized_wires : (gates : List Gate) (n : ℕ) (a la : List Wire) (bits : List Bool) → la ≡ resized n a → 0 < length a → IsCongruent n (integer_at gates la bits) (integer_at gates a bits)
congruent_resized_wires gates n a la bits e h =
    rw (ap (λ t. integer_at gates t bits) e ∙ ap integer_of (values_resized gates n a bits)) (resized_integer n (wire_values gates a bits) (omega (arith, length_values gates a bits)))

-- the number cut to n wires, which are as many as the width or hold it
cut_congruent : (width n few : ℕ) → few ≡ min n width → 0 < n → 0 < width → (gates : List Gate) (a ws : List Wire) (bits : List Bool) → 0 < length a → ws ≡ resized few a → FitsBits n (integer_at gates a bits)
    → IsCongruent width (integer_at gates ws bits) (integer_at gates a bits)
cut_congruent width n few ef hn hw gates a ws bits la e f = elim (cases_lt n width) [
  | inl l ↦ (let m : few ≡ n = omega arith in congruent_same width _ _ (integer_of_resized_wires gates few a ws bits e la (omega arith) (subst (λ k. FitsBits k (integer_at gates a bits)) (sym m) f)))
  | inr l ↦ (let m : few ≡ width = omega arith in subst (λ k. IsCongruent k (integer_at gates ws bits) (integer_at gates a bits)) m (congruent_resized_wires gates few a ws bits e la))
]

pub narrowed : (width n few : ℕ) (a ws : List Wire) → few ≡ min n width → 0 < n → n ≤ length a → 0 < width → ((k : ℕ) → n ≤ k + 1 → k < length a → slice_get a k ≡ slice_get a (n - 1)) → ws ≡ resized few a → IsNarrowed width a ws
narrowed width n few a ws ef hn hl hw same e =
    let la : 0 < length a = omega arith in
    let size : length ws ≡ few = length_resized few a ws e la in record {
      some = omega arith;
      few = omega arith;
      no_more = omega arith;
      wires = λ gates h. wires_resized few a ws e gates h;
      value = λ gates bits. cut_congruent width n few ef hn hw gates a ws bits la e (needed_fits n a hn hl same gates bits);
    }
