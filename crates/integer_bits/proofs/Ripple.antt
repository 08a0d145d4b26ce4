-- A sum, bit by bit.
use Rattle.std.proofs.Common.{◌≡◌, ℕ, suc, ◌+◌, ◌*◌, ◌^◌, ◌<◌, ◌≤◌, Bool, true, false, ◌&&◌, List, [], ◌∷◌, ◌++◌, length, map, take, get_or, slice_get, Option, Some, None, if◌then◌else◌, refl, sym, ap, ◌∙◌, subst, arith}
use Rattle.std.proofs.lemmas.List.{length_push, take_more, length-map, length-take-le}
use Rattle.std.proofs.lemmas.Option.{get_or_from_slice_get}
use Rattle.std.proofs.lemmas.List.Elements.{All-push}
use Rattle.bool_circuit.specs.declared.gate.Wire.{Wire}
use Rattle.bool_circuit.specs.declared.gate.Gate.{Gate}
use Rattle.bool_circuit.specs.Circuit.{bool_xor, wire_value, wire_values, IsWireOf, AreWiresOf, Extends}
use Rattle.bool_circuit.proofs.Values.{extends_none}
use Rattle.bool_circuit.proofs.Extending.{extends_trans, wires_stay, wire_values_stay}
use Rattle.integer_bits.proofs.Congruent.{pow_suc}
use Rattle.integer_bits.specs.Numbers.{bit, natural_of}
use Rattle.integer_bits.specs.Steps.{carry_at, IsCarryOf, IsSumSoFar}

-- the two bits of a sum of two and of three bits
pub half_sum : (x y : Bool) → bit (bool_xor x y) + 2 * bit (x && y) ≡ bit x + bit y
half_sum true true = refl
half_sum true false = refl
half_sum false true = refl
half_sum false false = refl

pub full_sum : (x y c : Bool) → bit (bool_xor (bool_xor x y) c) + 2 * bit (if bool_xor x y then c else x) ≡ bit x + bit y + bit c
full_sum true true true = refl
full_sum true true false = refl
full_sum true false true = refl
full_sum true false false = refl
full_sum false true true = refl
full_sum false true false = refl
full_sum false false true = refl
full_sum false false false = refl

pub carry_small : (gates : List Gate) (carry : Option Wire) (bits : List Bool) → carry_at gates carry bits ≤ 1
carry_small gates None bits = omega arith
carry_small gates (Some w) bits = small (wire_value gates w bits)
  where
    small : (b : Bool) → bit b ≤ 1
    small true = omega arith
    small false = omega arith

-- an older carry stays
pub carry_stays : (old new : List Gate) (n : ℕ) (carry : Option Wire) (bits : List Bool) → Extends old new n → IsCarryOf old carry → carry_at new carry bits ≡ carry_at old carry bits
carry_stays old new n None bits e h = refl
carry_stays old new n (Some w) bits e h = ap bit (e.keeps w h bits)

pub natural_of-push : (bs : List Bool) (b : Bool) → natural_of (bs ++ b ∷ []) ≡ natural_of bs + bit b * 2 ^ length bs
natural_of-push [] b = omega arith
natural_of-push (c ∷ bs) b =
    let p : 2 ^ suc (length bs) ≡ 2 * 2 ^ length bs = grind arith in
    let m : bit b * 2 ^ suc (length bs) ≡ 2 * (bit b * 2 ^ length bs) = ap (λ q. bit b * q) p ∙ twice (bit b) (2 ^ length bs) in
    omega (arith, natural_of-push bs b, m)
  where
    twice : (j p : ℕ) → j * (2 * p) ≡ 2 * (j * p)
    twice j p = omega arith

pub map-push : {X Y : Type 0} (f : X → Y) → (xs : List X) (x : X) → map f (xs ++ x ∷ []) ≡ map f xs ++ f x ∷ []
map-push f [] x = refl
map-push f (y ∷ xs) x = ap (λ t. f y ∷ t) (map-push f xs x)

-- with one bit more
pub natural_of-values_push : (gates : List Gate) (ws : List Wire) (w : Wire) (bits : List Bool) (i : ℕ) → length ws ≡ i
    → natural_of (wire_values gates (ws ++ w ∷ []) bits) ≡ natural_of (wire_values gates ws bits) + bit (wire_value gates w bits) * 2 ^ i
natural_of-values_push gates ws w bits i l =
    let f : Wire → Bool = λ w. wire_value gates w bits in
    ap natural_of (map-push f ws w) ∙ natural_of-push (map f ws) (f w) ∙ ap (λ k. natural_of (map f ws) + bit (f w) * 2 ^ k) (length-map ws f ∙ l)

pub pow_more : (i : ℕ) → 2 ^ (i + 1) ≡ 2 * 2 ^ i
pow_more i = let e : i + 1 ≡ suc i = omega arith in ap (λ k. 2 ^ k) e ∙ pow_suc i

step : (r c s d a b x y f p q : ℕ) → q ≡ 2 * p → r + c * p ≡ a + b + f → s + 2 * d ≡ x + y + c → (r + s * p) + d * q ≡ (a + x * p) + (b + y * p) + f
step r c s d a b x y f p q e h k =
    let m : (s + 2 * d) * p ≡ (x + y + c) * p = ap (λ t. t * p) k in
    rw e (omega (arith, h, m))

pub sum_more : (old mid new : List Gate) (a b : List Wire) (first : Option Wire) (i : ℕ) (sum : List Wire) (carry : Option Wire) (x y s c : Wire) → IsSumSoFar old a b first i mid sum carry
    → i < length a → i < length b → AreWiresOf old a → AreWiresOf old b → x ≡ get_or a i x → y ≡ get_or b i y
    → Extends mid new 5 → IsWireOf new s → IsWireOf new c
    → ((bits : List Bool) → bit (wire_value new s bits) + 2 * bit (wire_value new c bits) ≡ bit (wire_value mid x bits) + bit (wire_value mid y bits) + carry_at mid carry bits)
    → IsSumSoFar old a b first (i + 1) new (sum ++ s ∷ []) (Some c)
sum_more old mid new a b first i sum carry x y s c so la lb wa wb ex ey ext ws wc eq = record {
  extends = (let z : 5 * (i + 1) ≡ 5 * i + 5 = omega arith in rw z (extends_trans old mid new (5 * i) 5 so.extends ext));
  size = length_push sum s ∙ ap (λ k. k + 1) so.size;
  wires = All-push (IsWireOf new) sum s (wires_stay mid new 5 sum ext so.wires) ws;
  carry_wire = wc;
  value = λ bits.
      let vx : wire_value mid x bits ≡ wire_value old x bits = so.extends.keeps x (subst (IsWireOf old) (sym ex) (wa i x la)) bits in
      let vy : wire_value mid y bits ≡ wire_value old y bits = so.extends.keeps y (subst (IsWireOf old) (sym ey) (wb i y lb)) bits in
      let ta : wire_values old (take (i + 1) a) bits ≡ wire_values old (take i a ++ x ∷ []) bits = ap (λ t. wire_values old t bits) (take_more a i x la ∙ ap (λ t. take i a ++ t ∷ []) (sym ex)) in
      let tb : wire_values old (take (i + 1) b) bits ≡ wire_values old (take i b ++ y ∷ []) bits = ap (λ t. wire_values old t bits) (take_more b i y lb ∙ ap (λ t. take i b ++ t ∷ []) (sym ey)) in
      let na = natural_of-values_push old (take i a) x bits i (length-take-le i a (omega arith)) in
      let nb = natural_of-values_push old (take i b) y bits i (length-take-le i b (omega arith)) in
      let ns = natural_of-values_push new sum s bits i so.size in
      let keep : wire_values new sum bits ≡ wire_values mid sum bits = wire_values_stay mid new 5 sum bits ext so.wires in
      let h = so.value bits in
      let k = eq bits in
      let pw : 2 ^ (i + 1) ≡ 2 * 2 ^ i = pow_more i in
      rw (ta, tb, na, nb, ns, keep) (step _ _ _ _ _ _ _ _ _ (2 ^ i) (2 ^ (i + 1)) pw h (k ∙ ap (λ v. bit v + bit (wire_value mid y bits) + carry_at mid carry bits) vx ∙ ap (λ v. bit (wire_value old x bits) + bit v + carry_at mid carry bits) vy));
}

pub no_sum : (old : List Gate) (a b : List Wire) (first : Option Wire) → IsCarryOf old first → IsSumSoFar old a b first 0 old [] first
no_sum old a b first h = record {
  extends = extends_none old (5 * 0);
  size = refl;
  wires = λ k d l. absurd (omega arith);
  carry_wire = h;
  value = λ bits. omega arith;
}

-- the same, as the loop has it
pub sum_pushed : (old mid new : List Gate) (a b : List Wire) (first : Option Wire) (i : ℕ) (sum more : List Wire) (carry : Option Wire) (x y s c : Wire) → IsSumSoFar old a b first i mid sum carry
    → i < length a → length b ≡ length a → AreWiresOf old a → AreWiresOf old b → slice_get a i ≡ Some x → slice_get b i ≡ Some y
    → Extends mid new 5 → IsWireOf new s → IsWireOf new c
    → ((bits : List Bool) → bit (wire_value new s bits) + 2 * bit (wire_value new c bits) ≡ bit (wire_value mid x bits) + bit (wire_value mid y bits) + carry_at mid carry bits)
    → more ≡ sum ++ s ∷ [] → IsSumSoFar old a b first (i + 1) new more (Some c)
sum_pushed old mid new a b first i sum more carry x y s c so la same wa wb ex ey ext ws wc eq e =
    rw e (sum_more old mid new a b first i sum carry x y s c so la (omega arith) wa wb (sym (get_or_from_slice_get a i x x ex)) (sym (get_or_from_slice_get b i y y ey)) ext ws wc eq)
