-- Products by shifts.
use Rattle.std.proofs.Common.{◌≡◌, ℕ, suc, zero, ◌+◌, ◌^◌, ◌<◌, Bool, true, false, List, [], ◌∷◌, ◌++◌, length, map, take, drop, refl, sym, ap, ◌∙◌, subst, arith, add-one}
use Rattle.std.specs.Prelude.{ℤ, pos, negsuc, ◌+ℤ◌, ◌*ℤ◌, neg_ℤ}
use Rattle.std.specs.List.{All}
use Rattle.std.proofs.Math.IntN.{*ℤ-zero}
use Rattle.std.proofs.lemmas.Int.{ints}
use Rattle.std.proofs.lemmas.List.{take-append-drop, map-append, length-map}
use Rattle.std.proofs.lemmas.List.Elements.{All-cons, All-nil, All-append}
use Rattle.bool_circuit.specs.declared.gate.Wire.{Wire}
use Rattle.bool_circuit.specs.declared.gate.Gate.{Gate}
use Rattle.bool_circuit.specs.Circuit.{wire_value, wire_values, IsWireOf, AreWiresOf, Extends}
use Rattle.bool_circuit.proofs.Extending.{wire_values_stay}
use Rattle.integer_bits.proofs.Congruent.{congruent_add, congruent_trans, congruent_same, congruent_negative}
use Rattle.integer_bits.proofs.Resizing.{length_values}
use Rattle.integer_bits.proofs.Adding.{and_none}
use Rattle.integer_bits.proofs.Scaling.{times_split, congruent_times, integer_of-append, number_of-append}
use Rattle.integer_bits.proofs.Cutting.{stands_cut}
use Rattle.integer_bits.proofs.Widening.{integer_stays, stands_congruent, stands_equal}
use Rattle.integer_bits.specs.Numbers.{bit, natural_of, integer_of, integer_at, cut, IsCongruent, IsNumber, StandsFor, resized}
use Rattle.integer_bits.specs.Steps.{IsNarrowed}
use Rattle.integer_bits.specs.Totals.{copies, number_of, where_true}

pub copies_more : {X : Type 0} (n : ℕ) (x : X) → copies (n + 1) x ≡ copies n x ++ x ∷ []
copies_more {X = X} n x = rw (add-one) (more n x)
  where
    more : (n : ℕ) (x : X) → copies (suc n) x ≡ copies n x ++ x ∷ []
    more zero x = refl
    more (suc n) x = ap (λ t. x ∷ t) (more n x)

-- ---- a shifted number

All-copies : {X : Type 0} (P : X → Type 0) (n : ℕ) (x : X) → P x → All P (copies n x)
All-copies P zero x h = All-nil P
All-copies P (suc n) x h = All-cons P x (copies n x) h (All-copies P n x h)

pub wires_shifted : (gates : List Gate) (n : ℕ) (off : Wire) (a ws : List Wire) → ws ≡ copies n off ++ a → IsWireOf gates off → AreWiresOf gates a → AreWiresOf gates ws
wires_shifted gates n off a ws e h k = subst (AreWiresOf gates) (sym e) (All-append (IsWireOf gates) (copies n off) a (All-copies (IsWireOf gates) n off h) k)

natural_of-copies : (f : Wire → Bool) (n : ℕ) (w : Wire) → f w ≡ false → natural_of (map f (copies n w)) ≡ 0
natural_of-copies f zero w e = refl
natural_of-copies f (suc n) w e = let z : bit (f w) ≡ 0 = ap bit e in omega (arith, natural_of-copies f n w e)

length-copies : {X : Type 0} (n : ℕ) (x : X) → length (copies n x) ≡ n
length-copies zero x = refl
length-copies (suc n) x = ap suc (length-copies n x)

shifted_value : (gates : List Gate) (n : ℕ) (off : Wire) (a ws : List Wire) (bits : List Bool) → ws ≡ copies n off ++ a → wire_value gates off bits ≡ false → 0 < length a → integer_at gates ws bits ≡ pos (2 ^ n) *ℤ integer_at gates a bits
shifted_value gates n off a ws bits e v h =
    let f : Wire → Bool = λ w. wire_value gates w bits in
    ap (λ t. integer_at gates t bits) e ∙ ap integer_of (map-append f (copies n off) a) ∙ integer_of-append (map f (copies n off)) (map f a) (omega (arith, length_values gates a bits))
    ∙ ap (λ k. pos k +ℤ pos (2 ^ length (map f (copies n off))) *ℤ integer_at gates a bits) (natural_of-copies f n off v)
    ∙ ap (λ k. pos 0 +ℤ pos (2 ^ k) *ℤ integer_at gates a bits) (length-map (copies n off) f ∙ length-copies n off) ∙ none_and _
  where
    none_and : (x : ℤ) → pos 0 +ℤ x ≡ x
    none_and x = omega (arith, ints)

pub shifted_sum : (w n k : ℕ) (old mid new : List Gate) (off : Wire) (a b shifted few sum : List Wire) → Extends old mid k → IsNumber w old a → IsNumber w old b → shifted ≡ copies n off ++ b → ((bits : List Bool) → wire_value mid off bits ≡ false) → IsNarrowed w shifted few
    → StandsFor w new (λ bits. (integer_at mid a bits +ℤ integer_at mid few bits) +ℤ pos 0) sum → StandsFor w new (λ bits. integer_at old a bits +ℤ pos (2 ^ n) *ℤ integer_at old b bits) sum
shifted_sum w n k old mid new off a b shifted few sum e na nb es v nr s = stands_congruent w new _ _ sum s (λ bits.
    let ea : integer_at mid a bits ≡ integer_at old a bits = integer_stays k old mid a bits e na.wires in
    let eb : integer_at mid b bits ≡ integer_at old b bits = integer_stays k old mid b bits e nb.wires in
    let es' : integer_at mid shifted bits ≡ pos (2 ^ n) *ℤ integer_at old b bits = shifted_value mid n off b shifted bits es (v bits) nb.some ∙ ap (λ z. pos (2 ^ n) *ℤ z) eb in
    congruent_trans w _ _ _ (congruent_same w _ _ (and_none _)) (congruent_add w _ _ _ _ (congruent_same w _ _ ea) (congruent_trans w _ _ _ (nr.value mid bits) (congruent_same w _ _ es'))))

-- ---- the product with one bit

negative_bit : (h : Bool) (z : ℤ) → neg_ℤ (where_true h z) ≡ z *ℤ number_of true (h ∷ [])
negative_bit true (pos zero) = refl
negative_bit true (pos (suc n)) = once (pos (suc n))
  where
    once : (z : ℤ) → neg_ℤ z ≡ z *ℤ negsuc 0
    once z = omega (arith, ints)
negative_bit true (negsuc n) = once (negsuc n)
  where
    once : (z : ℤ) → neg_ℤ z ≡ z *ℤ negsuc 0
    once z = omega (arith, ints)
negative_bit false z = sym (*ℤ-zero z)

positive_bit : (h : Bool) (z : ℤ) → where_true h z ≡ z *ℤ number_of false (h ∷ [])
positive_bit true z = once z
  where
    once : (z : ℤ) → z ≡ z *ℤ pos 1
    once z = omega (arith, ints)
positive_bit false z = sym (*ℤ-zero z)

pub times_unsigned : (w : ℕ) (old new : List Gate) (by : Wire) (a part : List Wire) (signed : Bool) → signed ≡ false → StandsFor w new (λ bits. where_true (wire_value old by bits) (integer_at old a bits)) part
    → StandsFor w new (λ bits. integer_at old a bits *ℤ number_of signed (wire_value old by bits ∷ [])) part
times_unsigned w old new by a part signed e s = stands_equal w new _ _ part s (λ bits. positive_bit (wire_value old by bits) (integer_at old a bits) ∙ ap (λ b. integer_at old a bits *ℤ number_of b (wire_value old by bits ∷ [])) (sym e))

pub times_signed : (w : ℕ) (old mid new : List Gate) (by : Wire) (a part negative : List Wire) (signed : Bool) → signed ≡ true → StandsFor w mid (λ bits. where_true (wire_value old by bits) (integer_at old a bits)) part
    → StandsFor w new (λ bits. neg_ℤ (integer_at mid part bits)) negative → StandsFor w new (λ bits. integer_at old a bits *ℤ number_of signed (wire_value old by bits ∷ [])) negative
times_signed w old mid new by a part negative signed e s t = stands_congruent w new _ _ negative t (λ bits.
    congruent_trans w _ _ _ (congruent_negative w _ _ (s.value bits)) (congruent_same w _ _ (negative_bit (wire_value old by bits) (integer_at old a bits) ∙ ap (λ b. integer_at old a bits *ℤ number_of b (wire_value old by bits ∷ [])) (sym e))))

-- ---- the join of two products

pub times_joined : (w m n : ℕ) (old first next new : List Gate) (a by low high x y s : List Wire) (signed : Bool) (k : ℕ) → low ≡ take k by → high ≡ drop k by → 0 < length high → AreWiresOf old a → AreWiresOf old high
    → Extends old first m → Extends first next n
    → StandsFor w first (λ bits. integer_at old a bits *ℤ number_of false (wire_values old low bits)) x → StandsFor w next (λ bits. integer_at first a bits *ℤ number_of signed (wire_values first high bits)) y
    → StandsFor w new (λ bits. integer_at next x bits +ℤ pos (2 ^ length low) *ℤ integer_at next y bits) s
    → StandsFor w new (λ bits. integer_at old a bits *ℤ number_of signed (wire_values old by bits)) s
times_joined w m n old first next new a by low high x y s signed k el eh lh wa wh e f sx sy ss = stands_congruent w new _ _ s ss (λ bits.
    let joined : low ++ high ≡ by = ap (λ t. t ++ high) el ∙ ap (λ t. take k by ++ t) eh ∙ take-append-drop k by in
    let v : wire_values old by bits ≡ wire_values old low bits ++ wire_values old high bits = ap (λ t. wire_values old t bits) (sym joined) ∙ map-append (λ w. wire_value old w bits) low high in
    let number : number_of signed (wire_values old by bits) ≡ pos (natural_of (wire_values old low bits)) +ℤ pos (2 ^ length low) *ℤ number_of signed (wire_values old high bits) =
    ap (number_of signed) v ∙ number_of-append signed (wire_values old low bits) (wire_values old high bits) (omega (arith, length_values old high bits))
    ∙ ap (λ k. pos (natural_of (wire_values old low bits)) +ℤ pos (2 ^ k) *ℤ number_of signed (wire_values old high bits)) (length_values old low bits) in
    let whole : integer_at old a bits *ℤ number_of signed (wire_values old by bits) ≡ integer_at old a bits *ℤ pos (natural_of (wire_values old low bits)) +ℤ pos (2 ^ length low) *ℤ (integer_at old a bits *ℤ number_of signed (wire_values old high bits)) =
    ap (λ z. integer_at old a bits *ℤ z) number ∙ times_split (integer_at old a bits) (number_of signed (wire_values old high bits)) (natural_of (wire_values old low bits)) (2 ^ length low) in
    let ax : integer_at next x bits ≡ integer_at first x bits = integer_stays n first next x bits f sx.number.wires in
    let cx : IsCongruent w (integer_at next x bits) (integer_at old a bits *ℤ pos (natural_of (wire_values old low bits))) = congruent_trans w _ _ _ (congruent_same w _ _ ax) (sx.value bits) in
    let ya : integer_at first a bits *ℤ number_of signed (wire_values first high bits) ≡ integer_at old a bits *ℤ number_of signed (wire_values old high bits) =
    ap (λ z. z *ℤ number_of signed (wire_values first high bits)) (integer_stays m old first a bits e wa) ∙ ap (λ t. integer_at old a bits *ℤ number_of signed t) (wire_values_stay old first m high bits e wh) in
    let cy : IsCongruent w (integer_at next y bits) (integer_at old a bits *ℤ number_of signed (wire_values old high bits)) = congruent_trans w _ _ _ (sy.value bits) (congruent_same w _ _ ya) in
    congruent_trans w _ _ _ (congruent_add w _ _ _ _ cx (congruent_times w (pos (2 ^ length low)) _ _ cy)) (congruent_same w _ _ (sym whole)))

pub product_cut : (w : ℕ) (old new : List Gate) (a b by bys product r : List Wire) → 0 < w → IsNarrowed w b by → bys ≡ by → StandsFor w new (λ bits. integer_at old a bits *ℤ number_of true (wire_values old bys bits)) product → r ≡ resized w product
    → (bits : List Bool) → integer_at new r bits ≡ cut w (integer_at old a bits *ℤ integer_at old b bits)
product_cut w old new a b by bys product r l n eb s e bits =
    let whole : StandsFor w new (λ bits. integer_at old a bits *ℤ integer_at old b bits) product = stands_congruent w new _ _ product s (λ bits.
    congruent_trans w _ _ _ (congruent_same w _ _ (ap (λ t. integer_at old a bits *ℤ number_of true (wire_values old t bits)) eb)) (congruent_times w (integer_at old a bits) _ _ (n.value old bits))) in
    stands_cut w new _ product r whole l e bits
