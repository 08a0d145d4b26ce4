-- What stays where a circuit grows, and which integers fit.
use Rattle.std.proofs.Common.{◌≡◌, ℕ, ◌-◌, ◌^◌, Bool, true, ◌&&◌, ◌||◌, List, [], ◌∷◌, length, refl, ap, ◌∙◌, ◌↔◌, arith}
use Rattle.std.specs.Prelude.{ℤ, pos, ◌+ℤ◌, ◌≤ℤ◌, ◌<ℤ◌, neg_ℤ, int_le, int_lt, nat_eq, IsTrue}
use Rattle.std.specs.List.{All}
use Rattle.std.proofs.lemmas.Int.{ints}
use Rattle.std.proofs.lemmas.List.Elements.{All-head, All-tail}
use Rattle.bool_circuit.specs.declared.gate.Wire.{Wire}
use Rattle.bool_circuit.specs.declared.gate.Gate.{Gate}
use Rattle.bool_circuit.specs.Circuit.{wire_value, IsWireOf, AreWiresOf, Extends}
use Rattle.bool_circuit.proofs.Extending.{wires_stay}
use Rattle.clf_tree.specs.CoreSoundness.{holds_integer}
use Rattle.integer_bits.specs.Numbers.{FitsBits}
use Rattle.set_bits.specs.declared.sets.Member.{Member}
use Rattle.set_bits.specs.declared.layout.Edge.{Edge}
use Rattle.set_bits.specs.Fitting.{IsRead}
use Rattle.set_bits.specs.Sets.{is_in, is_reached, IsSetOf}
use Rattle.set_bits.proofs.Combining.{is_in_stays, members_stay}

pub read_stays : (old new : List Gate) (n inputs : ℕ) → Extends old new n → IsRead old inputs → IsRead new inputs
read_stays old new n inputs e r = record {
  count = ap length e.same_inputs ∙ r.count;
  within = omega (arith, e.at_least, r.within);
  reads = λ w l bits. e.keeps w (omega (arith, r.within)) bits ∙ r.reads w l bits;
}

pub wire_stays : (old new : List Gate) (n : ℕ) (w : Wire) → Extends old new n → IsWireOf old w → IsWireOf new w
wire_stays old new n w e h = omega (arith, e.at_least)

pub wires_keep : (old new : List Gate) (n : ℕ) (ws : List Wire) → Extends old new n → AreWiresOf old ws → AreWiresOf new ws
wires_keep old new n ws e h = wires_stay old new n ws e h

pub edges_stay : (old new : List Gate) (n : ℕ) (edges : List Edge) → Extends old new n → All (λ e. IsWireOf old e.here) edges → All (λ e. IsWireOf new e.here) edges
edges_stay old new n edges e h = λ k d l. (let w = h k d l in let g = e.at_least in omega arith)

pub set_stays : (old new : List Gate) (n : ℕ) (set : List Member) → Extends old new n → IsSetOf old set → IsSetOf new set
set_stays old new n set e s = record { ascending = s.ascending; wires = members_stay n old new set e s.wires }

pub set_value_stays : (old new : List Gate) (n : ℕ) (set : List Member) (slot : ℕ) (bits : List Bool) → Extends old new n → IsSetOf old set → is_in new set slot bits ≡ is_in old set slot bits
set_value_stays old new n set slot bits e s = is_in_stays n old new set slot bits e s.wires

pub reached_stays : (old new : List Gate) (n : ℕ) (set : List Member) (edges : List Edge) (slot : ℕ) (bits : List Bool) → Extends old new n → IsSetOf old set → All (λ e. IsWireOf old e.here) edges → is_reached new set edges slot bits ≡ is_reached old set edges slot bits
reached_stays old new n set [] slot bits e s h = refl
reached_stays old new n set (x ∷ xs) slot bits e s h =
    ap (λ b. (nat_eq x.to slot && (b && wire_value new x.here bits)) || is_reached new set xs slot bits) (set_value_stays old new n set x.from bits e s)
    ∙ ap (λ b. (nat_eq x.to slot && (is_in old set x.from bits && b)) || is_reached new set xs slot bits) (e.keeps x.here (All-head (λ e. IsWireOf old e.here) x xs h) bits)
    ∙ ap (λ b. (nat_eq x.to slot && (is_in old set x.from bits && wire_value old x.here bits)) || b) (reached_stays old new n set xs slot bits e s (All-tail (λ e. IsWireOf old e.here) x xs h))

-- ---- integers

pub held_fits : (width : ℕ) (z : ℤ) → IsTrue (holds_integer width z) ↔ FitsBits width z
held_fits width z = (to, from)
  where
    low : (h : ℕ) → (int_le (neg_ℤ (pos h)) z && int_lt z (pos h)) ≡ true → pos 0 ≤ℤ (z +ℤ pos h)
    low h e = grind (arith, ints)

    high : (h : ℕ) → (int_le (neg_ℤ (pos h)) z && int_lt z (pos h)) ≡ true → z <ℤ pos h
    high h e = grind (arith, ints)

    both : (h : ℕ) → pos 0 ≤ℤ (z +ℤ pos h) → z <ℤ pos h → (int_le (neg_ℤ (pos h)) z && int_lt z (pos h)) ≡ true
    both h l g = grind (arith, ints)

    to : IsTrue (holds_integer width z) → FitsBits width z
    to e = record { low = low (2 ^ (width - 1)) e; high = high (2 ^ (width - 1)) e }

    from : FitsBits width z → IsTrue (holds_integer width z)
    from f = both (2 ^ (width - 1)) f.low f.high
