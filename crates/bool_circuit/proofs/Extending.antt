-- One extension of a circuit after another, and what it keeps.
use Rattle.std.proofs.Common.{◌≡◌, ℕ, ◌+◌, ◌≤◌, Bool, List, [], ◌∷◌, get_or, refl, ◌∙◌, arith}
use Rattle.std.proofs.lemmas.List.Elements.{All-head, All-tail}
use Rattle.bool_circuit.specs.declared.gate.Wire.{Wire}
use Rattle.bool_circuit.specs.declared.gate.Gate.{Gate}
use Rattle.bool_circuit.specs.Circuit.{IsWireOf, Extends, wire_values, AreWiresOf}

pub extends_trans : (a b c : List Gate) (m n : ℕ) → Extends a b m → Extends b c n → Extends a c (m + n)
extends_trans a b c m n e f = record {
  at_least = omega (arith, e.at_least, f.at_least);
  at_most = omega (arith, e.at_most, f.at_most);
  same_inputs = f.same_inputs ∙ e.same_inputs;
  keeps = λ w h bits. f.keeps w (omega (arith, e.at_least)) bits ∙ e.keeps w h bits;
}

pub extends_within : (a b : List Gate) (m n : ℕ) → m ≤ n → Extends a b m → Extends a b n
extends_within a b m n l e = record {
  at_least = e.at_least;
  at_most = omega (arith, e.at_most);
  same_inputs = e.same_inputs;
  keeps = e.keeps;
}

-- older wires stay
pub wires_stay : (old new : List Gate) (n : ℕ) (ws : List Wire) → Extends old new n → AreWiresOf old ws → AreWiresOf new ws
wires_stay old new n ws e h = λ k d l. let i : IsWireOf old (get_or ws k d) = h k d l in omega (arith, e.at_least)

-- and keep their values
pub wire_values_stay : (old new : List Gate) (n : ℕ) (ws : List Wire) (bits : List Bool) → Extends old new n → AreWiresOf old ws → wire_values new ws bits ≡ wire_values old ws bits
wire_values_stay old new n [] bits e h = refl
wire_values_stay old new n (w ∷ ws) bits e h =
    let here = e.keeps w (All-head (IsWireOf old) w ws h) bits in
    let rest = wire_values_stay old new n ws bits e (All-tail (IsWireOf old) w ws h) in
    cc
