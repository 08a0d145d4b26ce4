-- How far slots are compared.
use Rattle.std.specs.Prelude.{◌≡◌, ℕ, ◌+◌, ◌*◌, ◌&&◌, ◌||◌, not, Bool, List, length, nat_lt, IfSome}
use Rattle.std.specs.List.{filter, list_all}
use Rattle.bool_circuit.specs.declared.gate.Wire.{Wire}
use Rattle.bool_circuit.specs.declared.gate.Gate.{Gate}
use Rattle.bool_circuit.specs.Circuit.{wire_value, IsWireOf, Extends}
use Rattle.clf_tree.specs.declared.model.Clafer.{Clafer}
use Rattle.clf_tree.specs.Lists.{numbers_below}
use Rattle.set_bits.specs.declared.layout.Edge.{Edge}
use Rattle.set_bits.specs.declared.layout.Layout.{Layout}
use Rattle.set_bits.specs.Sets.{is_here}
use Rattle.canonical_encoder.specs.declared.parents.Compared.{Compared}
use Rattle.canonical_encoder.specs.Slots.{has_begun, follows_slot}

-- the wires are of the circuit
pub record AreCompared (gates : List Gate) (c : Compared) : Type 0 where
  pub earlier : IfSome c.earlier (IsWireOf gates)
  pub later : IfSome c.later (IsWireOf gates)
  pub right : IsWireOf gates c.right

-- one edge more of either slot is looked at
pub record IsNext (old : List Gate) (before : Compared) (first second : Edge) (new : List Gate) (c : Compared) : Type 0 where
  pub wires : AreCompared new c
  pub earlier : (bits : List Bool) → is_here new c.earlier bits ≡ (is_here old before.earlier bits || wire_value old first.here bits)
  pub later : (bits : List Bool) → is_here new c.later bits ≡ (is_here old before.later bits || wire_value old second.here bits)
  pub right : (bits : List Bool) → wire_value new c.right bits
      ≡ (wire_value old before.right bits && (not (is_here new c.later bits) || is_here new c.earlier bits))

-- of the first n edges of both slots, wherever one of the later slot is taken, so is one of the earlier that stands no later
abbrev pub begins_below : List Edge → List Edge → List Bool → ℕ → Bool
begins_below earlier later bits n = list_all (λ k. not (has_begun later bits (k + 1)) || has_begun earlier bits (k + 1)) (numbers_below n)

-- the first n edges of both slots are looked at
pub record IsComparedSoFar (old : List Gate) (earlier later : List Edge) (all : Wire) (n : ℕ)
    (new : List Gate) (c : Compared) : Type 0 where
  pub extends : Extends old new (5 * n)
  pub wires : AreCompared new c
  pub earlier_begun : (bits : List Bool) → is_here new c.earlier bits ≡ has_begun earlier bits n
  pub later_begun : (bits : List Bool) → is_here new c.later bits ≡ has_begun later bits n
  pub value : (bits : List Bool) → wire_value new c.right bits ≡ (wire_value old all bits && begins_below earlier later bits n)

-- how many wires the first n slots take at most
abbrev pub walk_cost : Layout → ℕ → ℕ
walk_cost layout n = 5 * length (filter (λ e. nat_lt e.from n) layout.parents) + 3 * n

-- the first n slots are looked at, each with the one behind it
pub record IsWalked (old : List Gate) (clafers : List Clafer) (layout : Layout) (all : Wire) (n : ℕ)
    (new : List Gate) (wire : Wire) : Type 0 where
  pub extends : Extends old new (walk_cost layout n)
  pub is_wire : IsWireOf new wire
  pub value : (bits : List Bool) → wire_value new wire bits
      ≡ (wire_value old all bits && list_all (follows_slot clafers layout bits) (numbers_below n))
