-- Sets of slots on wires.
use Rattle.std.specs.Prelude.{◌≡◌, ℕ, ◌+◌, ◌≤◌, Bool, false, not, ◌&&◌, ◌||◌, List, [], ◌∷◌, length, map, nat_eq, if◌then◌else◌, Option, Some, None}
use Rattle.std.specs.List.{All, list_any}
use Rattle.bool_circuit.specs.declared.gate.Wire.{Wire}
use Rattle.bool_circuit.specs.declared.gate.Gate.{Gate}
use Rattle.bool_circuit.specs.Circuit.{bool_xor, wire_value, IsWireOf}
use Rattle.set_bits.specs.declared.sets.Member.{Member}
use Rattle.set_bits.specs.declared.sets.Operation.{Operation}
use Rattle.set_bits.specs.declared.sets.Operation.TheVariants.{Union, Meet, Minus, Differ}
use Rattle.set_bits.specs.declared.layout.Edge.{Edge}

-- whether a slot is in a set at given bits
abbrev pub is_in : List Gate → List Member → ℕ → List Bool → Bool
is_in gates [] slot bits = false
is_in gates (m ∷ ms) slot bits = (nat_eq m.slot slot && wire_value gates m.here bits) || is_in gates ms slot bits

-- the slots ascend, all from n on
abbrev pub AscendFrom : ℕ → List Member → Type 0
AscendFrom n [] = Unit {0}
AscendFrom n (m ∷ ms) = (n ≤ m.slot) × AscendFrom (m.slot + 1) ms

-- a set of the circuit
pub record IsSetOf (gates : List Gate) (set : List Member) : Type 0 where
  pub ascending : AscendFrom 0 set
  pub wires : All (λ m. IsWireOf gates m.here) set

-- a wire that may be missing is false then
abbrev pub is_here : List Gate → Option Wire → List Bool → Bool
is_here gates None bits = false
is_here gates (Some w) bits = wire_value gates w bits

-- the operations on sets, at one slot
abbrev pub combined : Operation → Bool → Bool → Bool
combined Union a b = a || b
combined Meet a b = a && b
combined Minus a b = a && not b
combined Differ a b = bool_xor a b

-- whether an edge that is there leads from the set to a slot
abbrev pub is_reached : List Gate → List Member → List Edge → ℕ → List Bool → Bool
is_reached gates set [] slot bits = false
is_reached gates set (e ∷ es) slot bits = (nat_eq e.to slot && (is_in gates set e.from bits && wire_value gates e.here bits)) || is_reached gates set es slot bits

-- whether a slot has a member
abbrev pub has_slot : List Member → ℕ → Bool
has_slot [] slot = false
has_slot (m ∷ ms) slot = nat_eq m.slot slot || has_slot ms slot

-- which slots may be made of two sets
abbrev pub may_combine : Operation → Bool → Bool → Bool
may_combine Union a b = a || b
may_combine Meet a b = a && b
may_combine Minus a b = a
may_combine Differ a b = a || b

-- whether an edge leads from a slot that has a member to a slot
abbrev pub leads_to : List Member → List Edge → ℕ → Bool
leads_to set [] slot = false
leads_to set (e ∷ es) slot = (nat_eq e.to slot && has_slot set e.from) || leads_to set es slot

-- how many edges begin at a slot that has a member
abbrev pub leading : List Member → List Edge → ℕ
leading set [] = 0
leading set (e ∷ es) = (if has_slot set e.from then 1 else 0) + leading set es

-- ---- how many edges begin at a set

-- whether a list has a number, and its numbers, each once
abbrev pub holds : List ℕ → ℕ → Bool
holds [] x = false
holds (y ∷ ys) x = nat_eq y x || holds ys x

abbrev pub different : List ℕ → List ℕ
different [] = []
different (x ∷ xs) = if holds xs x then different xs else x ∷ different xs

-- the number of slots into which edges lead
abbrev pub slots_into : List Edge → ℕ
slots_into edges = length (different (map (λ e. e.to) edges))

-- no two edges have the same ends
abbrev pub AreDistinct : List Edge → Type 0
AreDistinct [] = Unit {0}
AreDistinct (e ∷ es) = (list_any (λ f. nat_eq f.from e.from && nat_eq f.to e.to) es ≡ false) × AreDistinct es
