-- How far the merge of two sets has come.
use Rattle.std.specs.Prelude.{◌≡◌, ℕ, ◌+◌, ◌*◌, ◌≤◌, Bool, true, ◌||◌, List, [], ◌∷◌, length, min, nat_eq, if◌then◌else◌, Option, Some, None}
use Rattle.std.specs.List.{All}
use Rattle.bool_circuit.specs.declared.gate.Wire.{Wire}
use Rattle.bool_circuit.specs.declared.gate.Gate.{Gate}
use Rattle.bool_circuit.specs.Circuit.{wire_value, IsWireOf, Extends}
use Rattle.set_bits.specs.declared.sets.Member.{Member}
use Rattle.set_bits.specs.declared.sets.Operation.{Operation}
use Rattle.set_bits.specs.Sets.{is_in, has_slot, AscendFrom, combined, may_combine}

-- the lowest slot of two ascending lists
abbrev pub lowest_slot : List Member → List Member → Option ℕ
lowest_slot [] [] = None
lowest_slot (x ∷ xs) [] = Some x.slot
lowest_slot [] (y ∷ ys) = Some y.slot
lowest_slot (x ∷ xs) (y ∷ ys) = Some (min x.slot y.slot)

-- the wire of the first member, if that is of the slot
abbrev pub taken : ℕ → List Member → Option Wire
taken slot [] = None
taken slot (m ∷ ms) = if nat_eq m.slot slot then Some m.here else None

-- the members without the first one, if that is of the slot
abbrev pub others : ℕ → List Member → List Member
others slot [] = []
others slot (m ∷ ms) = if nat_eq m.slot slot then ms else m ∷ ms

-- a member for a slot, if there is a wire
abbrev pub members_at : ℕ → Option Wire → List Member
members_at slot None = []
members_at slot (Some w) = record { slot = slot; here = w } ∷ []

-- the slots ascend, from m on and below n
abbrev pub AscendBetween : ℕ → ℕ → List Member → Type 0
AscendBetween m n [] = m ≤ n
AscendBetween m n (x ∷ xs) = (m ≤ x.slot) × AscendBetween (x.slot + 1) n xs

-- the members made so far, and those that are left of both sets, where `made` is what is made of both at a slot, and `may` which slots may come
pub record IsMerged (made : List Bool → Bool → Bool → Bool) (may : Bool → Bool → Bool) (old : List Gate) (a b : List Member) (new : List Gate) (set rest_a rest_b : List Member) : Type 0 where
  pub next : ℕ
  pub steps : ℕ
  pub extends : Extends old new (2 * steps)
  pub spent : steps + (length rest_a + length rest_b) ≤ length a + length b
  pub few : length set ≤ steps
  pub ascending : AscendBetween 0 next set
  pub wires : All (λ m. IsWireOf new m.here) set
  pub from_a : AscendFrom next rest_a
  pub from_b : AscendFrom next rest_b
  pub wires_a : All (λ m. IsWireOf old m.here) rest_a
  pub wires_b : All (λ m. IsWireOf old m.here) rest_b
  pub value : (bits : List Bool) (slot : ℕ) → made bits (is_in old a slot bits) (is_in old b slot bits) ≡ (is_in new set slot bits || made bits (is_in old rest_a slot bits) (is_in old rest_b slot bits))
  pub left_a : (slot : ℕ) → has_slot rest_a slot ≡ true → has_slot a slot ≡ true
  pub left_b : (slot : ℕ) → has_slot rest_b slot ≡ true → has_slot b slot ≡ true
  pub slots : (slot : ℕ) → has_slot set slot ≡ true → may (has_slot a slot) (has_slot b slot) ≡ true

-- the same where an operation is made of them, and where one is chosen
abbrev pub IsCombined : Operation → List Gate → List Member → List Member → List Gate → List Member → List Member → List Member → Type 0
IsCombined operation = IsMerged (λ bits. combined operation) (may_combine operation)

abbrev pub chosen_by : List Gate → Wire → List Bool → Bool → Bool → Bool
chosen_by gates pick bits a b = if wire_value gates pick bits then a else b

abbrev pub IsChosen : Wire → List Gate → List Member → List Member → List Gate → List Member → List Member → List Member → Type 0
IsChosen pick old = IsMerged (chosen_by old pick) (λ a b. a || b) old
