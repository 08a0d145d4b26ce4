-- The choice between two sets.
use Rattle.std.proofs.Common.{◌≡◌, ℕ, ◌+◌, ◌*◌, ◌<◌, ◌≤◌, Bool, true, false, not, ◌&&◌, ◌||◌, if◌then◌else◌, List, [], ◌++◌, length, Option, Some, None, refl, sym, ap, ◌∙◌, arith}
use Rattle.std.specs.Prelude.{is_some, IfSome}
use Rattle.bool_circuit.specs.declared.gate.Wire.{Wire}
use Rattle.bool_circuit.specs.declared.gate.Gate.{Gate}
use Rattle.bool_circuit.specs.Circuit.{wire_value, IsWireOf, Extends}
use Rattle.bool_circuit.proofs.Extending.{extends_within}
use Rattle.set_bits.specs.declared.sets.Member.{Member}
use Rattle.set_bits.specs.Sets.{is_in, is_here, IsSetOf}
use Rattle.set_bits.specs.Merging.{lowest_slot, taken, others, members_at, IsChosen, chosen_by}
use Rattle.set_bits.specs.Reaching.{present}
use Rattle.set_bits.proofs.Combining.{is_in_stays, taken_spent, some_taken, none_merged, merged_more, merged_value, either_monotone}

none_picked : (p : Bool) → (if p then false else false) ≡ false
none_picked true = refl
none_picked false = refl

pub first_alone : (p l : Bool) → (p && l) ≡ (if p then l else false)
first_alone true l = refl
first_alone false l = refl

pub second_alone : (p o r : Bool) → o ≡ not p → (o && r) ≡ (if p then false else r)
second_alone true o r e = ap (λ b. b && r) e
second_alone false o r e = ap (λ b. b && r) e

pub neither : (p : Bool) → false ≡ (if p then false else false)
neither p = sym (none_picked p)

pub none_picked_yet : (pick : Wire) (old : List Gate) (a b : List Member) → IsSetOf old a → IsSetOf old b → IsChosen pick old a b old [] a b
none_picked_yet pick old a b sa sb = none_merged (chosen_by old pick) (λ a b. a || b) old a b sa sb

-- the wires of a slot are no more than twice its members
pub slot_room : (s : ℕ) (rest_a rest_b : List Member) (left right : Option Wire) → lowest_slot rest_a rest_b ≡ Some s → left ≡ taken s rest_a → right ≡ taken s rest_b
    → (0 < present left + present right) × ((present left + present right) + (length (others s rest_a) + length (others s rest_b)) ≤ length rest_a + length rest_b)
slot_room s rest_a rest_b left right low el er = rw (el, er) (some_taken s rest_a rest_b low, (let p = taken_spent s rest_a in let q = taken_spent s rest_b in omega arith))

pub picked_more : (pick : Wire) (old mid new : List Gate) (a b set more rest_a rest_b ra rb : List Member) (s : ℕ) (left right here : Option Wire) → IsWireOf old pick → IsChosen pick old a b mid set rest_a rest_b → lowest_slot rest_a rest_b ≡ Some s
    → left ≡ taken s rest_a → ra ≡ others s rest_a → right ≡ taken s rest_b → rb ≡ others s rest_b → Extends mid new (present left + present right + 1) → IfSome here (IsWireOf new)
    → ((bits : List Bool) → is_here new here bits ≡ (if wire_value mid pick bits then is_here mid left bits else is_here mid right bits)) → (is_some here ≡ true → (is_some left || is_some right) ≡ true) → more ≡ set ++ members_at s here → IsChosen pick old a b new more ra rb
picked_more pick old mid new a b set more rest_a rest_b ra rb s left right here wp c low el er_a er er_b ext hw v hs em =
    let r = slot_room s rest_a rest_b left right low el er in
    let p : 0 < present left + present right = r.0 in
    merged_more (chosen_by old pick) (λ a b. a || b) old mid new a b set more rest_a rest_b ra rb s (present left + present right) left right here (λ bits. none_picked (wire_value old pick bits)) either_monotone c low el er_a er er_b
    p r.1 (extends_within mid new (present left + present right + 1) (2 * (present left + present right)) (omega arith) ext) hw
    (λ bits. v bits ∙ ap (λ p. if p then is_here mid left bits else is_here mid right bits) (c.extends.keeps pick wp bits)) hs em

pub picked_value : (pick : Wire) (old new : List Gate) (a b set rest_a rest_b : List Member) → IsChosen pick old a b new set rest_a rest_b → lowest_slot rest_a rest_b ≡ None
    → (bits : List Bool) (k : ℕ) → is_in new set k bits ≡ (if wire_value old pick bits then is_in old a k bits else is_in old b k bits)
picked_value pick old new a b set rest_a rest_b c e = merged_value (chosen_by old pick) (λ a b. a || b) old new a b set rest_a rest_b (λ bits. none_picked (wire_value old pick bits)) c e

-- behind the negation of the wire that picks
pub picked_behind : (n : ℕ) (old mid new : List Gate) (pick : Wire) (a b set : List Member) → Extends old mid n → IsWireOf old pick → IsSetOf old a → IsSetOf old b
    → ((bits : List Bool) (k : ℕ) → is_in new set k bits ≡ (if wire_value mid pick bits then is_in mid a k bits else is_in mid b k bits))
    → (bits : List Bool) (k : ℕ) → is_in new set k bits ≡ (if wire_value old pick bits then is_in old a k bits else is_in old b k bits)
picked_behind n old mid new pick a b set e wp sa sb v bits k =
    v bits k ∙ ap (λ p. if p then is_in mid a k bits else is_in mid b k bits) (e.keeps pick wp bits)
    ∙ ap (λ x. if wire_value old pick bits then x else is_in mid b k bits) (is_in_stays n old mid a k bits e sa.wires) ∙ ap (λ x. if wire_value old pick bits then is_in old a k bits else x) (is_in_stays n old mid b k bits e sb.wires)
