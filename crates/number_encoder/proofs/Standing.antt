-- Parts in a circuit that grows.
use Rattle.std.proofs.Common.{◌≡◌, ℕ, Bool, cond, List, [], ◌∷◌, get_or, refl, ap, ◌∙◌, arith}
use Rattle.std.proofs.lemmas.List.Elements.{All-head, All-tail}
use Rattle.bool_circuit.specs.declared.gate.Gate.{Gate}
use Rattle.bool_circuit.specs.Circuit.{wire_value, Extends}
use Rattle.bool_circuit.proofs.Extending.{wires_stay, wire_values_stay}
use Rattle.integer_bits.specs.declared.totals.Part.{Part}
use Rattle.integer_bits.specs.Numbers.{integer_of, integer_at}
use Rattle.integer_bits.specs.Totals.{IsPartOf, ArePartsOf}
use Rattle.number_encoder.specs.Values.{present_values}

pub part_stays : (old new : List Gate) (n : ℕ) (p : Part) → Extends old new n → IsPartOf old p → IsPartOf new p
part_stays old new n p x h = record { here = let w = h.here in omega (arith, x.at_least, w); wires = wires_stay old new n p.bits x h.wires; some = h.some }

pub parts_stay : (old new : List Gate) (n : ℕ) (ps : List Part) → Extends old new n → ArePartsOf old ps → ArePartsOf new ps
parts_stay old new n ps x h = λ k d l. part_stays old new n (get_or ps k d) x (h k d l)

pub integer_stays : (old new : List Gate) (n : ℕ) (p : Part) (bits : List Bool) → Extends old new n → IsPartOf old p → integer_at new p.bits bits ≡ integer_at old p.bits bits
integer_stays old new n p bits x h = ap integer_of (wire_values_stay old new n p.bits bits x h.wires)

pub present_stays : (old new : List Gate) (n : ℕ) (ps : List Part) (bits : List Bool) → Extends old new n → ArePartsOf old ps → present_values new ps bits ≡ present_values old ps bits
present_stays old new n [] bits x h = refl
present_stays old new n (p ∷ ps) bits x h =
    let mine = All-head (IsPartOf old) p ps h in
    let rest = present_stays old new n ps bits x (All-tail (IsPartOf old) p ps h) in
    ap (λ b. cond b (integer_at new p.bits bits ∷ present_values new ps bits) (present_values new ps bits)) (x.keeps p.here mine.here bits)
    ∙ ap (λ z. cond (wire_value old p.here bits) (z ∷ present_values new ps bits) (present_values new ps bits)) (integer_stays old new n p bits x mine)
    ∙ ap (λ zs. cond (wire_value old p.here bits) (integer_at old p.bits bits ∷ zs) zs) rest
