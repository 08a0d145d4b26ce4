-- Wires in a circuit that grows by inputs.
use Rattle.std.proofs.Common.{◌≡◌, ◌+◌, ◌≤◌, List, [], ◌∷◌, ◌++◌, length, ap, ◌∙◌, arith}
use Rattle.std.proofs.lemmas.List.{length_push}
use Rattle.std.proofs.lemmas.List.Elements.{All-push}
use Rattle.bool_circuit.specs.declared.gate.Wire.{Wire}
use Rattle.bool_circuit.specs.declared.gate.Gate.{Gate}
use Rattle.bool_circuit.specs.Circuit.{IsWireOf, AreWiresOf}

wires_grow : (old new : List Gate) (ws : List Wire) → length old ≤ length new → AreWiresOf old ws → AreWiresOf new ws
wires_grow old new ws l h = λ k d i. (let w = h k d i in omega arith)

pub wire_pushed : (old new : List Gate) (g : Gate) (ws more : List Wire) (w : Wire) → new ≡ old ++ g ∷ [] → w.number ≡ length old → AreWiresOf old ws → more ≡ ws ++ w ∷ [] → AreWiresOf new more
wire_pushed old new g ws more w e n h em =
    let l : length new ≡ length old + 1 = ap length e ∙ length_push old g in
    rw em (All-push (IsWireOf new) ws w (wires_grow old new ws (omega arith) h) (omega arith))
