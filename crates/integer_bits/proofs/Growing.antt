-- Wires and parts in a circuit that grows by inputs.
use Rattle.std.proofs.Common.{◌≡◌, ◌+◌, ◌<◌, ◌≤◌, List, [], ◌∷◌, ◌++◌, length, ap, ◌∙◌, arith}
use Rattle.std.proofs.lemmas.List.{length_push}
use Rattle.std.proofs.lemmas.List.Elements.{All-push}
use Rattle.bool_circuit.specs.declared.gate.Wire.{Wire}
use Rattle.bool_circuit.specs.declared.gate.Gate.{Gate}
use Rattle.bool_circuit.specs.Circuit.{IsWireOf, AreWiresOf}
use Rattle.integer_bits.specs.declared.totals.Part.{Part}
use Rattle.integer_bits.specs.Totals.{IsPartOf, ArePartsOf}

wires_grow : (old new : List Gate) (ws : List Wire) → length old ≤ length new → AreWiresOf old ws → AreWiresOf new ws
wires_grow old new ws l h = λ k d i. (let w = h k d i in omega arith)

pub wire_pushed : (old new : List Gate) (g : Gate) (ws more : List Wire) (w : Wire) → new ≡ old ++ g ∷ [] → w.number ≡ length old → AreWiresOf old ws → more ≡ ws ++ w ∷ [] → AreWiresOf new more
wire_pushed old new g ws more w e n h em =
    let l : length new ≡ length old + 1 = ap length e ∙ length_push old g in
    rw em (All-push (IsWireOf new) ws w (wires_grow old new ws (omega arith) h) (omega arith))

pub part_pushed : (old mid new : List Gate) (ps more : List Part) (p : Part) → length old ≤ length mid → length mid ≤ length new → ArePartsOf old ps → AreWiresOf mid p.bits → 0 < length p.bits → IsWireOf new p.here → more ≡ ps ++ p ∷ [] → ArePartsOf new more
part_pushed old mid new ps more p l m h w s i em =
    rw em (All-push (IsPartOf new) ps p (λ k d j. let q = h k d j in record { here = omega (arith, q.here); wires = wires_grow old new _ (omega arith) q.wires; some = q.some }) (record { here = i; wires = wires_grow mid new p.bits m w; some = s }))
