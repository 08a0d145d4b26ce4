-- The tests of one tuple more.
use Rattle.std.proofs.Common.{ℕ, ◌+◌, ◌<◌, ◌++◌, List, [], ◌∷◌, length, map, take, get_or, sym}
use Rattle.std.proofs.Common.{ap, subst, ◌∙◌}
use Rattle.std.proofs.lemmas.List.{length_push, map-append, take_more}
use Rattle.std.proofs.lemmas.List.Elements.{All-push}
use Rattle.bool_circuit.specs.declared.gate.Wire.{Wire}
use Rattle.bool_circuit.specs.declared.gate.Gate.{Gate}
use Rattle.bool_circuit.specs.Circuit.{wire_value, IsWireOf, Extends}
use Rattle.bool_circuit.proofs.Extending.{wires_stay, wire_values_stay}
use Rattle.clf_tree.specs.Core.{Core}
use Rattle.set_bits.specs.declared.layout.Layout.{Layout}
use Rattle.told_constraints.specs.Told.{told, told_truth}
use Rattle.quantifier_encoder.specs.declared.tuples.Tuple.{Tuple}
use Rattle.constraint_encoder.specs.Encoded.{AreTestsOf, IsTruthOf}

pub tests_more : (mid new : List Gate) (n : ℕ) (layout : Layout) (e : Core) (slots : List ℕ) (ts : List Tuple) (i : ℕ)
    (d : Tuple) (ws : List Wire) (w : Wire) → i < length ts → Extends mid new n →
    AreTestsOf mid layout e slots (take i ts) ws → IsTruthOf new layout e (slots ++ (get_or ts i d).slots) w →
    AreTestsOf new layout e slots (take (i + 1) ts) (ws ++ w ∷ [])
tests_more mid new n layout e slots ts i d ws w l x a t =
    subst (λ us. AreTestsOf new layout e slots us (ws ++ w ∷ [])) (sym (take_more ts i d l)) (record {
      wires = All-push (IsWireOf new) ws w (wires_stay mid new n ws x a.wires) t.wire;
      each = length_push ws w ∙ ap (λ k. k + 1) a.each ∙ sym (length_push (take i ts) (get_or ts i d));
      value = λ bits.
          map-append (λ v. wire_value new v bits) ws (w ∷ [])
          ∙ ap (λ bs. bs ++ wire_value new w bits ∷ []) (wire_values_stay mid new n ws bits x a.wires ∙ a.value bits)
          ∙ ap (λ b. map (λ (u : Tuple). told_truth (told layout bits e (slots ++ u.slots))) (take i ts) ++ b ∷ []) (t.value bits)
          ∙ sym (map-append (λ (u : Tuple). told_truth (told layout bits e (slots ++ u.slots))) (take i ts) (get_or ts i d ∷ []));
    })
